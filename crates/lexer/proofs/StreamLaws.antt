-- A text's tokens, one after the other.
use Prim.Native.Nat.{ℕ, ◌-◌, ◌<◌}
use mathlib.Core.Path.{◌≡◌, refl, ap, sym, subst, ◌∙◌}
use mathlib.Core.Bool.{Bool, true, false}
use mathlib.Core.List.{List, [], ◌∷◌, ◌++◌, map}
use native.Mathlib.Omega.{arith}
use lib.Dec.{leb}
use lib.ListN.{drop, length, drop_of_length-le}
use borrow.Author.Tests.{leb-true, leb-false}
use Rattle.std.specs.Iterator.{Yields}
use Rattle.notation.specs.LexicalText.{no_way}
use Rattle.notation.specs.Lexer.{skip, lexemes}
use Rattle.notation.specs.Token.{bad, Lexeme}
use Rattle.lexer.specs.declared.token.Token.{Token}
use Rattle.lexer.specs.declared.token.Kind.{Kind}
use Rattle.lexer.specs.declared.tokens.Tokens.{Tokens}
use Rattle.lexer.specs.Meant.{meant_by, placed, ahead_by, stops, IsToken, Lexed}
use Rattle.lexer.specs.Stream.{Gives, left, Takes, Ends}
use Rattle.lexer.proofs.KindLaws.{ahead_on}
use Rattle.lexer.proofs.LexemeLaws.{lexemes_end}

module _ {text : List ℕ} {at : ℕ} {t : Token} (L : Lexed text at t) (i : IsToken t.kind) where
  goes_on : lexemes (drop at text) ≡ placed text t ∷ lexemes (drop t.next text)
  goes_on = L.goes ∙ ahead_on text t t.kind i

  -- A token stands only in the text.
  inside : at < length text
  unfolding skip
  inside = go (leb (length text) at) refl
    where
      none : lexemes [] ≡ []
      none = lexemes_end [] refl

      go : (b : Bool) → leb (length text) at ≡ b → at < length text
      go true e =
          let z : [] ≡ placed text t ∷ lexemes (drop t.next text) = sym none ∙ rw (drop_of_length-le text (leb-true (length text) at e)) at goes_on in no_way (cc)
      go false e = leb-false (length text) at e

  -- Behind a token less is left.
  pub nearer : length text - t.next < length text - at
  nearer = let l = inside in omega (arith, L.onward (omega arith), L.longer i, L.within i)

-- A step of a pass over a text's tokens: what is still to come is this token and what is to come behind it; or nothing more is there, but for what is no token.
module _ {s t : Tokens} {x : Token} (T : Takes s x t) where
  pub taken_text : t.text.now ≡ s.text.now
  taken_text = ap (λ s. s.text.now) T.on

  pub taken : left s ≡ placed s.text.now x ∷ left t
  taken = goes_on T.lexed T.one ∙ ap (λ r. placed s.text.now x ∷ left r) (sym T.on)

pub ended : {s t : Tokens} → Ends s t → (P : List Lexeme → Type 0) → ((l : Lexeme) → l.token ≡ bad → P (l ∷ []) → P []) → P (left s) → P []
unfolding ahead_by meant_by
ended {s} E P f p = go E.last.kind refl E.none (subst P E.lexed.goes p)
  where
    go : (k : Kind) → E.last.kind ≡ k → stops k ≡ true → P (ahead_by s.text.now E.last k) → P []
    go Kind.End e z q = q
    go Kind.Bad e z q = f (placed s.text.now E.last) (rw e) q
    go k e z q = no_way (cc)

-- The tokens that a pass hands out stand for the lexemes, one after the other, and behind them for those that are still to come.
pub handed_out : (s t : Tokens) (xs : List Token) → Yields Gives s xs t → left s ≡ map (placed s.text.now) xs ++ left t
handed_out s t [] e = ap left e
handed_out s t (x ∷ xs) (j, T, more) = taken T ∙ ap (λ ls. placed s.text.now x ∷ ls) (handed_out j t xs more ∙ ap (λ u. map (placed u) xs ++ left t) (taken_text T))
