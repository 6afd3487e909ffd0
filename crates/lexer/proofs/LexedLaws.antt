-- The lexemes from a place on, by the token that the code gives there.
use Prim.Native.Nat.{ℕ, ◌+◌, ◌≤◌, ◌<◌}
use mathlib.Core.Path.{◌≡◌, refl, ap, sym, ◌∙◌}
use mathlib.Core.Bool.{false}
use mathlib.Core.List.{List, ◌∷◌}
use native.Mathlib.Omega.{arith}
use lib.ListN.{drop, length, get_or, drop_of_length-le}
use Rattle.std.specs.Prelude.{Option, Some, None, unwrap_or}
use Rattle.notation.specs.LexicalText.{no_way}
use Rattle.notation.specs.LexicalToken.{token_of}
use Rattle.notation.specs.Lexer.{no, past, gap, lexemes}
use Rattle.lexer.specs.declared.token.Token.{Token}
use Rattle.lexer.specs.declared.token.Kind.{Kind}
use Rattle.lexer.specs.declared.token.Leaf.TheVariants as Leaf
use Rattle.lexer.specs.Meant.{meant_by, ahead_by, ahead, stops, IsToken, Lexed}
use Rattle.lexer.specs.declared.gap.OpenComment.{OpenComment}
use Rattle.std.specs.Prelude.{Ok, Err}
use Rattle.lexer.specs.Gaps.{Skips}
use Rattle.lexer.specs.Tokens.{simple, Begins, Stands}
use Rattle.lexer.proofs.KindLaws.{ahead_on}
use Rattle.lexer.proofs.GapLaws.{gap_past, gap_open, past_onward, open_onward, open_inside}
use Rattle.lexer.proofs.PlaceLaws.{at_place}
use Rattle.lexer.proofs.LexemeLaws.{lexemes_end, lexemes_open, lexemes_no, lexemes_token, lexemes_skip}
use Rattle.lexer.proofs.TokenLaws.{byte_here}

module _ (t : List ℕ) (at : ℕ) where
  -- No token is there.
  stopped : (k : Kind) (n : ℕ) → (IsToken k → ⊥) → (k ≡ Kind.Leaf Leaf.Class → ⊥) → (k ≡ Kind.End → n ≡ length t) → lexemes (drop at t) ≡ ahead t (simple k n n)
      → (at ≤ length t → at ≤ n) → n ≤ length t → Lexed t at (simple k n n)
  stopped k n s c e g l h = record {
    goes = g;
    inside = h;
    onward = l;
    longer = λ z. absurd (s z);
    within = λ z. absurd (s z);
    ends = e;
    named = λ z. absurd (s z);
    name_inside = λ z. absurd (s z);
    parted = λ z. absurd (c z);
  }

  -- What is there is none, or a comment is open.
  bad : (n : ℕ) → lexemes (drop at t) ≡ ahead t (simple Kind.Bad n n) → at ≤ n → n ≤ length t → Lexed t at (simple Kind.Bad n n)
  bad n g l h = stopped Kind.Bad n (λ z. no_way (cc)) (λ z. no_way (cc)) (λ z. no_way (cc)) g (λ _. l) h

  pub lexed_open : {c : OpenComment} → Skips t at (Err c) → Lexed t at (simple Kind.Bad c.at c.at)
  unfolding ahead_by meant_by
  lexed_open {c} g = bad c.at (lexemes_open (drop at t) (gap_open g refl)) (open_onward g refl) (open_inside g refl)

  module _ {n : ℕ} (g : Skips t at (Ok n)) where
    e : gap (drop at t) ≡ past (drop n t)
    e = gap_past g refl

    -- The text ends.
    pub lexed_end : length t ≤ n → Lexed t at (simple Kind.End (length t) (length t))
    unfolding ahead_by
    lexed_end h =
        stopped Kind.End (length t) (λ z. no_way (cc)) (λ z. no_way (cc)) (λ _. refl) (lexemes_end (drop at t) (e ∙ rw (drop_of_length-le t h))) (λ l. l) (omega arith)

    -- A token begins, or what is none.
    module _ (h : n < length t) where
      l : at ≤ n
      l = past_onward g refl

      front : gap (drop at t) ≡ past (get_or t n 0 ∷ drop (n + 1) t)
      front = e ∙ ap past (at_place t n h)

      lexed_token : {r : Token} → Begins t n r → Lexed t at r
      lexed_token {r} b =
          let s = b.here in
          record {
            goes =
                lexemes_token (drop at t) front (sym (byte_here t n h) ∙ b.goes)
                ∙ rw (lexemes_skip b.rest (drop r.next t) b.skips, ahead_on t r r.kind b.one, b.here, at_place t n h);
            inside = omega arith;
            onward = λ _. omega (arith, l);
            longer = λ _. omega (arith, b.longer);
            within = λ _. b.within;
            ends = λ k. let z : stops Kind.End ≡ false = rw k at b.one in no_way (cc);
            named = λ _. b.named ∙ rw s;
            name_inside = λ _. b.name_inside;
            parted = rw s b.parted;
          }

      lexed_none : token_of (drop n t) ≡ no → Lexed t at (simple Kind.Bad n n)
      unfolding ahead_by meant_by
      lexed_none f = bad n (lexemes_no (drop at t) front (sym (byte_here t n h) ∙ f) ∙ rw (at_place t n h)) l (omega arith)

      pub lexed_here : (r : Option Token) → Stands t n r → Lexed t at (unwrap_or r (simple Kind.Bad n n))
      lexed_here (Some r) b = lexed_token b
      lexed_here None f = lexed_none f
