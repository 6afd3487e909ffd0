-- The lexemes of a text, by its front: a gap, and then a token or the end.
use Prim.Native.Nat.{ℕ, zero, suc, ◌<◌}
use mathlib.Core.Path.{◌≡◌, refl, ap, sym, ◌∙◌}
use mathlib.Core.List.{List, [], ◌∷◌}
use native.Mathlib.Omega.{arith}
use lib.ListN.{length}
use Rattle.notation.specs.Token.{Token, bad, Lexeme}
use Rattle.notation.specs.Lexical.{Gap, Spelled}
use Rattle.notation.specs.LexicalGap.{Gives, gives, gap_sound}
use Rattle.notation.specs.LexicalText.{Yields, yields}
use Rattle.notation.specs.LexicalToken.{token_sound}
use Rattle.notation.specs.Lexer.{Piece, piece, no, Skipped, past, unclosed, gap, token, lexed, lexemes}
use Rattle.notation.specs.ShorterLaws.{gap_shorter, token_shorter}

abbrev at : List ℕ → Token → Lexeme
at s t = record { here = s; token = t }

-- ## By the fuel

module _ (fuel : ℕ) (s : List ℕ) where
  fuel_end : gap s ≡ past [] → lexed (suc fuel) s ≡ []
  unfolding lexed
  fuel_end e = rw (e, lexed)

  fuel_open : {c : List ℕ} → gap s ≡ unclosed c → lexed (suc fuel) s ≡ at c bad ∷ []
  unfolding lexed
  fuel_open e = rw (e, lexed)

  module _ {b : ℕ} {u : List ℕ} (e : gap s ≡ past (b ∷ u)) where
    fuel_no : token b u ≡ no → lexed (suc fuel) s ≡ at (b ∷ u) bad ∷ []
    unfolding lexed
    fuel_no f = rw (e, f, lexed)

    fuel_token : {t : Token} {v : List ℕ} → token b u ≡ piece t v → lexed (suc fuel) s ≡ at (b ∷ u) t ∷ lexed fuel v
    unfolding lexed
    fuel_token f = rw (e, f, lexed)

-- Where there is enough of it, how much makes no difference.
enough : (m n : ℕ) (s : List ℕ) → length s < m → length s < n → lexed m s ≡ lexed n s
enough zero n s h k = absurd (omega arith)
enough (suc m) zero s h k = absurd (omega arith)
enough (suc m) (suc n) s h k = go (gap s) refl (gap_sound s) (λ r. enough m n r)
  where
    on : (b : ℕ) (u : List ℕ) → gap s ≡ past (b ∷ u) → Gap s (b ∷ u) → (p : Piece Token) → token b u ≡ p → Yields (λ t r. Spelled t (b ∷ u) r) p
        → ((r : List ℕ) → length r < m → length r < n → lexed m r ≡ lexed n r) → lexed (suc m) s ≡ lexed (suc n) s
    on b u e g no f y ih = fuel_no m s e f ∙ sym (fuel_no n s e f)
    on b u e g (piece t r) f (yields S) ih =
        let i = gap_shorter g in let j = token_shorter S in
        fuel_token m s e f ∙ ap (λ ls. at (b ∷ u) t ∷ ls) (ih r (omega arith) (omega arith)) ∙ sym (fuel_token n s e f)

    go : (o : Skipped) → gap s ≡ o → Gives (Gap s) o
        → ((r : List ℕ) → length r < m → length r < n → lexed m r ≡ lexed n r) → lexed (suc m) s ≡ lexed (suc n) s
    go (unclosed c) e g ih = fuel_open m s e ∙ sym (fuel_open n s e)
    go (past []) e g ih = fuel_end m s e ∙ sym (fuel_end n s e)
    go (past (b ∷ u)) e (gives g) ih = on b u e g (token b u) refl (token_sound b u) ih

-- ## All lexemes

module _ (s : List ℕ) where
  pub lexemes_end : gap s ≡ past [] → lexemes s ≡ []
  unfolding lexemes
  lexemes_end e = fuel_end (length s) s e

  pub lexemes_open : {c : List ℕ} → gap s ≡ unclosed c → lexemes s ≡ at c bad ∷ []
  unfolding lexemes
  lexemes_open e = fuel_open (length s) s e

  module _ {b : ℕ} {u : List ℕ} (e : gap s ≡ past (b ∷ u)) where
    pub lexemes_no : token b u ≡ no → lexemes s ≡ at (b ∷ u) bad ∷ []
    unfolding lexemes
    lexemes_no f = fuel_no (length s) s e f

    pub lexemes_token : {t : Token} {v : List ℕ} → token b u ≡ piece t v → lexemes s ≡ at (b ∷ u) t ∷ lexemes v
    unfolding lexemes
    lexemes_token {t} {v} f =
        fuel_token (length s) s e f
        ∙ ap (λ ls. at (b ∷ u) t ∷ ls) (enough (length s) (suc (length v)) v (shorter (rw e at (gap_sound s)) (rw f at (token_sound b u))) (omega arith))
      where
        shorter : Gives (Gap s) (past (b ∷ u)) → Yields (λ t r. Spelled t (b ∷ u) r) (piece t v) → length v < length s
        shorter (gives g) (yields S) = let i = gap_shorter g in let j = token_shorter S in omega arith

-- A gap more makes no difference.
pub lexemes_skip : (s r : List ℕ) → gap s ≡ gap r → lexemes s ≡ lexemes r
lexemes_skip s r q = go (gap r) refl
  where
    on : (b : ℕ) (u : List ℕ) → gap r ≡ past (b ∷ u) → (p : Piece Token) → token b u ≡ p → lexemes s ≡ lexemes r
    on b u e no f = lexemes_no s (q ∙ e) f ∙ sym (lexemes_no r e f)
    on b u e (piece t v) f = lexemes_token s (q ∙ e) f ∙ sym (lexemes_token r e f)

    go : (o : Skipped) → gap r ≡ o → lexemes s ≡ lexemes r
    go (unclosed c) e = lexemes_open s (q ∙ e) ∙ sym (lexemes_open r e)
    go (past []) e = lexemes_end s (q ∙ e) ∙ sym (lexemes_end r e)
    go (past (b ∷ u)) e = on b u e (token b u) refl
