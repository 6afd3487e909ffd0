-- A `!` and a `>` behind a gap.
use Prim.Native.Nat.{ℕ, ◌+◌, ◌≤◌, ◌<◌}
use mathlib.Core.Path.{◌≡◌, refl, sym}
use mathlib.Core.Bool.{true, false}
use mathlib.Core.List.{List, [], ◌∷◌}
use native.Mathlib.Omega.{arith}
use lib.Dec.{eqb}
use lib.ListN.{drop, length, get_or}
use borrow.Author.Tests.{eqb-true}
use Rattle.std.specs.Prelude.{Some, None, Ok, Err}
use Rattle.notation.specs.LexicalText.{no_way}
use Rattle.notation.specs.Lexer.{piece, no, past, sign_here, truth, truth_here}
use Rattle.lexer.specs.declared.gap.OpenComment.{OpenComment}
use Rattle.lexer.specs.Gaps.{Skips}
use Rattle.lexer.specs.Operators.{Sees, Closes}
use Rattle.lexer.specs.Tokens.{begins}
use Rattle.lexer.proofs.GapLaws.{gap_past, gap_open, past_onward, past_inside}
use Rattle.lexer.proofs.PlaceLaws.{at_place, in_text}

-- This byte stands at a place.
module _ (t : List ℕ) (n b : ℕ) (e : begins b (drop n t) ≡ true) where
  pub is_inside : n < length t
  unfolding begins
  is_inside = in_text t n (λ (z : drop n t ≡ []). let y : false ≡ true = rw z at e in no_way (cc))

  pub is_here : drop n t ≡ b ∷ drop (n + 1) t
  unfolding begins
  is_here =
      let f : eqb (get_or t n 0) b ≡ true = rw (at_place t n is_inside) at e in
      rw (sym (eqb-true (get_or t n 0) b f)) (at_place t n is_inside)

other_sign : (b : ℕ) (s : List ℕ) → begins b s ≡ false → sign_here b (past s) ≡ no
unfolding begins sign_here
other_sign b [] e = refl
other_sign b (x ∷ s) e = rw e

no_turn : (s : List ℕ) → begins 33 s ≡ false → truth_here (past s) ≡ piece true s
unfolding begins truth_here
no_turn [] e = refl
no_turn (x ∷ s) e = rw e

module _ (t : List ℕ) (at : ℕ) where
  pub truth_open : {c : OpenComment} → Skips t at (Err c) → Sees (truth (drop at t)) t at None
  unfolding truth_here
  truth_open g = rw (gap_open g refl)

  pub close_open : {c : OpenComment} → Skips t at (Err c) → Closes t at None
  unfolding sign_here
  close_open g = rw (gap_open g refl)

  module _ {n : ℕ} (g : Skips t at (Ok n)) where
    pub truth_not : begins 33 (drop n t) ≡ true → Sees (truth (drop at t)) t at (Some (false, n + 1))
    unfolding truth_here
    truth_not e = let l = is_inside t n 33 e in record { is = rw (gap_past g refl, is_here t n 33 e); onward = omega (arith, past_onward g refl); within = omega arith }

    pub truth_plain : begins 33 (drop n t) ≡ false → at ≤ length t → Sees (truth (drop at t)) t at (Some (true, n))
    unfolding truth_here
    truth_plain e l = record { is = rw (gap_past g refl) (no_turn (drop n t) e); onward = past_onward g refl; within = past_inside g refl l }

    pub close_here : begins 62 (drop n t) ≡ true → Closes t at (Some (n + 1))
    unfolding sign_here
    close_here e = let l = is_inside t n 62 e in record { is = rw (gap_past g refl, is_here t n 62 e); onward = omega (arith, past_onward g refl); within = omega arith }

    pub close_other : begins 62 (drop n t) ≡ false → Closes t at None
    close_other e = rw (gap_past g refl) (other_sign 62 (drop n t) e)
