-- Lists: the front of what is left of one, and what holds of every number of one.
use Prim.Native.Nat.{ℕ, zero, suc, ◌≤◌, ◌<◌}
use mathlib.Core.Path.{◌≡◌}
use mathlib.Core.List.{List, [], ◌∷◌, ◌++◌}
use native.Mathlib.Omega.{arith}
use lib.ListN.{length, get_or, set, take, drop}
use Rattle.notation.specs.LexicalText.{no_way}
use Rattle.patterns.specs.Passed.{Every}

module _ {A : Type 0} where
  pub front_left : (z : A) (xs : List A) (i : ℕ) {x : A} {rest : List A} → drop i xs ≡ x ∷ rest → (i < length xs) × (get_or xs i z ≡ x) × (drop (suc i) xs ≡ rest)
  front_left z [] zero e = no_way (cc)
  front_left z [] (suc i) e = no_way (cc)
  front_left z (y ∷ xs) zero e = (omega arith, cc, cc)
  front_left z (y ∷ xs) (suc i) e = let r = front_left z xs i e in (omega (arith, r.0), r.1, r.2)

  pub none_left : (xs : List A) (i : ℕ) → drop i xs ≡ [] → length xs ≤ i
  none_left [] i e = omega arith
  none_left (x ∷ xs) zero e = no_way (cc)
  none_left (x ∷ xs) (suc i) e = omega (arith, none_left xs i e)

module _ (Q : ℕ → Type 0) where
  pub every_at : (xs : List ℕ) → Every Q xs → (i : ℕ) → i < length xs → Q (get_or xs i 0)
  every_at [] h i l = absurd (omega arith)
  every_at (x ∷ xs) h zero l = h.0
  every_at (x ∷ xs) h (suc i) l = every_at xs h.1 i (omega arith)

  pub every_put : (i : ℕ) (xs : List ℕ) (y : ℕ) → Every Q xs → Q y → Every Q (take i xs ++ y ∷ drop i xs)
  every_put zero xs y h q = (q, h)
  every_put (suc i) [] y h q = (q, tt)
  every_put (suc i) (x ∷ xs) y h q = (h.0, every_put i xs y h.1 q)

  pub every_set : (i : ℕ) (xs : List ℕ) (y : ℕ) → Every Q xs → Q y → Every Q (set xs i y)
  every_set i [] y h q = tt
  every_set zero (x ∷ xs) y h q = (q, h.1)
  every_set (suc i) (x ∷ xs) y h q = (h.0, every_set i xs y h.1 q)
