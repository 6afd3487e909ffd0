-- Places of a text.
use Prim.Native.Nat.{ℕ, ◌+◌, ◌≤◌, ◌<◌}
use mathlib.Core.Path.{◌≡◌, refl}
use mathlib.Core.Bool.{Bool, true, false}
use mathlib.Core.List.{List, [], ◌∷◌}
use native.Mathlib.Numerals.{add-one}
use lib.Dec.{leb}
use lib.ListN.{drop, length, get_or, drop_of_length-le}
use lib.Seq.{drop-cons}
use borrow.Author.Tests.{leb-true, leb-false}

module _ (t : List ℕ) (i : ℕ) where
  -- What stands at a place is the byte there and what stands behind it.
  pub at_place : i < length t → drop i t ≡ get_or t i 0 ∷ drop (i + 1) t
  at_place h = rw (drop-cons t i 0 h, ← add-one i)

  -- Behind the text nothing stands.
  pub over : length t ≤ i → drop i t ≡ []
  over h = drop_of_length-le t h

  -- Where something stands, the place is in the text.
  pub in_text : (drop i t ≡ [] → ⊥) → i < length t
  in_text f = go (leb (length t) i) refl
    where
      go : (b : Bool) → leb (length t) i ≡ b → i < length t
      go true l = absurd (f (drop_of_length-le t (leb-true (length t) i l)))
      go false l = leb-false (length t) i l
