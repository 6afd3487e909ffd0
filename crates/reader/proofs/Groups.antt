-- The groups of a number, by the bytes that stand there.
use Prim.Native.Nat.{ℕ, ◌+◌, ◌-◌, ◌*◌, ◌≤◌, ◌<◌}
use mathlib.Core.Path.{◌≡◌}
use mathlib.Core.List.{List, ◌∷◌}
use native.Mathlib.Numerals.{add-one}
use lib.ListN.{drop, length, get_or, drop_of_length-le}
use lib.Seq.{drop-cons}
use borrow.Author.Tests.{lt-ltb, le-ltb, ne_eqb}
use Rattle.format.specs.Reading.{got, fault}
use Rattle.format.specs.Number.{first, second, third}

module _ (image : List ℕ) (at low i b : ℕ) where
  here : b ≡ get_or image i 0 → i < length image → drop i image ≡ b ∷ drop (i + 1) image
  here e h = rw (e, add-one i) (drop-cons image i 0 h)

  pub first_cut : length image ≤ i → fault 2 (length image) ≡ first (length image) at (drop i image)
  first_cut h = rw (drop_of_length-le image h)

  pub second_cut : length image ≤ i → fault 2 (length image) ≡ second (length image) at low (drop i image)
  second_cut h = rw (drop_of_length-le image h)

  pub third_cut : length image ≤ i → fault 2 (length image) ≡ third (length image) at low (drop i image)
  third_cut h = rw (drop_of_length-le image h)

  -- The byte b stands at i.
  module _ (e : b ≡ get_or image i 0) (h : i < length image) where
    pub first_ends : b < 128 → got b (at + 1) ≡ first (length image) at (drop i image)
    first_ends l = rw (here e h, lt-ltb b 128 l)

    pub first_more :
        (j : ℕ) → j ≡ i + 1 → 128 ≤ b → second (length image) at (b - 128) (drop j image) ≡ first (length image) at (drop i image)
    first_more j n l = rw (n, here e h, le-ltb b 128 l)

    pub second_zero : b ≡ 0 → fault 3 at ≡ second (length image) at low (drop i image)
    second_zero z = rw (here e h, z)

    pub second_ends : (b ≡ 0 → ⊥) → b < 128 → got (low + b * 128) (at + 2) ≡ second (length image) at low (drop i image)
    second_ends z l = rw (here e h, ne_eqb b 0 z, lt-ltb b 128 l)

    pub second_more :
        (j : ℕ) → j ≡ i + 1 → (b ≡ 0 → ⊥) → 128 ≤ b
        → third (length image) at (low + (b - 128) * 128) (drop j image) ≡ second (length image) at low (drop i image)
    second_more j n z l = rw (n, here e h, ne_eqb b 0 z, le-ltb b 128 l)

    pub third_zero : b ≡ 0 → fault 3 at ≡ third (length image) at low (drop i image)
    third_zero z = rw (here e h, z)

    pub third_ends : (b ≡ 0 → ⊥) → b < 128 → got (low + b * 16384) (at + 3) ≡ third (length image) at low (drop i image)
    third_ends z l = rw (here e h, ne_eqb b 0 z, lt-ltb b 128 l)

    pub third_more : (b ≡ 0 → ⊥) → 128 ≤ b → fault 3 at ≡ third (length image) at low (drop i image)
    third_more z l = rw (here e h, ne_eqb b 0 z, le-ltb b 128 l)
