-- The numbers of an image. 01, "The image", first paragraph: groups of seven bits, lowest group first; the top bit of a byte
-- is set if another group follows; at most three bytes; a last group of zero only for the single byte 00.
use Rattle.std.specs.Prelude.{ℕ, ◌+◌, ◌-◌, ◌*◌, ◌/◌, ◌%◌, List, [], ◌∷◌, ltb, eqb, drop, length}
use Rattle.format.specs.Reading.{Reading, got, fault, pick}

-- ## How a number is written

-- The bytes that write a number of at most two groups, the lowest group first.
abbrev pub two_groups : ℕ → List ℕ
two_groups n = pick (ltb n 128) (n ∷ []) ((n % 128 + 128) ∷ n / 128 ∷ [])

-- The bytes that write a number of at most three, which hold every number below 2,097,152.
abbrev pub groups : ℕ → List ℕ
groups n = pick (ltb n 128) (n ∷ []) ((n % 128 + 128) ∷ two_groups (n / 128))

-- ## How it is read

-- A number starts at `at`, in an image of `end` bytes. `low` is what its groups so far count, and the list is what comes
-- next. Where the image ends the number is cut (refusal 2, place the image's length). A byte 00 after
-- the first, which is a last group of zero, and a third byte that still continues are badly written (refusal 3, place the
-- number's start).
module _ (end at : ℕ) where
  abbrev pub third : ℕ → List ℕ → Reading ℕ
  third low [] = fault 2 end
  third low (b ∷ rest) = pick (eqb b 0) (fault 3 at) (pick (ltb b 128) (got (low + b * 16384) (at + 3)) (fault 3 at))

  abbrev pub second : ℕ → List ℕ → Reading ℕ
  second low [] = fault 2 end
  second low (b ∷ rest) =
      pick (eqb b 0) (fault 3 at)
      (pick (ltb b 128) (got (low + b * 128) (at + 2)) (third (low + (b - 128) * 128) rest))

  abbrev pub first : List ℕ → Reading ℕ
  first [] = fault 2 end
  first (b ∷ rest) = pick (ltb b 128) (got b (at + 1)) (second (b - 128) rest)

-- The number at a place of an image, with the place after it.
abbrev pub number_at : List ℕ → ℕ → Reading ℕ
number_at image at = first (length image) at (drop at image)
