-- What reading at a place of an image gives, and how one reading follows another.
use Rattle.std.specs.Prelude.{ℕ, Bool, true, false}

infixr 20 ◌then◌
-- A value and the place after it; or the number and the place of a refusal of 01's table.
pub data Reading (A : Type 0) : Type 0 where
  got : (value : A) (next : ℕ) → Reading A
  fault : (number place : ℕ) → Reading A

-- 01, "Refusal numbers": "The image is read from front to back; the first fault is the answer."
abbrev pub ◌then◌ : {A B : Type 0} → Reading A → (A → ℕ → Reading B) → Reading B
◌then◌ (got value next) more = more value next
◌then◌ (fault number place) more = fault number place

-- The first if true, else the second.
abbrev pub pick : {A : Type 0} → Bool → A → A → A
pick true x y = x
pick false x y = y
