-- What the values of the code say, in the terms of the definitions.
use Rattle.std.specs.Prelude.{ℕ, ◌≡◌, Result, Ok, Err}
use Rattle.reader.specs.declared.number.Number.{Number}
use Rattle.reader.specs.declared.refusal.Fault.{Fault}
use Rattle.reader.specs.declared.refusal.Fault.TheVariants.{TooLong, Cut, BadNumber, Edition, Counts, Tag, Range, Trailing}
use Rattle.reader.specs.declared.refusal.Refusal.{Refusal}
use Rattle.reader.specs.declared.reader.Reader.{Reader}
use Rattle.format.specs.Reading.{Reading, got, fault}
use Rattle.format.specs.Number.{number_at}

-- The faults by their numbers in 01, "Refusal numbers": what is wrong with an image is 1 to 8.
abbrev pub number_of : Fault → ℕ
number_of TooLong = 1
number_of Cut = 2
number_of BadNumber = 3
number_of Edition = 4
number_of Counts = 5
number_of Tag = 6
number_of Range = 7
number_of Trailing = 8

-- A value that was read, a reader then standing at `at`; or a refusal.
abbrev pub told : {A : Type 0} → Result A Refusal → (at : ℕ) → Reading A
told (Ok value) at = got value at
told (Err f) at = fault (number_of f.fault) f.place

-- A number and the place after it, or a refusal.
abbrev pub reading : Result Number Refusal → Reading ℕ
reading (Ok n) = got n.value n.next
reading (Err f) = fault (number_of f.fault) f.place

-- Where a reader stands after a reading at `at`: behind what was read, or where it stood if that was refused.
abbrev pub behind : {A : Type 0} → Reading A → (at : ℕ) → ℕ
behind (got value next) at = next
behind (fault number place) at = at

-- The reader after it has handed out a number: over the same image, and behind the number that stands at its place.
abbrev pub moved : Reader → Reader
moved r = record { image = r.image; at = behind (number_at r.image.now r.at) r.at }

-- What a function that reads by a reader gives: what `p` reads at the reader's place. The reader then stands behind it, or where it stood if that was
-- refused, over the same image.
pub record Reads {A : Type 0} (p : ℕ → Reading A) (before after : Reader) (r : Result A Refusal) : Type 0 where
  pub result : told r after.at ≡ p before.at
  pub stands : after.at ≡ behind (p before.at) before.at
  pub image : after.image ≡ before.image

-- The same but for where the reader stands after a refusal.
pub record Gives {A : Type 0} (p : ℕ → Reading A) (before after : Reader) (r : Result A Refusal) : Type 0 where
  pub result : told r after.at ≡ p before.at
  pub image : after.image ≡ before.image
