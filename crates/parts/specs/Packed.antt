-- An outcome in one number: place in 16 bits, symbols held in 9, depth in 9, steps in 26, and the kind above them. So a passed outcome is less than
-- 2 ^ 60, and is at once the number that the next expression starts from.
use Rattle.std.specs.Prelude.{ℕ, ◌+◌, ◌*◌, ◌/◌, ◌%◌, eqb, ltb}
use Rattle.format.specs.Reading.{pick}
use Rattle.parts.specs.declared.outcome.Stop.{Stop}
use Rattle.parts.specs.declared.outcome.Stop.TheVariants.{Steps, Depth, Room, Round}
use Rattle.parts.specs.declared.outcome.Outcome.{Outcome}
use Rattle.parts.specs.declared.outcome.Outcome.TheVariants.{Passed, Failed, Refused}
use Rattle.parts.specs.declared.outcome.Packed.{Packed}

-- 01, "Refusal numbers": 12 "step limit", 13 "depth limit", 14 "room", 15 "empty round".
abbrev pub number_of : Stop → ℕ
number_of Steps = 12
number_of Depth = 13
number_of Room = 14
number_of Round = 15

abbrev pub stop_of : ℕ → Stop
stop_of n = pick (eqb n 12) Steps (pick (eqb n 13) Depth (pick (eqb n 14) Room Round))

abbrev pub packed : (kind at held steps depth : ℕ) → ℕ
packed kind at held steps depth = at + held * 65536 + depth * 33554432 + steps * 17179869184 + kind * 1152921504606846976

-- What a number has of each part, but of the steps only a passed one.
unfoldable pub at_of : Packed → ℕ
at_of r = r.bits % 65536

unfoldable pub held_of : Packed → ℕ
held_of r = r.bits / 65536 % 512

unfoldable pub depth_of : Packed → ℕ
depth_of r = r.bits / 33554432 % 512

unfoldable pub steps_of : Packed → ℕ
steps_of r = r.bits / 17179869184

-- By its kind, which is above 2 ^ 60: 0 passed, 1 failed, else the number of what stopped the run. (The kinds 2 to 11, which no outcome has, would be opened
-- as 15 is.)
abbrev pub opening : ℕ → Outcome
opening n =
    pick (ltb n 1152921504606846976) (Passed (n % 65536) (n / 65536 % 512) (n / 17179869184) (n / 33554432 % 512))
    (pick (ltb n 2305843009213693952) (Failed (n / 17179869184 % 67108864) (n / 33554432 % 512))
    (Refused (stop_of (n / 1152921504606846976)) (n % 65536) (n / 17179869184 % 67108864) (n / 33554432 % 512)))

unfoldable pub opened_of : Packed → Outcome
opened_of r = opening r.bits

-- The kind that an outcome has in one number.
abbrev pub kind_of : Outcome → ℕ
kind_of (Passed a h s d) = 0
kind_of (Failed s d) = 1
kind_of (Refused k p s d) = number_of k
