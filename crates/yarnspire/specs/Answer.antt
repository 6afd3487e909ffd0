-- 01's number and values for each case of an answer. "An answer carries: kind, consumed, steps, greatest depth entered, symbols held, place."
use Rattle.std.specs.Prelude.{ℕ, Result, Ok, Err, ◌≤◌, ◌≡◌, ◌⊎◌}
use Rattle.meaning.specs.Recognise as m
use Rattle.reader.specs.declared.refusal.Refusal.{Refusal}
use Rattle.reader.specs.Meant.{number_of as fault_number}
use Rattle.parts.specs.Packed.{number_of as stop_number}
use Rattle.yarnspire.specs.declared.answer.Refusal as why
use Rattle.yarnspire.specs.declared.answer.Refusal.TheVariants.{Image, Input, Limits, Slots, Run}
use Rattle.yarnspire.specs.declared.answer.Answer.{Answer}
use Rattle.yarnspire.specs.declared.answer.Answer.TheVariants.{Accepted, Failed, Refused}

-- "Check gives 1 to 8 or good." For C: number 0 and place 0 stand for good.
abbrev pub number_of : Result (Unit {0}) Refusal → ℕ
number_of (Ok _) = 0
number_of (Err f) = fault_number f.fault

abbrev pub place_of : Result (Unit {0}) Refusal → ℕ
place_of (Ok _) = 0
place_of (Err f) = f.place

-- The refusals by their numbers in 01, "Refusal numbers": 1 to 8 what is wrong with the image, 9 to 11 what is seen before the run, 12 to 15 what stops the run.
abbrev pub refusal_number : why.Refusal → ℕ
refusal_number (Image fault) = fault_number fault
refusal_number Input = 9
refusal_number Limits = 10
refusal_number Slots = 11
refusal_number (Run stop) = stop_number stop

-- Six numbers, in 01's order.
abbrev pub numbers : (kind consumed steps depth symbols place : ℕ) → m.Answer
numbers kind consumed steps depth symbols place =
    record { kind = kind; consumed = consumed; steps = steps; depth = depth; symbols = symbols; place = place }

-- Kind 0 for accepted, 99 for failed, else the refusal's number. "Accepted: place 0. Failed: consumed, symbols and place 0." A refusal has
-- consumed and symbols 0.
abbrev pub six_of : Answer → m.Answer
six_of (Accepted consumed steps depth symbols) = numbers 0 consumed steps depth symbols 0
six_of (Failed steps depth) = numbers 99 0 steps depth 0 0
six_of (Refused refusal place steps depth) = numbers (refusal_number refusal) 0 steps depth 0 place

-- Accepted, failed, or a refusal of the list.
abbrev pub Kind : ℕ → Type 0
Kind kind = (kind ≡ 0) ⊎ (kind ≡ 99) ⊎ ((1 ≤ kind) × (kind ≤ 15))

-- A refusal's number is one of the list, never 0 or 99.
abbrev pub Listed : Answer → Type 0
Listed (Accepted consumed steps depth symbols) = Unit {0}
Listed (Failed steps depth) = Unit {0}
Listed (Refused refusal place steps depth) = (1 ≤ refusal_number refusal) × (refusal_number refusal ≤ 15)
