-- How a run ends: the answer that an outcome gives, and what the slots get.
use Rattle.std.specs.Prelude.{ℕ, ◌-◌, ◌*◌, ◌≤◌, ◌≡◌, List, ◌++◌, length, get_or, replicate}
use Rattle.grammar.specs.Sound.{Bytes}
use Rattle.meaning.specs.Outcome.{pass, fail}
use Rattle.meaning.specs.Run.{Result, ran, refused}
use Rattle.meaning.specs.Recognise.{answer_of, flat, from_start}
use Rattle.meaning.specs.Demands.{Ranges}
use Rattle.parts.specs.declared.outcome.Outcome as o
use Rattle.parts.specs.declared.outcome.Outcome.TheVariants as ov
use Rattle.yarnspire.specs.declared.answer.Refusal.TheVariants.{Run}
use Rattle.machine.specs.Ready.{grammar_of, step_limit, depth_limit, room_limit, Coded}
use Rattle.yarnspire.specs.Answer.{six_of}
use Rattle.yarnspire.specs.declared.answer.Answer.{Answer}
use Rattle.yarnspire.specs.declared.answer.Answer.TheVariants.{Accepted, Failed, Refused}

-- The answer that an outcome gives.
abbrev pub answer_for : o.Outcome → Answer
answer_for (ov.Passed a h s d) = Accepted a s d h
answer_for (ov.Failed s d) = Failed s d
answer_for (ov.Refused k p s d) = Refused (Run k) p s d

-- How many slot numbers are handed over.
abbrev pub kept_of : o.Outcome → ℕ
kept_of (ov.Passed a h s d) = h * 3
kept_of (ov.Failed s d) = 0
kept_of (ov.Refused n p s d) = 0

-- The symbols of an outcome fit the slots.
abbrev pub Kept : (long : ℕ) → o.Outcome → Type 0
Kept long (ov.Passed a h s d) = (h ≤ 256) × (h * 3 ≤ long)
Kept long (ov.Failed s d) = Unit {0}
Kept long (ov.Refused n p s d) = Unit {0}

-- The entry checks are passed, the array holds the image's nodes and patterns, the limits and the image's length, and exactly 3R slots are lent.
pub record Runs (code image input slots : List ℕ) (start : ℕ) : Type 0 where
  pub coded : Coded image code (grammar_of image)
  pub begins : start ≡ (grammar_of image).start
  pub counted : get_or code 523 0 ≡ length image
  pub small : length image ≤ 16384
  pub bytes : Bytes input
  pub short : length input ≤ 65535
  pub ranges : Ranges (step_limit code) (depth_limit code) (room_limit code)
  pub lent : length slots ≡ room_limit code * 3

-- The first 3R slots as a run leaves them.
abbrev pub left_by : (R : ℕ) → Result → List ℕ
left_by R (ran (pass n τ) c) = flat τ ++ replicate (3 * R - 3 * length τ) 0
left_by R (ran fail c) = replicate (3 * R) 0
left_by R (refused number place c) = replicate (3 * R) 0

-- What the run from the start comes to.
abbrev pub result_of : (code image input : List ℕ) → Result
result_of code image input = from_start (grammar_of image) input (step_limit code) (depth_limit code) (room_limit code)

-- What a run answers and leaves.
pub record Ran (code image input after : List ℕ) (a : Answer) : Type 0 where
  pub answers : six_of a ≡ answer_of (result_of code image input)
  pub leaves : after ≡ left_by (room_limit code) (result_of code image input)
