-- What recognise answers, and what the slots hold after it, for every image, input, limits and slot buffer. 01, "Refusal numbers" and
-- the paragraph below its table.
use Rattle.std.specs.Prelude.{ℕ, ◌-◌, ◌*◌, Bool, not, List, [], ◌∷◌, ◌++◌, leb, ltb, length, drop, replicate}
use Rattle.grammar.specs.Grammar.{Grammar, node}
use Rattle.format.specs.Reading.{pick}
use Rattle.format.specs.Image.{Checked, good, refused, read_image}
use Rattle.meaning.specs.State.{State, outset}
use Rattle.meaning.specs.Outcome.{pass, fail, ◌and◌, pass_if, swap, restored, closed, matched, compared}
use Rattle.meaning.specs.Run.{Result, ran, refused as stopped, rounds, run}

-- "An answer carries: kind, consumed, steps, greatest depth entered, symbols held, place." Kind 0 is accepted, 99 failed, else it is the
-- refusal's number.
pub record Answer : Type 0 where
  pub kind : ℕ
  pub consumed : ℕ
  pub steps : ℕ
  pub depth : ℕ
  pub symbols : ℕ
  pub place : ℕ

-- An answer, and the slots as the call leaves them.
pub record Called : Type 0 where
  pub answer : Answer
  pub slots : List ℕ

-- "Accepted: place 0. Failed: consumed, symbols and place 0. Refusals 12 to 15: consumed and symbols 0, steps and depth as far as
-- charged."
abbrev pub answer_of : Result → Answer
answer_of (ran (pass n τ) c) = record { kind = 0; consumed = n; steps = c.steps; depth = c.depth; symbols = length τ; place = 0 }
answer_of (ran fail c) = record { kind = 99; consumed = 0; steps = c.steps; depth = c.depth; symbols = 0; place = 0 }
answer_of (stopped number place c) = record { kind = number; consumed = 0; steps = c.steps; depth = c.depth; symbols = 0; place = place }

-- "table, start, end for each held symbol, oldest first"
abbrev pub flat : State → List ℕ
flat [] = []
flat (s ∷ σ) = s.table ∷ s.from ∷ s.to ∷ flat σ

-- "and zeros up to 3R". "Numbers past 3R are never written."
abbrev pub filled : (R : ℕ) → State → List ℕ → List ℕ
filled R τ slots = flat τ ++ (replicate (3 * R - 3 * length τ) 0 ++ drop (3 * R) slots)

-- "Failed and 12 to 15 put zeros in the first 3R."
abbrev pub slots_after : (R : ℕ) → Result → List ℕ → List ℕ
slots_after R (ran (pass n τ) c) slots = filled R τ slots
slots_after R (ran fail c) slots = filled R [] slots
slots_after R (stopped number place c) slots = filled R [] slots

-- "Refusals 1 to 11: all zero but number and place, slots untouched."
abbrev pub refusal : (number place : ℕ) → List ℕ → Called
refusal number place slots = record {
  answer = record { kind = number; consumed = 0; steps = 0; depth = 0; symbols = 0; place = place };
  slots = slots;
}

-- The run from the start node, at place 0, with every condition true and no symbol held.
abbrev pub from_start : Grammar → List ℕ → (B D R : ℕ) → Result
from_start g input B D R = run g input R D B outset (node g g.start) 0 []

abbrev pub between : (low high n : ℕ) → Bool
between low high n = leb low n and leb n high

-- "steps B 1 to 1,000,000; depth D 1 to 256; room R 0 to 256"
abbrev pub allowed : (B D R : ℕ) → Bool
allowed B D R = between 1 1000000 B and (between 1 256 D and between 0 256 R)

-- The entry checks 9, 10 and 11 in their order, and then the run.
abbrev pub on_good : Grammar → (input : List ℕ) (B D R : ℕ) (slots : List ℕ) → Called
on_good g input B D R slots =
    pick (ltb 65535 (length input)) (refusal 9 0 slots)
    (pick (not (allowed B D R)) (refusal 10 0 slots)
    (pick (ltb (length slots) (3 * R)) (refusal 11 0 slots)
    (record { answer = answer_of (from_start g input B D R); slots = slots_after R (from_start g input B D R) slots })))

-- "The image is read from front to back; the first fault is the answer. Then 9, 10, 11, then the run."
abbrev pub on_image : Checked → (input : List ℕ) (B D R : ℕ) (slots : List ℕ) → Called
on_image (good g) = on_good g
on_image (refused number place) = λ input B D R slots. refusal number place slots

unfoldable pub recognise : (image input : List ℕ) (B D R : ℕ) (slots : List ℕ) → Called
unfolding run rounds pass_if swap restored closed matched compared
recognise image = on_image (read_image image)
