-- What the kinds that run one expression inside them make of its outcome. Each mirrors a function of the definitions: `swap`, `restored`,
-- `compared`, `stored`, `closed`.
use Rattle.std.specs.Prelude.{ℕ, ◌+◌, ◌*◌, ◌≤◌, ◌≡◌, Bool, List, ltb, length}
use Rattle.format.specs.Reading.{pick}
use Rattle.parts.specs.declared.outcome.Stop.TheVariants.{Room}
use Rattle.parts.specs.declared.outcome.Outcome.{Outcome}
use Rattle.parts.specs.declared.outcome.Outcome.TheVariants.{Passed, Failed, Refused}
use Rattle.parts.specs.Slots.{putting, Closes}

-- An outcome that came from place `at` of n bytes with `held` symbols: it went forward, holds no fewer symbols and at most `room`, and its
-- tally fits. Of a refusal nothing is asked: it is handed on as it is.
abbrev pub Bounds : (n at held room : ℕ) → Outcome → Type 0
Bounds n at held room (Passed a h s d) = (at ≤ a) × (a ≤ n) × (held ≤ h) × (h ≤ room) × (s ≤ 1000000) × (d ≤ 256)
Bounds n at held room (Failed s d) = (s ≤ 1000000) × (d ≤ 256)
Bounds n at held room (Refused k p s d) = Unit {0}

-- The symbols that an outcome holds lie in the slots.
abbrev pub Lent : (slots : List ℕ) → Outcome → Type 0
Lent slots (Passed a h s d) = h * 3 ≤ length slots
Lent slots (Failed s d) = Unit {0}
Lent slots (Refused k p s d) = Unit {0}

-- A test that nothing stands inside of: it passes to a place, or it fails.
abbrev pub given_of : Bool → (at held steps depth : ℕ) → Outcome
given_of ok at held steps depth = pick ok (Passed at held steps depth) (Failed steps depth)

-- Not: passed becomes failed, failed passes where it began.
abbrev pub negated_of : (at held : ℕ) → Outcome → Outcome
negated_of at held (Passed a h s d) = Failed s d
negated_of at held (Failed s d) = Passed at held s d
negated_of at held (Refused n p s d) = Refused n p s d

-- On: what was stored inside is dropped.
abbrev pub restored_of : (held : ℕ) → Outcome → Outcome
restored_of held (Passed a h s d) = Passed a held s d
restored_of held (Failed s d) = Failed s d
restored_of held (Refused n p s d) = Refused n p s d

-- Is and Isa: what was stored inside is dropped, and a test on the end decides.
abbrev pub compared_of : (ℕ → Bool) → (held : ℕ) → Outcome → Outcome
compared_of test held (Passed a h s d) = given_of (test a) a held s d
compared_of test held (Failed s d) = Failed s d
compared_of test held (Refused n p s d) = Refused n p s d

-- Def: what was stored inside is dropped, and the name is stored if there is room. The outcome, and the slots then.
abbrev pub defined_of : (room table at held : ℕ) → Outcome → Outcome
defined_of room table at held (Passed a h s d) = pick (ltb held room) (Passed a (held + 1) s d) (Refused Room at s d)
defined_of room table at held (Failed s d) = Failed s d
defined_of room table at held (Refused n p s d) = Refused n p s d

abbrev pub defined_in : (room table at held : ℕ) → Outcome → List ℕ → List ℕ
defined_in room table at held (Passed a h s d) slots = pick (ltb held room) (putting slots held table at a) slots
defined_in room table at held (Failed s d) slots = slots
defined_in room table at held (Refused n p s d) slots = slots

-- Block and Local: of what was stored inside, the table's own is dropped.
abbrev pub ClosedOf : (table held : ℕ) → Outcome → (before after : List ℕ) → Outcome → Type 0
ClosedOf table held (Passed a h s d) before after o = (k : ℕ) × (o ≡ Passed a k s d) × Closes table held h before after k
ClosedOf table held (Failed s d) before after o = (o ≡ Failed s d) × (after ≡ before)
ClosedOf table held (Refused n p s d) before after o = (o ≡ Refused n p s d) × (after ≡ before)
