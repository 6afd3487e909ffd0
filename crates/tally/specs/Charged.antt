-- The running tally. 01, "Steps, depth, room": "Entering an expression costs 1. Star costs 1 for each round tried", "a round adds no depth",
-- "One running tally of steps and greatest depth is carried through the run".
use Rattle.std.specs.Prelude.{ℕ, ◌+◌, max, ◌≡◌}
use Rattle.std.proofs.Math.Nat.{max-zero}
use Rattle.tally.specs.declared.Tally.{Tally}

-- One step more; and the greatest depth so far, which is the one that is entered where that is greater.
abbrev pub charged : Tally → (depth : ℕ) → Tally
charged t depth = record { steps = t.steps + 1; depth = max t.depth depth }

-- "A round adds no depth": where nothing is entered that is deeper than 0, the depth stays.
pub later_round : (spent deepest : ℕ) → ◌≡◌ {A = Tally} (record { steps = spent + 1; depth = max deepest 0 }) (record { steps = spent + 1; depth = deepest })
later_round spent deepest = λ i. record { steps = spent + 1; depth = max-zero deepest i }
