-- Two outcomes that a promise permits are equal.
use Rattle.std.specs.Prelude.{ℕ, ◌+◌, max, ◌≡◌}
use Rattle.std.proofs.Common.{sym, ◌∙◌}
use Rattle.tally.specs.declared.Tally.{Tally}
use Rattle.tally.specs.Charged.{charged}

-- `max`, which carries the depth: the number.
pub one_greater : (a b : ℕ) {r r' : ℕ} → r ≡ max a b → r' ≡ max a b → r ≡ r'
one_greater a b e f = e ∙ sym f

-- `charge`: the whole tally that was lent.
pub one_charged : (before : Tally) (depth : ℕ) {after after' : Tally} → after ≡ charged before depth → after' ≡ charged before depth → after ≡ after'
one_charged before depth e f = e ∙ sym f

-- `entered`: the whole tally that is handed back.
pub one_entered : (spent deepest depth : ℕ) {r r' : Tally} → r ≡ record { steps = spent + 1; depth = max deepest depth }
    → r' ≡ record { steps = spent + 1; depth = max deepest depth } → r ≡ r'
one_entered spent deepest depth e f = e ∙ sym f
