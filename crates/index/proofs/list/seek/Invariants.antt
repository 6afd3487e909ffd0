-- The name is higher than each one before low, and lower than each one from high on; the measure is what is left between the two.
use Rattle.std.proofs.Common.{◌-◌, ◌≤◌, length}
use Rattle.notation.specs.At.{name_at}
use Rattle.index.specs.Listed.{names_at}
use Rattle.index.proofs.SeekLaws.{Left}
use Rattle.index.proofs.list.seek.Given as goal

abbrev pub invariant-loop-low : goal.invariant-loop-low
invariant-loop-low l = (l.high ≤ length l.at) × Left (name_at l.text l.p) (names_at l.text l.at (length l.at)) l.low l.high

abbrev pub decreases-loop-low : goal.decreases-loop-low
decreases-loop-low l = l.high - l.low
