-- `read_whole` meets its promise. The loop's invariant: what was taken can be gone on with, and what is left of the walk comes to what the whole comes to. The
-- measure is what is left to go. Assumes nothing.
use mathlib.Core.Path.{◌≡◌}
use lib.ListN.{length}
use Rattle.walker.specs.Walks.{to_go}
use Rattle.walker.proofs.ReadLaws.{Stands}
use Rattle.walker.proofs.walk.read_whole.Given as goal

abbrev pub invariant-loop-walk : goal.invariant-loop-walk
invariant-loop-walk l = Stands l.text l.stack l.w × (length l.stack ≡ 65536)

abbrev pub decreases-loop-walk : goal.decreases-loop-walk
decreases-loop-walk l = to_go l.text l.w
