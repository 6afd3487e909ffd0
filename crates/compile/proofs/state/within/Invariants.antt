-- `within` is safe and ends: what is left of the text falls.
use Rattle.std.proofs.Common.{◌-◌, length}
use Rattle.compile.proofs.state.within.Given as goal

abbrev pub decreases-loop-i : goal.decreases-loop-i
decreases-loop-i l = length l.rest - l.i
