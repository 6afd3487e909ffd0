-- `row_end` meets its promise. The loop's invariant: the row ends where the rest of it does. The measure is what is left of the text. Assumes nothing.
use Rattle.std.proofs.Common.{◌-◌, length}
use Rattle.chars.proofs.RowLaws.{Passed}
use Rattle.chars.proofs.row.row_end.Given as goal

abbrev pub invariant-loop-i : goal.invariant-loop-i
invariant-loop-i g l = Passed (g.W.Written.row_to l.stop) l.text l.from l.i

abbrev pub decreases-loop-i : goal.decreases-loop-i
decreases-loop-i g l = length l.text - l.i
