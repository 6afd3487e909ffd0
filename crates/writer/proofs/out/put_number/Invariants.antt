-- `put_number` meets its promise. The loop's invariant: some groups were put down, and those of what is left are the others. The measure is what is left. Assumes
-- nothing.
use Rattle.writer.specs.PutLaws.{Putting}
use Rattle.writer.proofs.out.put_number.Given as goal

abbrev pub invariant-loop-left : goal.invariant-loop-left
invariant-loop-left l = Putting l.initial.out l.at l.n l.out l.next l.left

abbrev pub decreases-loop-left : goal.decreases-loop-left
decreases-loop-left l = l.left
