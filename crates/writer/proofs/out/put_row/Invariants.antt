-- `put_row` meets its promise. The loop's invariant: the numbers up to here were put down. Assumes nothing.
use Rattle.std.proofs.Common.{take}
use Rattle.format.specs.Written.{numbers}
use Rattle.writer.specs.Put.{Wrote}
use Rattle.writer.proofs.out.put_row.Given as goal

abbrev pub invariant-loop-n : goal.invariant-loop-n
invariant-loop-n l = Wrote l.initial.out l.at l.out l.next (numbers (take l.n-index l.row))
