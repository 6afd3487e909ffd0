-- `put_row` meets its promise. The loop's invariant: the numbers up to here were put down. Assumes nothing.
use native.Mathlib.Omega.{arith}
use Rattle.writer.specs.PutLaws.{numbers_up_to, row_more}
use Rattle.writer.proofs.out.put_row.Goals as goal

pub put_number-next-requires : goal.put_number-next-requires
put_number-next-requires c = let l = c.loop-n in
    omega (arith, l.invariant.place, l.invariant.long, numbers_up_to c.args.row.now l.n-index (omega arith))

pub loop-n-preserved : goal.loop-n-preserved
loop-n-preserved c = row_more c.args.row.now c.loop-n.n-index (omega arith) c.loop-n.invariant c.put_number-next.ensures
