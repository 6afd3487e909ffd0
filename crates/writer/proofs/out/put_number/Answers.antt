-- `put_number` meets its promise. The loop's invariant: some groups were put down, and those of what is left are the others. The measure is what is left. Assumes
-- nothing.
use native.Mathlib.Omega.{arith}
use Rattle.writer.specs.PutLaws.{putting_first, putting_inside, putting_more, putting_last}
use Rattle.writer.proofs.out.put_number.Goals as goal

pub loop-left-init : goal.loop-left-init
loop-left-init c = let a = c.args in putting_first a.out.now a.at a.n (omega arith)

pub loop-left-preserved : goal.loop-left-preserved
loop-left-preserved c = let i = c.loop-left.invariant in putting_more i (putting_inside i c.requires) (omega arith)

pub returns : goal.returns
returns c = let i = c.loop-left.invariant in putting_last i (putting_inside i c.requires) (omega arith)
