-- `add_part` meets its promise. Assumes nothing.
use borrow.Author.Tests.{eq-eqb, ne_eqb}
use Rattle.grammar.specs.Expr.{Byte, Range}
use Rattle.writer.specs.PutLaws.{adds_as}
use Rattle.writer.proofs.class.add_part.Goals as goal

pub returns-then-p : goal.returns-then-p
returns-then-p c = let p = c.args.p in
    adds_as (rw (eq-eqb p.lo p.hi c.if-p.true)) (c.add.ensures (Byte p.lo) (rw c.from.ensures))

pub returns : goal.returns
returns c = let p = c.args.p in
    adds_as (rw (ne_eqb p.lo p.hi c.if-p.false)) (c.add-2.ensures (Range p.lo p.hi) (rw (c.from-2.ensures, c.from-3.ensures)))
