-- `fill_patterns` meets its promise: each pattern is read and put down, up to the first that cannot be. Assumes nothing.
use Rattle.std.proofs.Common.{◌+◌, arith}
use Rattle.image.proofs.FillLaws.{one_more, one_stops}
use Rattle.format.specs.Image.{bounded}
use Rattle.image.proofs.walk.fill_patterns.Goals as goal

pub returns-in_err-code : goal.returns-in_err-code
returns-in_err-code c = let h = c.args.head in
    one_stops (λ image t. bounded image 7 0 h.nodes) 512 h.tables c.loop-t.invariant c.from_residual.ensures.1 (omega arith)
    c.in_err-code.ensures.reads

pub loop-t-preserved : goal.loop-t-preserved
loop-t-preserved c = let h = c.args.head in
    one_more (λ image t. bounded image 7 0 h.nodes) 512 h.tables c.loop-t.invariant (512 + c.loop-t.t) (omega arith) (omega arith)
    c.in_ok-code.ensures.reads
