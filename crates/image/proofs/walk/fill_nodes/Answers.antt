-- `fill_nodes` meets its promise: each node is read and put down, up to the first that cannot be. Assumes nothing.
use Rattle.std.proofs.Common.{arith}
use Rattle.image.proofs.FillLaws.{one_more, one_stops}
use Rattle.image.specs.Word.{word_at}
use Rattle.image.proofs.walk.fill_nodes.Goals as goal

pub returns-in_err-code : goal.returns-in_err-code
returns-in_err-code c = let h = c.args.head in
    one_stops (λ image. word_at image h.tables h.conditions h.nodes) 0 h.nodes c.loop-own.invariant c.from_residual.ensures.1 (omega arith)
    c.in_err-code.ensures

pub loop-own-preserved : goal.loop-own-preserved
loop-own-preserved c = let h = c.args.head in
    one_more (λ image. word_at image h.tables h.conditions h.nodes) 0 h.nodes c.loop-own.invariant c.loop-own.own (omega arith) (omega arith)
    c.in_ok-code.ensures
