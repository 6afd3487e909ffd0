-- `settle` meets its promise. Assumes nothing.
use native.Mathlib.Omega.{arith}
use Rattle.emitter.specs.ShownLaws.{settles_set}
use Rattle.emitter.proofs.state.settle.Goals as goal

pub returns : goal.returns
returns c = let a = c.args in settles_set a.done.now a.m a.depth a.openers a.ended (omega arith)
