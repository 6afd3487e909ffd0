-- `inside` meets its promise. Assumes nothing.
use native.Mathlib.Omega.{arith}
use Rattle.walker.specs.declared.act.Mode.TheVariants.{Want}
use Rattle.walker.proofs.WalkLaws.{begins}
use Rattle.walker.proofs.walk.Walk.inside.Goals as goal

pub returns : goal.returns
returns c = let a = c.args in begins a.text.now a.at Want c.token_from.result (omega arith) c.token_from.ensures
