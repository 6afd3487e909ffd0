-- `over` meets its promise. Assumes nothing.
use native.Mathlib.Omega.{arith}
use Rattle.walker.specs.declared.act.Mode.TheVariants.{Start}
use Rattle.walker.proofs.WalkLaws.{begins}
use Rattle.walker.proofs.walk.Walk.over.Goals as goal

pub returns : goal.returns
returns c = begins c.args.text.now 0 Start c.token_from.result (omega arith) c.token_from.ensures
