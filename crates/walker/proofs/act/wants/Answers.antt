-- `wants` meets its promise: by the token's kind. Assumes nothing.
use mathlib.Core.Path.{sym, ◌∙◌}
use native.Mathlib.Omega.{arith}
use Rattle.walker.proofs.ActLaws.{leaf_taken, pushes, no_item}
use Rattle.walker.proofs.act.wants.Goals as goal

pub returns-in-Leaf : goal.returns-in-Leaf
returns-in-Leaf c = let a = c.args in leaf_taken a.height a.stack.now c.in-Leaf.is

pub returns-in-Some : goal.returns-in-Some
returns-in-Some c = let a = c.args in pushes a.height a.stack.now c.in-Some.begun (omega arith) (sym c.entry.ensures ∙ c.in-Some.is)

pub returns-in-None : goal.returns-in-None
returns-in-None c = let a = c.args in no_item a.height a.stack.now c.in_default.not-Leaf (sym c.entry.ensures ∙ c.in-None.is)
