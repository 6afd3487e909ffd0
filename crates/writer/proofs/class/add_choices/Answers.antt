-- `add_choices` meets its promise. The loop's invariant: those that were added and those that are still to come are all. Assumes nothing.
use Prim.Native.Nat.{◌+◌, ◌-◌}
use mathlib.Core.Path.{refl}
use native.Mathlib.Omega.{arith}
use Rattle.grammar.specs.Expr.{Choice}
use Rattle.writer.proofs.ChoiceLaws.{choosing_more, choosing_all}
use Rattle.writer.proofs.class.add_choices.Goals as goal

pub loop-i-preserved : goal.loop-i-preserved
loop-i-preserved c = let l = c.loop-i in
    choosing_more l.invariant (omega arith) (c.add-r.ensures (Choice (c.args.k + (l.i - 1)) (l.r.nodes - 1)) refl)

pub returns : goal.returns
returns c = choosing_all c.loop-i.invariant (omega arith)
