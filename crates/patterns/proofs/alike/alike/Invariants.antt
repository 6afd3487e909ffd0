-- `alike` meets its promise. The loop's invariant: the two walks from here on come to what they come to from the start. The measure is what is to go
-- of the first. Assumes nothing.
use Rattle.walker.specs.Walks.{to_go}
use Rattle.patterns.proofs.BesideLaws.{Beside}
use Rattle.patterns.proofs.alike.alike.Given as goal

abbrev pub invariant-loop-symbol : goal.invariant-loop-symbol
invariant-loop-symbol l = Beside l.text l.p l.q l.left l.right l.v l.w l.defs

abbrev pub decreases-loop-symbol : goal.decreases-loop-symbol
decreases-loop-symbol l = to_go l.text l.v
