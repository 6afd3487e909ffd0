-- `next` meets its promise. The loop's invariant: up to here nothing was put out. The measure is what is left to go. Assumes nothing.
use Rattle.walker.specs.Walks.{Passing, to_go}
use Rattle.walker.proofs.walk.Walk.next.Given as goal

abbrev pub invariant-loop-symbol : goal.invariant-loop-symbol
invariant-loop-symbol l = Passing l.text l.initial.stack l.stack l.fn.self l.w

abbrev pub decreases-loop-symbol : goal.decreases-loop-symbol
decreases-loop-symbol l = to_go l.text l.w
