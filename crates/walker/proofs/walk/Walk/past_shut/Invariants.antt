-- `past_shut` meets its promise. The loop's invariant: up to here nothing was put out. The measure is what is left to go. Assumes nothing.
use Rattle.walker.specs.Walks.{Passing, to_go}
use Rattle.walker.proofs.walk.Walk.past_shut.Given as goal

abbrev pub invariant-loop-w : goal.invariant-loop-w
invariant-loop-w l = Passing l.text l.stack l.stack l.fn.self l.w

abbrev pub decreases-loop-w : goal.decreases-loop-w
decreases-loop-w l = to_go l.text l.w
