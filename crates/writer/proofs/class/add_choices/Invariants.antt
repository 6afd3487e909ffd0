-- `add_choices` meets its promise. The loop's invariant: those that were added and those that are still to come are all. Assumes nothing.
use Rattle.writer.proofs.ChoiceLaws.{Choosing}
use Rattle.writer.proofs.class.add_choices.Given as goal

abbrev pub invariant-loop-i : goal.invariant-loop-i
invariant-loop-i l = Choosing l.initial.out l.initial.r l.k l.n l.out l.r l.i
