-- `close` meets its promise. The loop's invariant: what was passed is closed already, and what lies ahead is as it was. Assumes nothing.
use Rattle.parts.specs.SlotsLaws.{Closing}
use Rattle.parts.proofs.slots.close.Given as goal

abbrev pub invariant-loop-from : goal.invariant-loop-from
invariant-loop-from l = Closing l.table l.mark l.held l.initial.slots l.slots l.from l.to
