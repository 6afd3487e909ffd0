-- `latest` meets its promise. The loop's invariant: what is sought is to be found among those that are left. Assumes nothing.
use Rattle.parts.specs.SlotsLaws.{Sought}
use Rattle.parts.proofs.slots.latest.Given as goal

abbrev pub invariant-loop-number : goal.invariant-loop-number
invariant-loop-number l = Sought l.table l.low l.slots l.held l.number
