-- `emit` meets its promise. The loop's invariant: what was taken and what is still to come, come to what the whole comes to. The measure is what the walk has to go. Assumes nothing.
use Rattle.walker.specs.Walks.{to_go}
use Rattle.emitter.proofs.EmitLaws.{Going}
use Rattle.emitter.proofs.emit.emit.Given as goal

abbrev pub invariant-loop-symbol : goal.invariant-loop-symbol
invariant-loop-symbol l = Going l.names.text.now l.names.heads.now l.names.roots.now l.names.tables.now l.names.switches.now l.out l.patterns l.ends l.stack l.stacks.done l.stacks.opened l.s l.w

abbrev pub decreases-loop-symbol : goal.decreases-loop-symbol
decreases-loop-symbol l = to_go l.names.text.now l.w
