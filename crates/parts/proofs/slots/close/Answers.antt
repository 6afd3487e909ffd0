-- `close` meets its promise. Assumes nothing.
use native.Mathlib.Omega.{arith}
use Rattle.parts.specs.SlotsLaws.{closing_starts, closing_drops, closing_keeps}
use Rattle.parts.proofs.slots.close.Goals as goal
use Rattle.parts.proofs.slots.close.Goals.{then-symbol-table, else-symbol-table}

pub loop-from-init : goal.loop-from-init
loop-from-init c = let a = c.args in closing_starts a.table a.mark a.held a.slots.now c.requires.0

pub loop-from-preserved : goal.loop-from-preserved
loop-from-preserved c = let a = c.args in let l = c.loop-from in let read = c.symbol_at-symbol.ensures in
    elim c.if-symbol-table.branch [
      | then-symbol-table w ↦ rw (w.slots-is, w.store.ensures, w.to-is)
          (closing_keeps a.table a.mark a.held a.slots.now l.invariant c.loop-from-test.true read w.if-symbol-table.true (omega (arith, l.invariant.frame.long, c.requires.2)))
      | else-symbol-table w ↦ rw (w.slots-is, w.to-is)
          (closing_drops a.table a.mark a.held a.slots.now l.invariant c.loop-from-test.true read w.if-symbol-table.false)
    ]
