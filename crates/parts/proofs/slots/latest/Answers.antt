-- `latest` meets its promise. Assumes nothing.
use mathlib.Core.Path.{ap, sym, ◌∙◌}
use Rattle.parts.specs.SlotsLaws.{sought_here, sought_on, latest_end}
use Rattle.parts.proofs.slots.latest.Goals as goal

pub returns-then-symbol_at-table : goal.returns-then-symbol_at-table
returns-then-symbol_at-table c = let a = c.args in
    sought_here a.table a.low a.slots.now c.loop-number.invariant c.loop-number-test.true (sym (ap (λ s. s.table) c.symbol_at.ensures) ∙ c.if-symbol_at-table.true)

pub loop-number-preserved : goal.loop-number-preserved
loop-number-preserved c = let a = c.args in
    sought_on a.table a.low a.slots.now c.loop-number.invariant c.loop-number-test.true (λ e. c.if-symbol_at-table.false (ap (λ s. s.table) c.symbol_at.ensures ∙ e))

pub returns : goal.returns
returns c = let a = c.args in latest_end a.table a.low a.slots.now c.loop-number.number c.loop-number-test.false ∙ sym c.loop-number.invariant.is
