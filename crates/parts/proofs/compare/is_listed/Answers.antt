-- `is_listed` meets its promise. Assumes nothing.
use mathlib.Core.Path.{ap, sym, ◌∙◌}
use Rattle.meaning.specs.Outcome.{part}
use Rattle.parts.specs.Seen.{look_end, look_other, look_found, look_differs}
use Rattle.parts.proofs.compare.is_listed.Goals as goal
use Rattle.parts.proofs.compare.is_listed.Goals.{else-symbol_at-table-via-then-symbol_at-table+else-is_symbol, else-symbol_at-table-via-else-symbol_at-table}

pub returns-then-is_symbol : goal.returns-then-is_symbol
returns-then-is_symbol c = let a = c.args in let l = c.loop-number in
    look_found a.input.now (part a.input.now a.at a.to) a.table a.low a.slots.now l.number c.loop-number-test.true
    (sym (ap (λ s. s.table) c.symbol_at.ensures) ∙ c.if-symbol_at-table.true) (sym c.if-is_symbol.true ∙ c.is_symbol.ensures) ∙ sym l.invariant

pub loop-number-preserved : goal.loop-number-preserved
loop-number-preserved c = let a = c.args in let l = c.loop-number in
    l.invariant ∙ elim c.else-symbol_at-table.branch [
      | else-symbol_at-table-via-then-symbol_at-table+else-is_symbol w ↦ look_differs a.input.now (part a.input.now a.at a.to) a.table a.low a.slots.now l.number c.loop-number-test.true
          (sym (ap (λ s. s.table) c.symbol_at.ensures) ∙ w.if-symbol_at-table.true) (sym w.if-is_symbol.false ∙ w.is_symbol.ensures)
      | else-symbol_at-table-via-else-symbol_at-table w ↦ look_other a.input.now (part a.input.now a.at a.to) a.table a.low a.slots.now l.number c.loop-number-test.true
          (λ e. w.if-symbol_at-table.false (ap (λ s. s.table) c.symbol_at.ensures ∙ e))
    ]

pub returns : goal.returns
returns c = let a = c.args in let l = c.loop-number in
    look_end a.input.now (part a.input.now a.at a.to) a.table a.low a.slots.now l.number c.loop-number-test.false ∙ sym l.invariant
