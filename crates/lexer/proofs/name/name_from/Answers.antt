-- `name_from` meets its promise: by the gap, and the byte behind it. Assumes nothing.
use Rattle.std.proofs.Common.{ap, sym, ◌∙◌}
use Rattle.notation.specs.Bytes.{letter}
use Rattle.lexer.proofs.GapLaws.{gap_past, past_onward}
use Rattle.lexer.proofs.NameLaws.{gap_ok, broken_nothing, end_nothing, other_nothing, finds}
use Rattle.lexer.proofs.name.name_from.Goals as goal

pub returns-in_err-start : goal.returns-in_err-start
returns-in_err-start c = rw c.from_residual.ensures (broken_nothing _ c.gap_from.result c.gap_from.ensures c.in_err-start.ensures.value)

pub returns-in_err-get : goal.returns-in_err-get
returns-in_err-get c = rw c.from_residual-in_err-get.ensures
    (end_nothing _ (gap_past c.gap_from.ensures (gap_ok c.gap_from.result c.in_ok-start.ensures.value)) c.in_err-get.ensures.lookup.3)

pub returns-then-not-is_letter : goal.returns-then-not-is_letter
returns-then-not-is_letter c = let b = c.in_ok-get.ensures.lookup.3 in
    other_nothing _ (gap_past c.gap_from.ensures (gap_ok c.gap_from.result c.in_ok-start.ensures.value)) b.0
    (ap letter (sym (b.1 0)) ∙ sym c.is_letter.ensures ∙ c.if-not-is_letter.true)

pub returns : goal.returns
returns c = let b = c.in_ok-get.ensures.lookup.3 in
    let g = c.gap_from.ensures in
    let e = gap_ok c.gap_from.result c.in_ok-start.ensures.value in
    finds _ (gap_past g e) b.0 (ap letter (sym (b.1 0)) ∙ sym c.is_letter.ensures ∙ c.if-not-is_letter.false) (past_onward g e) c.name_end.ensures
