-- `truth_from` meets its promise: by the byte behind the gap. Assumes nothing.
use mathlib.Core.Path.{sym, ◌∙◌}
use Rattle.lexer.proofs.SignLaws.{truth_not, truth_plain}
use Rattle.lexer.proofs.NameLaws.{gap_ok}
use Rattle.lexer.proofs.operator.truth_from.Goals as goal

pub returns-then-is_at : goal.returns-then-is_at
returns-then-is_at c = truth_not _ _ (rw (gap_ok c.gap_from.result c.in_ok-i.ensures.value) at c.gap_from.ensures) (sym c.is_at.ensures.here ∙ c.if-is_at.true)

pub returns : goal.returns
returns c = truth_plain _ _ (rw (gap_ok c.gap_from.result c.in_ok-i.ensures.value) at c.gap_from.ensures) (sym c.is_at.ensures.here ∙ c.if-is_at.false) c.requires
