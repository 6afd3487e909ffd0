-- `close_from` meets its promise: by the byte behind the gap. Assumes nothing.
use mathlib.Core.Path.{sym, ◌∙◌}
use Rattle.lexer.proofs.SignLaws.{close_here}
use Rattle.lexer.proofs.NameLaws.{gap_ok}
use Rattle.lexer.proofs.operator.close_from.Goals as goal

pub returns-then-is_at : goal.returns-then-is_at
returns-then-is_at c = close_here _ _ (rw (gap_ok c.gap_from.result c.in_ok-i.ensures.value) at c.gap_from.ensures) (sym c.is_at.ensures.here ∙ c.if-is_at.true)
