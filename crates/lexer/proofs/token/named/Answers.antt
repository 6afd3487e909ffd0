-- `named` meets its promise: by the byte behind the gap. Assumes nothing.
use mathlib.Core.Path.{sym, ◌∙◌}
use Rattle.lexer.proofs.TokenLaws.{head_here}
use Rattle.lexer.proofs.token.named.Goals as goal

pub returns-then-is_at : goal.returns-then-is_at
returns-then-is_at c =
    rw c.simple-then-is_at.ensures (head_here _ _ c.requires.0 c.requires.1 c.name_end.ensures c.in-Ok.ensures (sym c.is_at.ensures.here ∙ c.if-is_at.true))
