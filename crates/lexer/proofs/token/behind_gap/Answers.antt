-- `behind_gap` meets its promise: by the gap, and what stands behind it. Assumes nothing.
use Rattle.lexer.proofs.LexedLaws.{lexed_open, lexed_here}
use Rattle.lexer.proofs.token.behind_gap.Goals as goal

pub returns-in-Err : goal.returns-in-Err
returns-in-Err c = rw c.no_token.ensures (lexed_open _ _ c.in-Err.ensures)

pub returns-else-text-start : goal.returns-else-text-start
returns-else-text-start c =
    rw (c.unwrap_or.ensures, c.no_token-in-Ok.ensures) (lexed_here _ _ c.in-Ok.ensures c.if-text-start.false _ c.token_at.ensures)
