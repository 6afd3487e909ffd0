-- `token_from` meets its promise: where the byte begins no gap, the gap ends at once. Assumes nothing.
use Rattle.std.proofs.Common.{arith, sym, ◌∙◌}
use Rattle.lexer.proofs.GapLaws.{no_gap, ended}
use Rattle.lexer.proofs.LexedLaws.{lexed_here}
use Rattle.lexer.proofs.token.token_from.Goals as goal

pub returns : goal.returns
returns c =
    let g = ended _ _ _ (omega arith) (λ l. l) (no_gap (sym c.is_some.ensures ∙ c.if-is_some.false) c.front.ensures) in
    rw (c.unwrap_or.ensures, c.no_token.ensures) (lexed_here _ _ g c.if-text-at.false _ c.token_at.ensures)
