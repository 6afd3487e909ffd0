-- `passed` meets its promise: by where one stands. Assumes nothing.
use Rattle.lexer.proofs.GapLaws.{block_further}
use Rattle.lexer.proofs.gap.passed.Goals as goal

pub returns-in-InBlock : goal.returns-in-InBlock
returns-in-InBlock c = let r = c.args.rest.now in
    rw (c.in-InBlock.is, c.unwrap_or-in-InBlock.ensures, c.find-in-InBlock.ensures) (block_further r c.in-InBlock.field-0)
