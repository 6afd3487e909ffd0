-- `word_at` meets its promise: the tag and its operands are the node. Assumes nothing.
use Rattle.image.proofs.ShapeLaws.{tagged_read, tagged_refused}
use Rattle.image.proofs.operands.word_at.Goals as goal

pub returns-in_err-kept : goal.returns-in_err-kept
returns-in_err-kept c =
    tagged_refused c.args.head c.args.own c.in_ok-tag.tag c.in_ok-tag.ensures.reads c.from_residual-in_err-kept.ensures.1 c.in_err-kept.ensures

pub returns : goal.returns
returns c = tagged_read c.args.head c.args.own c.in_ok-tag.tag c.in_ok-tag.ensures.reads c.in_ok-kept.ensures
