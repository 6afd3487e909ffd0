-- `operands_at` meets its promise: each tag's operands have their shape, and the shape gives the word. Assumes nothing.
use Rattle.std.proofs.Common.{arith}
use Rattle.image.proofs.ShapeLaws.{alike, range_word, pair_word, child_word, table_word, scope_word, if_word, on_word}
use Rattle.image.proofs.operands.operands_at.Goals as goal

pub returns-in-2 : goal.returns-in-2
returns-in-2 c = alike c.range_operands.ensures (range_word _ _ _ _ _ c.args.tag _ (omega arith) (omega arith))

pub returns-in-5-to-6 : goal.returns-in-5-to-6
returns-in-5-to-6 c = alike c.two_operands.ensures (pair_word _ _ _ _ _ c.args.tag _ (omega arith) (omega arith))

pub returns-in-7-to-8 : goal.returns-in-7-to-8
returns-in-7-to-8 c = alike c.one_operand-in-7-to-8.ensures (child_word _ _ _ _ _ c.args.tag _ (omega arith) (omega arith))

pub returns-in-10-to-14 : goal.returns-in-10-to-14
returns-in-10-to-14 c = alike c.one_operand-in-10-to-14.ensures (table_word _ _ _ _ _ c.args.tag _ (omega arith) (omega arith))

pub returns-in-15-to-16 : goal.returns-in-15-to-16
returns-in-15-to-16 c = alike c.two_operands-in-15-to-16.ensures (scope_word _ _ _ _ _ c.args.tag _ (omega arith) (omega arith))

pub returns-in-17 : goal.returns-in-17
returns-in-17 c = alike c.if_operands.ensures (if_word _ _ _ _ _ c.args.tag _ (omega arith) (omega arith))

pub returns-in_default : goal.returns-in_default
returns-in_default c = alike c.on_operands.ensures (on_word _ _ _ _ _ c.args.tag _ (omega arith) (omega arith))
