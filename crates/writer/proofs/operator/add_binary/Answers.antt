-- `add_binary` meets its promise. Assumes nothing.
use Rattle.std.proofs.Common.{refl}
use Rattle.grammar.specs.Expr.{Sequence, Choice}
use Rattle.writer.specs.Operator.{binary_of}
use Rattle.writer.proofs.operator.add_binary.Goals as goal

pub returns-in-Sequence : goal.returns-in-Sequence
unfolding binary_of
returns-in-Sequence c = let a = c.args in rw c.in-Sequence.is (c.add.ensures (Sequence a.a a.b) refl)

pub returns-in-Choice : goal.returns-in-Choice
unfolding binary_of
returns-in-Choice c = let a = c.args in rw c.in-Choice.is (c.add-in-Choice.ensures (Choice a.a a.b) refl)
