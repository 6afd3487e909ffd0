-- `compile` meets its promise. Assumes nothing.
use Rattle.std.proofs.Common.{length}
use Rattle.std.proofs.lemmas.Result.{err_from_is_err_and}
use Rattle.notation.specs.Said.{too_long}
use Rattle.compiler.proofs.AnswerLaws.{refuses}
use Rattle.compiler.proofs.compile.compile.Goals as goal

pub returns-then-text-gt65535 : goal.returns-then-text-gt65535
returns-then-text-gt65535 c = refuses _ (too_long c.if-text-gt65535.true)

pub returns-in_err-judge : goal.returns-in_err-judge
returns-in_err-judge c =
    let p = err_from_is_err_and c.from_residual.result c.from_residual.ensures.1 in
    rw (p.1, p.2) (refuses _ (c.in_err-judge.ensures (length c.args.image.now)))
