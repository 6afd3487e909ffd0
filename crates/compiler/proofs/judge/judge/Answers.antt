-- `judge` meets its promise. Assumes nothing.
use Rattle.std.proofs.lemmas.Result.{err_from_is_err_and}
use Rattle.compiler.proofs.RuledLaws.{whole_said, stopped_said}
use Rattle.compiler.proofs.judge.judge.Goals as goal

pub returns-in_err-read_whole : goal.returns-in_err-read_whole
returns-in_err-read_whole c =
    let p = err_from_is_err_and c.from_residual.result c.from_residual.ensures.1 in
    rw (p.1, p.2) (stopped_said c.requires c.in_err-read_whole.ensures)

pub returns : goal.returns
returns c = whole_said c.requires _ c.in_ok-read_whole.ensures c.rules.ensures
