-- `ninth` meets its promise. Assumes nothing.
use Rattle.compiler.proofs.ListedLaws.{enough}
use Rattle.compiler.proofs.judge.ninth.Goals as goal

pub gather-requires : goal.gather-requires
gather-requires c = (c.requires, enough c.args.sort c.args.text.now c.requires)
