-- `names` meets its promise. Assumes nothing.
use Rattle.compiler.proofs.ListedLaws.{enough}
use Rattle.naming.specs.declared.gather.Sort.TheVariants.{Productions}
use Rattle.compiler.proofs.judge.names.Goals as goal

pub gather-g-requires : goal.gather-g-requires
gather-g-requires c = (c.requires, enough Productions c.args.text.now c.requires)
