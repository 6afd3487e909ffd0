-- `add` meets its promise. Assumes nothing.
use native.Mathlib.Omega.{arith}
use Rattle.writer.specs.PutLaws.{numbers_most, node_added}
use Rattle.writer.proofs.node.add.Goals as goal

pub put_row-length-requires : goal.put_row-length-requires
put_row-length-requires c = omega (arith, numbers_most c.args.row.now)

pub returns : goal.returns
returns c = node_added c.args.row.now c.requires.1 c.requires.0 c.put_row-length.ensures
