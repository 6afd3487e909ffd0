-- `write_head` meets its promise. Assumes nothing.
use Rattle.std.proofs.Common.{[], ◌∷◌, length, arith}
use Rattle.writer.specs.PutLaws.{small_most}
use Rattle.writer.proofs.head.write_head.Goals as goal

pub put_row-requires : goal.put_row-requires
put_row-requires c = omega (
  arith,
  c.put_row-end.ensures.place,
  small_most (1 ∷ length c.args.patterns.now ∷ c.args.switches ∷ c.args.nodes ∷ c.args.start ∷ []) (omega arith, (omega arith, (c.requires.2.0, (c.requires.2.1.0, (c.requires.2.1.1.0, tt))))),
  small_most c.args.patterns.now c.requires.2.1.1.1,
)
