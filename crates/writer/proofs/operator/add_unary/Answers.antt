-- `add_unary` meets its promise. Assumes nothing.
use Rattle.std.proofs.Common.{refl, arith}
use Rattle.grammar.specs.Expr.{Not}
use Rattle.writer.specs.Put.{Room}
use Rattle.writer.specs.Operator.{unary_nodes}
use Rattle.writer.specs.PutLaws.{adds_on, room_left}
use Rattle.writer.proofs.operator.add_unary.Goals as goal

pub add-requires : goal.add-requires
unfolding unary_nodes
add-requires c = let o : Room c.args.out.now c.args.m 2 = rw c.in-And.is at c.requires in
    (room_left 1 o (c.add-r.ensures (Not c.args.a) refl) (omega arith), omega arith)

pub returns-in-And : goal.returns-in-And
unfolding unary_nodes
returns-in-And c = let a = c.args in
    rw c.in-And.is (adds_on (c.add-r.ensures (Not a.a) refl) (c.add.ensures (Not a.m.nodes) refl))

pub returns-in-Not : goal.returns-in-Not
unfolding unary_nodes
returns-in-Not c = rw c.in-Not.is (c.add-in-Not.ensures (Not c.args.a) refl)
