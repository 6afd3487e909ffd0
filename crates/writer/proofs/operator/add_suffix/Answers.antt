-- `add_suffix` meets its promise. Assumes nothing.
use Rattle.std.proofs.Common.{refl, arith}
use Rattle.grammar.specs.Expr.{Empty, Sequence, Choice, Star}
use Rattle.lexer.specs.Meant.{suffix_of}
use Rattle.writer.specs.Put.{Room}
use Rattle.writer.specs.PutLaws.{adds_on, room_left}
use Rattle.writer.proofs.operator.add_suffix.Goals as goal

pub add-requires : goal.add-requires
unfolding suffix_of
add-requires c = let o : Room c.args.out.now c.args.m 2 = rw c.in-Option.is at c.requires in
    (room_left 1 o (c.add-r.ensures Empty refl) (omega arith), omega arith)

pub add-requires-in-Plus : goal.add-requires-in-Plus
unfolding suffix_of
add-requires-in-Plus c = let o : Room c.args.out.now c.args.m 2 = rw c.in-Plus.is at c.requires in
    (room_left 1 o (c.add-r-in-Plus.ensures (Star c.args.a) refl) (omega arith), omega arith)

pub returns-in-Option : goal.returns-in-Option
unfolding suffix_of
returns-in-Option c = let a = c.args in
    rw c.in-Option.is (adds_on (c.add-r.ensures Empty refl) (c.add.ensures (Choice a.a a.m.nodes) refl))

pub returns-in-Star : goal.returns-in-Star
unfolding suffix_of
returns-in-Star c = rw c.in-Star.is (c.add-in-Star.ensures (Star c.args.a) refl)

pub returns-in-Plus : goal.returns-in-Plus
unfolding suffix_of
returns-in-Plus c = let a = c.args in
    rw c.in-Plus.is (adds_on (c.add-r-in-Plus.ensures (Star a.a) refl) (c.add-in-Plus.ensures (Sequence a.a a.m.nodes) refl))
