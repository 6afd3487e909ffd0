-- `stand` meets its promise. Assumes nothing.
use native.Mathlib.Omega.{arith}
use Rattle.lexer.specs.Meant.{leaf_at}
use Rattle.writer.specs.Named.{place_by, production_by}
use Rattle.emitter.specs.ShownLaws.{leaf_length, leaf_some}
use Rattle.emitter.proofs.step.stand.Goals as goal

pub settle-requires : goal.settle-requires
settle-requires c = let a = c.args in
    let l = leaf_at a.names.text.now a.t a.leaf in
    let n = leaf_length (production_by a.names.text.now a.names.heads.now a.names.roots.now) (place_by a.names.text.now a.names.tables.now) (place_by a.names.text.now a.names.switches.now) a.s.made.nodes l in
    let m = c.add_leaf-m.ensures.many in
    let f = c.requires.room.1.few in
    let z = leaf_some l in
    (c.requires.room.2, omega (arith, c.requires.room.3), omega arith, omega arith)
