-- `add_class` meets its promise. Assumes nothing.
use Prim.Native.Nat.{◌-◌}
use mathlib.Core.Path.{sym}
use native.Mathlib.Omega.{arith}
use lib.ListN.{drop, length-map}
use Rattle.notation.specs.At.{parts_of}
use Rattle.notation.specs.Compile.{part_node}
use Rattle.writer.specs.PutLaws.{adds_on, adds_as, room_left}
use Rattle.writer.proofs.ChoiceLaws.{class_count, class_nodes}
use Rattle.writer.proofs.class.add_class.Goals as goal

pub add_parts-r-requires : goal.add_parts-r-requires
add_parts-r-requires c = let o = c.requires.2 in
    (c.requires.0, record { long = o.long; low = o.low; few = omega (arith, o.few, class_count (parts_of (drop c.args.start c.args.text.now)) c.requires.1) })

pub add_choices-requires : goal.add_choices-requires
add_choices-requires c = let ps = parts_of (drop c.args.start c.args.text.now) in
    let a = c.add_parts-r.ensures in
    let l = length-map ps part_node in
    let e = class_count ps c.requires.1 in
    let n = (c.add_parts-r.result.nodes - c.args.m.nodes) - 1 in
    (omega (arith, c.requires.1, a.many), room_left n c.requires.2 a (omega (arith, c.requires.1, a.many)))

pub returns : goal.returns
returns c = let ps = parts_of (drop c.args.start c.args.text.now) in
    let a = c.add_parts-r.ensures in
    let n = (c.add_parts-r.result.nodes - c.args.m.nodes) - 1 in
    λ production table condition. adds_as (sym (class_nodes production table condition c.args.m.nodes n ps (omega (arith, c.requires.1, a.many, length-map ps part_node))))
    (adds_on a c.add_choices.ensures)
