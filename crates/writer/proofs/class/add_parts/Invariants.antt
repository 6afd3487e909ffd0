-- `add_parts` meets its promise. The loop's invariant: the parts that were passed were added. Assumes nothing.
use Rattle.std.proofs.Common.{◌≡◌, ◌++◌, drop, map}
use Rattle.notation.specs.Lexer.{fresh, begin, parts}
use Rattle.notation.specs.At.{parts_of}
use Rattle.notation.specs.Compile.{part_node}
use Rattle.chars.specs.Meant.{left, from_to}
use Rattle.writer.specs.Put.{Adds}
use Rattle.writer.proofs.class.add_parts.Given as goal

abbrev pub invariant-loop-p : goal.invariant-loop-p
invariant-loop-p l =
    let r = l.p-iterator in
    (goal.iterator-loop-p).is_finite r
    × (map from_to l.yielded ++ left (λ _. parts begin fresh) r.stop r.text.now r.at ≡ parts_of (drop l.start l.text))
    × Adds l.initial.out l.initial.r l.out l.r (map part_node (map from_to l.yielded))
