-- `over_nodes` meets its promise. The loop's invariant: no production that has ended is past the limit, and what is still to come, with what is
-- open, has the first that is. Assumes nothing.
use Rattle.std.proofs.Common.{◌≡◌}
use Rattle.notation.specs.Lexer.{lexemes}
use Rattle.notation.specs.Places.{name_place}
use Rattle.lexer.specs.Stream.{left}
use Rattle.naming.proofs.OverLaws.{Weighing}
use Rattle.naming.proofs.nodes.over_nodes.Given as goal

abbrev pub invariant-loop-t : goal.invariant-loop-t
invariant-loop-t l =
    (goal.iterator-loop-t).can_next l.t-iterator × (goal.iterator-loop-t).is_finite l.t-iterator × (l.t-iterator.text.now ≡ l.text)
    × Weighing 512 (name_place l.text) (lexemes l.text) l.name l.nodes l.weight (left l.t-iterator)
