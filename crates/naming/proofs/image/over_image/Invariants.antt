-- `over_image` meets its promise. The loop's invariant: no end so far is past the limit, and what is still to come has the first that is. Assumes
-- nothing.
use Rattle.std.proofs.Common.{◌≡◌}
use Rattle.std.specs.Slice.Iter.{iter_rest}
use Rattle.notation.specs.Lexer.{lexemes}
use Rattle.notation.specs.Places.{name_place}
use Rattle.lexer.specs.Stream.{left}
use Rattle.naming.proofs.ImageLaws.{Ending}
use Rattle.naming.proofs.image.over_image.Given as goal

abbrev pub invariant-loop-t : goal.invariant-loop-t
invariant-loop-t l =
    (goal.iterator-loop-t).can_next l.t-iterator × (goal.iterator-loop-t).is_finite l.t-iterator × (l.t-iterator.text.now ≡ l.text)
    × Ending 16384 l.base l.fn.ends (name_place l.text) (lexemes l.text) (iter_rest l.ends) (left l.t-iterator)
