-- `gather` meets its promise. The loop's invariant: what is gathered, with what is still to come, is what the whole text gives. Assumes nothing.
use Rattle.std.proofs.Common.{◌≡◌, length}
use Rattle.notation.specs.Lexer.{lexemes}
use Rattle.lexer.specs.Stream.{left}
use Rattle.naming.specs.Gathered.{sort_of}
use Rattle.naming.proofs.GatherLaws.{Gathering}
use Rattle.naming.proofs.gather.gather.Given as goal

abbrev pub invariant-loop-t : goal.invariant-loop-t
invariant-loop-t l =
    (goal.iterator-loop-t).can_next l.t-iterator × (goal.iterator-loop-t).is_finite l.t-iterator × (l.t-iterator.text.now ≡ l.text)
    × (length l.at ≡ length l.initial.at) × Gathering (sort_of l.sort) l.text (lexemes l.text) l.at l.g (left l.t-iterator)
