-- `fill_roots` meets its promise. The loop's invariant: what is filled in and counted, with what is still to come, is what the whole text gives.
-- Assumes nothing.
use Rattle.std.proofs.Common.{◌≡◌, length}
use Rattle.notation.specs.Lexer.{lexemes}
use Rattle.notation.specs.At.{name_at}
use Rattle.index.specs.Listed.{names_at}
use Rattle.lexer.specs.Stream.{left}
use Rattle.naming.proofs.HeadLaws.{name_of}
use Rattle.naming.proofs.EndLaws.{endings}
use Rattle.naming.proofs.FillLaws.{Filling}
use Rattle.naming.proofs.roots.fill_roots.Given as goal

abbrev pub invariant-loop-t : goal.invariant-loop-t
invariant-loop-t l =
    (goal.iterator-loop-t).can_next l.t-iterator × (goal.iterator-loop-t).is_finite l.t-iterator × (l.t-iterator.text.now ≡ l.text)
    × Filling (names_at l.text l.heads (length l.heads)) l.initial.roots (endings name_of (name_at l.text l.start) 0 0 (lexemes l.text)) (name_at l.text l.name) l.nodes l.weight l.roots
    (left l.t-iterator)
