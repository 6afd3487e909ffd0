-- The loop's invariant: what is still to be read and put down gives what the whole gives. Assumes nothing.
use Rattle.std.proofs.Common.{◌≡◌}
use Rattle.image.specs.FilledLaws.{Filling}
use Rattle.image.specs.Word.{word_at}
use Rattle.image.proofs.walk.fill_nodes.Given as goal

abbrev pub invariant-loop-own : goal.invariant-loop-own
invariant-loop-own l =
    Filling (word_at l.initial.reader.image.now l.head.tables l.head.conditions l.head.nodes) 0 l.head.nodes l.initial.reader.at l.initial.code l.code l.own l.ahead.at
    × (l.ahead.image ≡ l.initial.reader.image)
