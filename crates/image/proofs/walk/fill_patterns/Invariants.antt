-- The loop's invariant: what is still to be read and put down gives what the whole gives. Assumes nothing.
use Rattle.std.proofs.Common.{◌≡◌}
use Rattle.image.specs.FilledLaws.{Filling}
use Rattle.format.specs.Image.{bounded}
use Rattle.image.proofs.walk.fill_patterns.Given as goal

abbrev pub invariant-loop-t : goal.invariant-loop-t
invariant-loop-t l =
    Filling (λ t. bounded l.initial.reader.image.now 7 0 l.head.nodes) 512 l.head.tables l.initial.reader.at l.initial.code l.code l.t l.ahead.at
    × (l.ahead.image ≡ l.initial.reader.image)
