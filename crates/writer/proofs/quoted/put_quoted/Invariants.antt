-- `put_quoted` meets its promise. The loop's invariant: the bytes that were passed were put down. Assumes nothing.
use Rattle.std.proofs.Common.{◌≡◌, ◌++◌, drop}
use Rattle.notation.specs.Lexer.{fresh, quote}
use Rattle.notation.specs.At.{quoted_of}
use Rattle.chars.specs.Meant.{left}
use Rattle.writer.specs.Put.{Wrote}
use Rattle.writer.proofs.quoted.put_quoted.Given as goal

abbrev pub invariant-loop-b : goal.invariant-loop-b
invariant-loop-b l =
    let r = l.b-iterator in
    (goal.iterator-loop-b).is_finite r
    × (l.yielded ++ left (λ mark. quote mark fresh) r.stop r.text.now r.at ≡ quoted_of (drop l.start l.text))
    × Wrote l.initial.out l.at l.out l.next l.yielded
