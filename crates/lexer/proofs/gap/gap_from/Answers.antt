-- `gap_from` meets its promise. The loop's invariant: what is still to be skipped from here gives what the whole gives. The measure is what is left
-- of the text. Assumes nothing.
use Rattle.std.proofs.Common.{arith, ap, ◌∙◌, ◌+◌, length-drop}
use Rattle.std.proofs.lemmas.List.{take_rest}
use lib.Seq.{drop-drop}
use Rattle.notation.specs.Lexer.{skip}
use Rattle.lexer.specs.Gaps.{inside_of}
use Rattle.lexer.proofs.GapLaws.{comment_on}
use Rattle.lexer.proofs.gap.gap_from.Goals as goal

pub loop-i-preserved : goal.loop-i-preserved
loop-i-preserved c =
    let t = c.args.text.now in
    let l = c.loop-i in
    let f = rw (take_rest t (l.i + 1)) at c.passed.ensures in
    let s = c.in-Some.ensures in
    let e = length-drop (l.i + 1) t in (
      l.invariant.0 ∙ s.goes ∙ f.goes t ∙ ap (skip (inside_of t c.in-Some.next)) (drop-drop c.passed.result (l.i + 1) t),
      omega (arith, l.invariant.1),
      λ z. omega (arith, f.within),
      comment_on c.args.start l.i _ (omega arith) c.in-Some.next (s.comment c.args.start l.invariant.1 l.invariant.3),
    )
