-- `gap_from` meets its promise. The loop's invariant: what is still to be skipped from here gives what the whole gives. The measure is what is left
-- of the text. Assumes nothing.
use Rattle.std.proofs.Common.{◌-◌, ◌≤◌, ◌≡◌, drop, length}
use Rattle.notation.specs.Lexer.{gap, skip}
use Rattle.lexer.specs.Gaps.{inside_of, CommentIn}
use Rattle.lexer.proofs.gap.gap_from.Given as goal

abbrev pub invariant-loop-i : goal.invariant-loop-i
invariant-loop-i l = (gap (drop l.start l.text) ≡ skip (inside_of l.text l.inside) (drop l.i l.text))
    × (l.start ≤ l.i) × (l.start ≤ length l.text → l.i ≤ length l.text) × CommentIn l.start l.i l.inside

abbrev pub decreases-loop-i : goal.decreases-loop-i
decreases-loop-i l = length l.text - l.i
