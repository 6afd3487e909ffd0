-- `part_at` meets its promise: a range is read further on. Assumes nothing.
use Rattle.std.proofs.Common.{arith, sym, ap, drop, ◌∙◌}
use Rattle.chars.specs.Char.{char_of, up_to}
use Rattle.chars.specs.Meant.{from_to}
use Rattle.chars.proofs.WrittenLaws.{reads_on, behind}
use Rattle.chars.proofs.ClassLaws.{part_ranges}
use Rattle.chars.proofs.class.part_at.Goals as goal

pub returns-then-ranges_at : goal.returns-then-ranges_at
returns-then-ranges_at c = let t = c.args.text.now in
    let s = c.in_ok-lo.ensures in
    let lo = c.in_ok-lo.field-0.what in
    let n = c.in_ok-lo.field-0.next in
    let e = part_ranges (drop c.args.at t) lo (drop n t) s.is (sym c.ranges_at.ensures ∙ c.if-ranges_at.true) in
    (reads_on from_to t (e ∙ ap (λ r. up_to lo (char_of r)) (behind t n)) (omega (arith, s.onward)) c.range_to.result c.range_to.ensures.0, c.range_to.ensures.1)
