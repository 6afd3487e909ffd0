-- `seek` meets its promise. Assumes nothing.
use Rattle.std.proofs.Common.{◌+◌, ◌-◌, ◌/◌, sym, arith, length}
use Rattle.std.specs.declared.cmp.Ordering.TheVariants.{Less, Equal, Greater}
use Rattle.notation.specs.At.{name_at}
use Rattle.index.specs.Listed.{names_at}
use Rattle.index.specs.PlaceLaws.{names_length}
use Rattle.index.proofs.SeekLaws.{left_all, left_none, left_below, left_above, left_here, compared}
use Rattle.index.proofs.list.seek.Goals as goal

pub loop-low-init : goal.loop-low-init
loop-low-init c =
    let a = c.args in
    (omega arith, left_all (name_at a.text.now a.p) (names_at a.text.now a.at.now (length a.at.now)) (sym (names_length a.text.now a.at.now (length a.at.now) (omega arith))))

pub loop-low-preserved-in-Less : goal.loop-low-preserved-in-Less
loop-low-preserved-in-Less c =
    let a = c.args in
    let l = c.loop-low in
    let i = l.low + (l.high - l.low) / 2 in (
      omega (arith, l.invariant.0),
      left_below (name_at a.text.now a.p) (names_at a.text.now a.at.now (length a.at.now)) l.invariant.1 c.requires i (omega arith) (omega arith) (compared a.text.now a.at.now a.p i _ Less c.in-Less.is (omega (arith, l.invariant.0)) c.from.ensures c.order_at.ensures),
    )

pub returns-in-Equal : goal.returns-in-Equal
returns-in-Equal c =
    let a = c.args in
    let l = c.loop-low in
    let i = l.low + (l.high - l.low) / 2 in
    left_here (name_at a.text.now a.p) (names_at a.text.now a.at.now (length a.at.now)) l.invariant.1 c.requires i (omega arith) (omega arith) (compared a.text.now a.at.now a.p i _ Equal c.in-Equal.is (omega (arith, l.invariant.0)) c.from.ensures c.order_at.ensures)

pub loop-low-preserved : goal.loop-low-preserved
loop-low-preserved c =
    let a = c.args in
    let l = c.loop-low in
    let i = l.low + (l.high - l.low) / 2 in (
      omega (arith, l.invariant.0),
      left_above (name_at a.text.now a.p) (names_at a.text.now a.at.now (length a.at.now)) l.invariant.1 c.requires i (omega arith) (omega arith) (compared a.text.now a.at.now a.p i _ Greater c.in-Greater.is (omega (arith, l.invariant.0)) c.from.ensures c.order_at.ensures),
    )

pub returns : goal.returns
returns c =
    let a = c.args in
    left_none (name_at a.text.now a.p) (names_at a.text.now a.at.now (length a.at.now)) (omega arith) c.loop-low.invariant.1
