-- `next` meets its promise. The loop's invariant: up to here nothing was put out. The measure is what is left to go. Assumes nothing.
use Rattle.walker.proofs.NextLaws.{passed, given, at_end, at_break, along}
use Rattle.walker.proofs.walk.Walk.next.Goals as goal

pub returns-in-On-Some-default : goal.returns-in-On-Some-default
returns-in-On-Some-default c = given c.loop-symbol.invariant (rw c.in-On-Some-default.field-0-is at c.in-On-Some-default.ensures)

pub loop-symbol-preserved : goal.loop-symbol-preserved
loop-symbol-preserved c = let a = c.in-On-None-default in
    along (along (passed c.loop-symbol.invariant (rw a.field-0-is at a.ensures)).0 c.past_open.ensures) c.past_shut-w.ensures

pub returns-in-Ended : goal.returns-in-Ended
returns-in-Ended c = at_end c.loop-symbol.invariant c.in-Ended.ensures

pub returns-in-Broken : goal.returns-in-Broken
returns-in-Broken c = at_break c.loop-symbol.invariant c.in-Broken.ensures
