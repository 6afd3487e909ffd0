-- `read_whole` meets its promise. The loop's invariant: what was taken can be gone on with, and what is left of the walk comes to what the whole comes to. The
-- measure is what is left to go. Assumes nothing.
use mathlib.Core.Path.{◌∙◌}
use borrow.Author.Rules.{rules}
use Rattle.walker.proofs.ReadLaws.{stands_first, stands_on, tells_whole, tells_stopped}
use Rattle.walker.proofs.walk.read_whole.Goals as goal

pub loop-walk-init : goal.loop-walk-init
loop-walk-init c = (stands_first c.args.text.now _ c.over-w.result c.over-w.ensures, search rules)

pub loop-walk-preserved : goal.loop-walk-preserved
loop-walk-preserved c = let l = c.loop-walk.invariant in let A = c.in-On.ensures in ((stands_on l.0 A).0, A.long ∙ l.1)

pub returns-in-Ended : goal.returns-in-Ended
returns-in-Ended c = tells_whole c.loop-walk.invariant.0 (c.in-Ended.ensures).acted

pub returns-in-Broken : goal.returns-in-Broken
returns-in-Broken c = tells_stopped c.loop-walk.invariant.0 (c.in-Broken.ensures).acted
