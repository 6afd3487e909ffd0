-- `last_open` meets its promise. Assumes nothing.
use native.Mathlib.Omega.{arith}
use Rattle.walker.proofs.ActLaws.{latest_none, latest_some}
use Rattle.walker.proofs.act.last_open.Goals as goal

pub returns-then-height-eq0 : goal.returns-then-height-eq0
returns-then-height-eq0 c = let a = c.args in latest_none a.height a.stack.now c.if-height-eq0.true

pub returns : goal.returns
returns c = let a = c.args in latest_some a.height a.stack.now (omega arith)
