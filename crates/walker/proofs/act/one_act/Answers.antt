-- `one_act` meets its promise: by the mode. Assumes nothing.
use borrow.Author.Rules.{rules}
use Rattle.walker.proofs.ActLaws.{first_production, no_production, suffix_taken, bad_breaks}
use Rattle.walker.proofs.act.one_act.Goals as goal

pub returns-then-eq : goal.returns-then-eq
returns-then-eq c = let a = c.args in rw c.in-Start.is (first_production a.height a.stack.now (search rules))

pub returns-else-eq : goal.returns-else-eq
returns-else-eq c = let a = c.args in rw c.in-Start.is (no_production a.height a.stack.now (λ e. search rules))

pub returns-in-After : goal.returns-in-After
returns-in-After c = let a = c.args in rw c.in-Behind.is (suffix_taken a.height a.stack.now c.in-After.is)

pub returns-in-Bad : goal.returns-in-Bad
returns-in-Bad c = let a = c.args in rw c.in-Behind.is (bad_breaks a.height a.stack.now c.in-Bad.is)
