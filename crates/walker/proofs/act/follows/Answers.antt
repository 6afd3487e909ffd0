-- `follows` meets its promise: by the token's kind, and whether it closes the latest that is open. Assumes nothing.
use mathlib.Core.Path.{sym, ◌∙◌, ap, ap₂}
use native.Mathlib.Omega.{arith}
use Rattle.walker.specs.Acts.{closed_by}
use Rattle.walker.proofs.ActLaws.{left_bracket, pops, slash_taken, only_slash, item_begins}
use Rattle.walker.proofs.act.follows.Goals as goal

pub returns-then-closes : goal.returns-then-closes
returns-then-closes c = let a = c.args in
    rw c.last_open-last.ensures
    (pops a.height a.stack.now c.requires.2 (ap₂ closed_by (sym c.reach_of-reach.ensures) (sym c.last_open-last.ensures) ∙ sym c.closes.ensures ∙ c.if-closes.true))

pub ends-requires : goal.ends-requires
ends-requires c = let r = c.reach_of-reach.ensures in
    (left_bracket c.last_open-last.result (ap (λ r. closed_by r c.last_open-last.result) (sym c.in-End.is) ∙ sym c.closes.ensures ∙ c.if-closes.false), sym r ∙ c.in-End.is)

pub returns-in-End : goal.returns-in-End
returns-in-End c = c.ends.ensures c.args.stack.now (sym c.last_open-last.ensures)

pub returns-in-Alternative : goal.returns-in-Alternative
returns-in-Alternative c = let a = c.args in
    slash_taken a.height a.stack.now (omega arith) (only_slash a.kind (sym c.reach_of-reach.ensures ∙ c.in-Alternative.is))
    (ap₂ closed_by (sym c.reach_of-reach.ensures) (sym c.last_open-last.ensures) ∙ sym c.closes.ensures ∙ c.if-closes.false)

pub returns-in-Item : goal.returns-in-Item
returns-in-Item c = let a = c.args in
    item_begins a.height a.stack.now (omega arith) c.requires.2 (sym c.reach_of-reach.ensures ∙ c.in-Item.is)
    (ap₂ closed_by (sym c.reach_of-reach.ensures) (sym c.last_open-last.ensures) ∙ sym c.closes.ensures ∙ c.if-closes.false) c.wants.result c.wants.ensures
