-- `enter` meets its promise. Assumes nothing.
use Rattle.std.proofs.Common.{arith}
use Rattle.emitter.specs.ShownLaws.{enters_set}
use Rattle.emitter.proofs.step.enter.Goals as goal

pub returns : goal.returns
returns c = let a = c.args in
    enters_set a.opened.now a.s (record { opener = a.opener; name = a.p; brings = c.begin_operator-brings.result }) (omega arith) c.begin_operator-brings.ensures
