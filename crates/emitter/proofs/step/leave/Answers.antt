-- `leave` meets its promise. Assumes nothing.
use Rattle.std.proofs.Common.{arith}
use Rattle.emitter.specs.ShownLaws.{grows_settled}
use Rattle.emitter.proofs.step.leave.Goals as goal

pub settle-requires : goal.settle-requires
settle-requires c = let m = (c.add_operator-m.ensures (λ n. 0)).many in
    let f = c.requires.room.0.few in
    (c.requires.room.1, omega (arith, c.requires.room.4), omega arith, omega arith)

pub returns-clause-grows : goal.returns-clause-grows
returns-clause-grows c production = grows_settled (c.add_operator-m.ensures production) c.settle.ensures
