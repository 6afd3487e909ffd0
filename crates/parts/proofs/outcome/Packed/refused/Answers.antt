-- `Packed::refused` meets its promise. Assumes nothing.
use native.Mathlib.Omega.{arith}
use Rattle.parts.specs.PackedLaws.{number_range, opens_stop}
use Rattle.parts.proofs.outcome.Packed.refused.Goals as goal

pub shut-requires : goal.shut-requires
shut-requires c = let l = number_range c.args.stop in (omega (arith, c.number.ensures, l), omega arith, omega arith, omega arith, omega arith)

pub returns : goal.returns
returns c = let a = c.args in let l = number_range a.stop in
    opens_stop c.number.result a.place 0 a.steps a.depth (omega (arith, c.number.ensures, l)) (omega arith) (omega arith) (omega arith) (omega arith)
    _ c.shut.ensures a.stop c.number.ensures
