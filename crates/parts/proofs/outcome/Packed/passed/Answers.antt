-- `Packed::passed` meets its promise. Assumes nothing.
use mathlib.Core.Path.{refl}
use native.Mathlib.Omega.{arith}
use Rattle.parts.specs.PackedLaws.{opens_passed}
use Rattle.parts.proofs.outcome.Packed.passed.Goals as goal

pub returns : goal.returns
returns c = let a = c.args in
    opens_passed 0 a.at a.held a.steps a.depth (omega arith) (omega arith) (omega arith) (omega arith) (omega arith) _ c.shut.ensures refl
