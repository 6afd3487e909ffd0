-- `Packed::failed` meets its promise. Assumes nothing.
use mathlib.Core.Path.{refl}
use native.Mathlib.Omega.{arith}
use Rattle.parts.specs.PackedLaws.{opens_failed}
use Rattle.parts.proofs.outcome.Packed.failed.Goals as goal

pub returns : goal.returns
returns c = let a = c.args in
    opens_failed 1 0 0 a.steps a.depth (omega arith) (omega arith) (omega arith) (omega arith) (omega arith) _ c.shut.ensures refl
