-- `Packed::depth` meets its promise. Assumes nothing.
use mathlib.Core.Path.{refl}
use Rattle.parts.specs.Packed.{depth_of}
use Rattle.parts.proofs.outcome.Packed.depth.Goals as goal

pub returns : goal.returns
unfolding depth_of
returns c = refl
