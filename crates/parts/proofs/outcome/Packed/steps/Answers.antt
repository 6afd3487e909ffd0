-- `Packed::steps` meets its promise. Assumes nothing.
use mathlib.Core.Path.{refl}
use Rattle.parts.specs.Packed.{steps_of}
use Rattle.parts.proofs.outcome.Packed.steps.Goals as goal

pub returns : goal.returns
unfolding steps_of
returns c = refl
