-- `Packed::at` meets its promise. Assumes nothing.
use mathlib.Core.Path.{refl}
use Rattle.parts.specs.Packed.{at_of}
use Rattle.parts.proofs.outcome.Packed.at.Goals as goal

pub returns : goal.returns
unfolding at_of
returns c = refl
