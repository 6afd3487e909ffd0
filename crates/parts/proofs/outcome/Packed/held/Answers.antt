-- `Packed::held` meets its promise. Assumes nothing.
use mathlib.Core.Path.{refl}
use Rattle.parts.specs.Packed.{held_of}
use Rattle.parts.proofs.outcome.Packed.held.Goals as goal

pub returns : goal.returns
unfolding held_of
returns c = refl
