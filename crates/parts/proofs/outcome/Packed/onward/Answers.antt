-- `Packed::onward` meets its promise. Assumes nothing.
use mathlib.Core.Path.{refl}
use native.Mathlib.Omega.{arith}
use Rattle.parts.specs.PackedLaws.{short_number, made_small, opens_onward, opens_lost}
use Rattle.parts.proofs.outcome.Packed.onward.Goals as goal

pub overflow_add-result : goal.overflow_add-result
overflow_add-result c = omega (arith, short_number c.args.self c.requires.1)

pub invariant_of-result : goal.invariant_of-result
invariant_of-result c = record { made = made_small _ (omega (arith, short_number c.args.self c.requires.1)) }

pub returns-then-ok : goal.returns-then-ok
returns-then-ok c = rw c.if-ok.true (opens_onward c.args.self c.requires.1 (c.requires.0 c.if-ok.true) _ refl)

pub overflow_add-result-2 : goal.overflow_add-result-2
overflow_add-result-2 c = omega (arith, short_number c.args.self c.requires.1)

pub invariant_of-result-2 : goal.invariant_of-result-2
invariant_of-result-2 c = record { made = made_small _ (omega (arith, short_number c.args.self c.requires.1)) }

pub returns : goal.returns
returns c = rw c.if-ok.false (opens_lost c.args.self c.requires.1 _ refl)
