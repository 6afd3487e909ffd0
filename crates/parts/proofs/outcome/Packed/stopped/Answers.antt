-- `Packed::stopped` meets its promise. Assumes nothing.
use mathlib.Core.Path.{refl}
use native.Mathlib.Omega.{arith}
use Rattle.parts.specs.PackedLaws.{short_number, number_range, number_made, made_stopped, opens_stopped}
use Rattle.parts.proofs.outcome.Packed.stopped.Goals as goal

pub overflow_add-result : goal.overflow_add-result
overflow_add-result c = omega (arith, short_number c.args.self c.requires, c.number.ensures, number_range c.args.stop)

pub invariant_of-result : goal.invariant_of-result
invariant_of-result c =
    let l = number_range c.args.stop in
    record { made = made_stopped c.args.self c.requires {n = c.from.result} refl (omega (arith, c.from.ensures, c.number.ensures, l)) (rw (c.from.ensures, c.number.ensures) (number_made c.args.stop)) }

pub returns : goal.returns
returns c = opens_stopped c.args.self c.requires c.args.stop (omega (arith, c.from.ensures, c.number.ensures)) _ refl
