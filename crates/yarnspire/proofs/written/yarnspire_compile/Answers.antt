-- `yarnspire_compile` meets its promise. Assumes nothing.
use Rattle.std.proofs.Common.{refl, arith}
use Rattle.yarnspire.specs.CompileLaws.{place_small}
use Rattle.yarnspire.proofs.written.yarnspire_compile.Goals as goal

pub returns-in-Ok : goal.returns-in-Ok
returns-in-Ok c = record { compiled = _; compiles = c.in-Ok.ensures; number_is = refl; length_is = refl; at_is = refl }

pub overflow_cast-at : goal.overflow_cast-at
overflow_cast-at c = omega (arith, place_small c.args.text.now c.args.image.now c.compile.new.image c.in-Err.ensures.is)

pub returns-in-Err : goal.returns-in-Err
returns-in-Err c = record { compiled = _; compiles = c.in-Err.ensures; number_is = c.number.ensures; length_is = refl; at_is = refl }
