-- `compile` meets its promise: what is given says the rest, the text being bytes. Assumes nothing.
use native.Mathlib.Omega.{arith}
use Rattle.yarnspire.specs.CompileLaws.{compiles}
use Rattle.yarnspire.proofs.written.compile.Goals as goal

pub returns : goal.returns
returns c = let a = c.args in
    compiles a.text.now a.image.now _ (λ i. omega (arith, c.type_inv.text i)) c.compile.ensures
