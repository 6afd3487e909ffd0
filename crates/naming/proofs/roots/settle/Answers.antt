-- `settle` meets its promise. Assumes nothing.
use Prim.Native.Nat.{◌-◌}
use mathlib.Core.Path.{ap, ◌∙◌}
use native.Mathlib.Omega.{arith}
use borrow.Author.Tests.{eq-eqb, ne_eqb}
use lib.ListN.{set}
use Rattle.naming.specs.Rooted.{root_at}
use Rattle.naming.proofs.roots.settle.Goals as goal

pub put_root-requires : goal.put_root-requires
put_root-requires c = let p = c.requires in
    let h = c.if-weight-ne0.true in
    let e = c.closed-end.ensures in
    (p.listed h, omega (arith, p.some h, e), omega (arith, p.few h, e))

pub returns-then-weight-ne0 : goal.returns-then-weight-ne0
returns-then-weight-ne0 c = let a = c.args in
    let e = c.closed-end.ensures in
    record {
      end = e;
      filled = rw (ne_eqb a.weight 0 c.if-weight-ne0.true)
          (c.put_root.ensures ∙ ap (λ n. set a.roots.now (root_at a.text.now a.heads.now a.name) (n - 1)) e);
    }

pub returns-else-weight-ne0 : goal.returns-else-weight-ne0
returns-else-weight-ne0 c = let a = c.args in
    record { end = c.closed-end.ensures; filled = rw (eq-eqb a.weight 0 c.if-weight-ne0.false) }
