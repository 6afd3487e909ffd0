-- On the way through the choices over a class's parts: those that were added, and those that are still to come, are all.
use Prim.Native.Nat.{ℕ, suc, ◌+◌, ◌-◌, ◌≤◌, ◌<◌}
use mathlib.Core.Path.{◌≡◌, ap, sym, ◌∙◌}
use mathlib.Core.List.{List, [], ◌∷◌, ◌++◌, append_assoc, append-nil, map}
use native.Mathlib.Omega.{arith}
use lib.ListN.{length, length-append}
use Rattle.grammar.specs.Expr.{Expr, Choice}
use Rattle.notation.specs.Tree.{Name, Part}
use Rattle.notation.specs.At.{class_of}
use Rattle.notation.specs.Compile.{leaf_count, part_node, choices, leaf_nodes}
use Rattle.writer.specs.declared.node.Made.{Made}
use Rattle.writer.specs.Put.{Adds}
use Rattle.writer.specs.PutLaws.{adds_on, adds_as}

-- ## A class by the number of its parts

pub class_count : (ps : List Part) → 1 ≤ length ps → leaf_count (class_of ps) ≡ length ps + (length ps - 1)
unfolding class_of
class_count [] h = absurd (omega arith)
class_count (p ∷ ps) h = omega arith

pub class_nodes :
    (production table condition : Name → ℕ) (k n : ℕ) (ps : List Part) → length ps ≡ suc n
    → leaf_nodes production table condition k (class_of ps) ≡ map part_node ps ++ choices k n (k + n) (suc (k + n))
unfolding class_of
class_nodes production table condition k n [] h = absurd (omega arith)
class_nodes production table condition k n (p ∷ ps) h = let e : length ps ≡ n = omega arith in rw e

-- ## The choices

pub record Choosing (was : List ℕ) (m : Made) (k n : ℕ) (now : List ℕ) (r : Made) (left : ℕ) : Type 0 where
  pub new : List Expr
  pub adds : Adds was m now r new
  pub rest : new ++ choices k left (r.nodes - 1) r.nodes ≡ choices k n (k + n) (suc (k + n))
  pub many : length new + left ≡ n

module _ {was mid : List ℕ} {m r : Made} {k n left : ℕ} (h : Choosing was m k n mid r left) where
  pub choosing_more : {now : List ℕ} {s : Made} → 0 < left → Adds mid r now s (Choice (k + (left - 1)) (r.nodes - 1) ∷ []) → Choosing was m k n now s (left - 1)
  unfolding choices
  choosing_more {s = s} p a =
      let e : left ≡ suc (left - 1) = omega arith in
      let f : s.nodes ≡ suc r.nodes = omega (arith, a.many) in
      let g : suc r.nodes - 1 ≡ r.nodes = omega arith in
      let x = Choice (k + (left - 1)) (r.nodes - 1) in
      record {
        new = h.new ++ (x ∷ []);
        adds = adds_on h.adds a;
        rest = rw (f, g, append_assoc h.new (x ∷ []) (choices k (left - 1) r.nodes (suc r.nodes)))
            (ap (λ l. h.new ++ choices k l (r.nodes - 1) r.nodes) (sym e) ∙ h.rest);
        many = omega (arith, h.many, length-append h.new (x ∷ []));
      }

  pub choosing_all : left ≡ 0 → Adds was m mid r (choices k n (k + n) (suc (k + n)))
  unfolding choices
  choosing_all e = adds_as (sym (append-nil h.new) ∙ ap (λ l. h.new ++ choices k l (r.nodes - 1) r.nodes) (sym e) ∙ h.rest) h.adds
