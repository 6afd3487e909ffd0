-- `complete`: a derivation within the limits is what the machine finds.
use Rattle.std.specs.Prelude.{ℕ, suc, pred, ◌-◌, ◌≡◌, List, length}
use Rattle.std.proofs.Common.{arith, lt-ltb}
use Rattle.grammar.specs.Expr.{Expr, Star}
use Rattle.grammar.specs.Grammar.{Grammar, node}
use Rattle.meaning.specs.State.{State, Env}
use Rattle.meaning.specs.Outcome.{Outcome}
use Rattle.meaning.specs.Cost.{Cost, enter, ◌⊕◌, holding}
use Rattle.meaning.specs.Rules.{Derives, empty, byte, range, any, text, seq_first, seq_both, choice_first, choice_second, star_stop, star_more, not, call, def_fail, def_pass, match, is_none, is_some, isa_none, isa_some, exists, block, local, if, on}
use Rattle.meaning.specs.Limits.{Within}
use Rattle.meaning.specs.Run.{ran, next, charge, after, round, entered, run}
use Rattle.meaning.specs.RunLaws.{entry, star_round}

module _ (g : Grammar) (x : List ℕ) (r : ℕ) where
  -- The arithmetic of limits: the parts of a cost that fits.
  opened : {c : Cost} {d b : ℕ} → Within (enter c) d b r → (v : Env) (e : Expr) (p : ℕ) (σ : State)
      → run g x r d b v e p σ ≡ entered g x r (run g x r (pred d)) (pred b) v e p σ
  opened {d = d} {b = b} w = entry g x r d b (omega arith) (omega arith)

  inner : {c : Cost} {d b : ℕ} → Within (enter c) d b r → Within c (pred d) (pred b) r
  inner w = omega arith

  first : (c e : Cost) {d b : ℕ} → Within (enter (c ⊕ e)) d b r → Within c (pred d) (pred b) r
  first c e w = omega arith

  second : (c e : Cost) {d b : ℕ} → Within (enter (c ⊕ e)) d b r → Within e (pred d) (pred b - c.steps) r
  second c e w = omega arith

  this_round : (c e : Cost) {d b : ℕ} → Within (enter c ⊕ e) d b r → Within (enter c) d b r
  this_round c e w = omega arith

  later_rounds : (c e : Cost) {d b : ℕ} → Within (enter c ⊕ e) d b r → Within e d (b - suc c.steps) r
  later_rounds c e w = omega arith

  one_round : {c : Cost} {d b : ℕ} → Within (enter c) d b r → (v : Env) (a p : ℕ) (σ : State)
      → run g x r d b v (Star a) p σ
      ≡ next (charge (run g x r (pred d) (pred b) v (node g a) p σ))
      (round p σ (λ q τ c. after c (run g x r d (b - c.steps) v (Star a) q τ)))
  one_round {d = d} {b = b} w = star_round g x r d b (omega arith) (omega arith)

  pub complete : {v : Env} {e : Expr} {p : ℕ} {σ : State} {o : Outcome} {c : Cost} → Derives g x v e p σ o c
      → (d b : ℕ) → Within c d b r → run g x r d b v e p σ ≡ ran o c
  complete empty d b w = opened w _ _ _ _
  complete byte d b w = opened w _ _ _ _
  complete range d b w = opened w _ _ _ _
  complete any d b w = opened w _ _ _ _
  complete text d b w = opened w _ _ _ _
  complete (seq_first D) d b w = rw (opened w, complete D _ _ (inner w))
  complete (seq_both {c = c} {d = e} D E) d b w = rw (opened w, complete D _ _ (first c e w), complete E _ _ (second c e w))
  complete (choice_first D) d b w = rw (opened w, complete D _ _ (inner w))
  complete (choice_second {c = c} {d = e} D E) d b w = rw (opened w, complete D _ _ (first c e w), complete E _ _ (second c e w))
  complete (star_stop D) d b w = rw (one_round w, complete D _ _ (inner w))
  complete (star_more {c = c} {d = e} D h E) d b w =
      rw (one_round (this_round c e w), complete D _ _ (inner (this_round c e w)), lt-ltb _ _ h, complete E _ _ (later_rounds c e w))
  complete (not D) d b w = rw (opened w, complete D _ _ (inner w))
  complete (call D) d b w = rw (opened w, complete D _ _ (inner w))
  complete (def_fail D) d b w = rw (opened w, complete D _ _ (inner w))
  complete (def_pass {σ = σ} {c = c} D) d b w = rw (opened w, complete D _ _ (first c (holding σ) w), lt-ltb (length σ) r (omega arith))
  complete match d b w = opened w _ _ _ _
  complete (is_none h) d b w = rw (opened w, h)
  complete (is_some h D) d b w = rw (opened w, h, complete D _ _ (inner w))
  complete (isa_none h) d b w = rw (opened w, h)
  complete (isa_some h D) d b w = rw (opened w, h, complete D _ _ (inner w))
  complete exists d b w = opened w _ _ _ _
  complete (block D) d b w = rw (opened w, complete D _ _ (inner w))
  complete (local D) d b w = rw (opened w, complete D _ _ (inner w))
  complete if d b w = opened w _ _ _ _
  complete (on D) d b w = rw (opened w, complete D _ _ (inner w))
