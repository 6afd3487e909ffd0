-- What 01, "Meaning", says in words of scopes, as laws: "Block runs a and then puts back its own table's list. Local does so too, with that
-- list empty at the start. Other tables keep what a stored." They hold where no floor lies above the symbols held and every table has a
-- floor, which is so at the start and is kept by every derivation. And of condition switches: "on leaving On all lists are as they were on
-- entering". What a Block and a Local leave is proved in proofs/Scopes.antt.
use Rattle.std.specs.Prelude.{ℕ, zero, suc, ◌≤◌, ◌<◌, Bool, true, false, List, [], ◌∷◌, ◌++◌, reverse, eqb, length, drop, get_or, set}
use Rattle.std.proofs.Math.Path.{◌≡◌, refl, ap}
use Rattle.std.proofs.Common.{◌∙◌, append-nil, arith, length-set, drop_of_length-le, get_or-set_same, get_or-set_other, eqb-true}
use Rattle.std.proofs.lemmas.List.{drop-append-le}
use Rattle.std.proofs.lemmas.Bool.{eqb-false}
use Rattle.grammar.specs.Expr.{Expr, On}
use Rattle.grammar.specs.Grammar.{Grammar, node}
use Rattle.meaning.specs.State.{State, Env, outset, of_table, others, visible, hide, switch}
use Rattle.meaning.specs.Outcome.{Outcome, pass, fail, closed, restored}
use Rattle.meaning.specs.Cost.{Cost}
use Rattle.meaning.specs.Rules.{Derives, on}

-- No table hides more symbols than are held.
abbrev pub Floored : Env → State → Type 0
Floored v σ = (t : ℕ) → get_or v.floors t 0 ≤ length σ

-- ## Tables

pub of_append : (t : ℕ) (σ τ : State) → of_table t (σ ++ τ) ≡ of_table t σ ++ of_table t τ
of_append t [] τ = refl
of_append t (s ∷ σ) τ = go (eqb s.table t) (of_append t σ τ)
  where
    go : (b : Bool) → of_table t (σ ++ τ) ≡ of_table t σ ++ of_table t τ
        → (elim b [ true ↦ s ∷ of_table t (σ ++ τ) | false ↦ of_table t (σ ++ τ) ])
        ≡ (elim b [ true ↦ s ∷ of_table t σ | false ↦ of_table t σ ]) ++ of_table t τ
    go true e = ap (λ l. s ∷ l) e
    go false e = e

own_out : (t : ℕ) (σ : State) → of_table t (others t σ) ≡ []
own_out t [] = refl
own_out t (s ∷ σ) = go (eqb s.table t) refl (own_out t σ)
  where
    go :
        (b : Bool) → eqb s.table t ≡ b → of_table t (others t σ) ≡ []
        → of_table t (elim b [ true ↦ others t σ | false ↦ s ∷ others t σ ]) ≡ []
    go true e h = h
    go false e h = rw (e, of_table) h

-- A table's list after more was stored, where nothing of that is hidden.
pub seen_more :
    (v : Env) (u : ℕ) (σ l : State) → Floored v σ
    → visible v u (σ ++ l) ≡ reverse (of_table u (drop (get_or v.floors u 0) σ) ++ of_table u l)
seen_more v u σ l f =
    ap reverse (ap (of_table u) (drop-append-le (get_or v.floors u 0) σ l (f u)) ∙ of_append u (drop (get_or v.floors u 0) σ) l)

-- ## The laws

-- A Local's own list is empty at its start, and every other table's list is as it was.
pub local_starts_empty : (v : Env) (t : ℕ) (σ : State) → t < length v.floors → visible (hide v t σ) t σ ≡ []
local_starts_empty v t σ h = rw (get_or-set_same v.floors t (length σ) 0 h, drop_of_length-le σ {i = length σ} (omega arith))

pub local_leaves_others : (v : Env) (t u : ℕ) (σ τ : State) → (u ≡ t → ⊥) → visible (hide v t σ) u τ ≡ visible v u τ
local_leaves_others v t u σ τ n = rw (get_or-set_other v.floors t u (length σ) 0 n)

module _ (g : Grammar) (x : List ℕ) where
  -- The state in which a scope of table t is left, its body having come to τ.
  abbrev pub left : ℕ → State → State → State
  left t σ τ = σ ++ others t (drop (length σ) τ)

  pub scope_is_left : (t : ℕ) (σ τ : State) (q : ℕ) → closed t σ (pass q τ) ≡ pass q (left t σ τ)
  unfolding closed
  scope_is_left t σ τ q = refl

  module _ (v : Env) {w : Env} {e : Expr} {p q : ℕ} {σ τ : State} {c : Cost} (D : Derives g x w e p σ (pass q τ) c)
      (f : Floored v σ) where
    -- After a Block or a Local its own table's list is as it was before.
    pub own_list_back : (t : ℕ) → visible v t (left t σ τ) ≡ visible v t σ
    own_list_back t =
        seen_more v t σ (others t (drop (length σ) τ)) f
        ∙ rw (own_out t (drop (length σ) τ), append-nil (of_table t (drop (get_or v.floors t 0) σ)))

  -- ## Block, Local, On

  -- What a scope of table t, whose body ran under w, leaves: its own table's list as it was, every other list as the body left it.
  abbrev pub Leaves : (v w : Env) (t a p q : ℕ) (σ υ : State) → Type 0
  Leaves v w t a p q σ υ =
      (visible v t υ ≡ visible v t σ)
      × (τ : State) × (c : Cost) × Derives g x w (node g a) p σ (pass q τ) c
      × ((u : ℕ) → (u ≡ t → ⊥) → visible v u υ ≡ visible v u τ)

  -- "on leaving On all lists are as they were on entering."
  pub on_leaves : {v : Env} {k a p q : ℕ} {w : Bool} {σ τ : State} {c : Cost} → Derives g x v (On k w a) p σ (pass q τ) c → τ ≡ σ
  unfolding restored
  on_leaves {v} {k} {a} {p} {q} {w} {σ} {τ} D = go D refl
    where
      same : (o : Outcome) → restored σ o ≡ pass q τ → τ ≡ σ
      same (pass r υ) e = cc
      same fail e = let z : ◌≡◌ {A = ℕ} 0 1 = cc in absurd (omega arith)

      go : {o : Outcome} {c : Cost} → Derives g x v (On k w a) p σ o c → o ≡ pass q τ → τ ≡ σ
      go (on {o = o} D) e = same o e

-- Inside an On its condition has the named truth, and every other the truth that it had.
pub on_switches : (v : Env) (k : ℕ) (w : Bool) → k < length v.truths → get_or (switch v k w).truths k true ≡ w
on_switches v k w h = get_or-set_same v.truths k w true h

pub on_leaves_others : (v : Env) (k j : ℕ) (w : Bool) → (j ≡ k → ⊥) → get_or (switch v k w).truths j true ≡ get_or v.truths j true
on_leaves_others v k j w n = get_or-set_other v.truths k j w true n

-- Every table keeps its floor and every condition its truth.
pub hide_long : (v : Env) (t : ℕ) (σ : State) → length (hide v t σ).floors ≡ length v.floors
hide_long v t σ = length-set v.floors t (length σ)

pub switch_long : (v : Env) (k : ℕ) (w : Bool) → length (switch v k w).truths ≡ length v.truths
switch_long v k w = length-set v.truths k w

-- No floor lies above the symbols held where a Local or an On begins, nor at the start.
pub floored_hide : (v : Env) (t : ℕ) (σ : State) → Floored v σ → Floored (hide v t σ) σ
floored_hide v t σ f u = go (eqb u t) refl
  where
    past : (l : List ℕ) (k n : ℕ) → n ≤ length σ → get_or (set l k (length σ)) k 0 ≤ length σ
    past [] k n h = omega arith
    past (a ∷ l) zero n h = omega arith
    past (a ∷ l) (suc k) n h = past l k n h

    go : (b : Bool) → eqb u t ≡ b → get_or (set v.floors t (length σ)) u 0 ≤ length σ
    go true e = rw (eqb-true u t e) (past v.floors t 0 (omega arith))
    go false e = rw (get_or-set_other v.floors t u (length σ) 0 (eqb-false u t e)) (f u)

pub floored_switch : (v : Env) (k : ℕ) (truth : Bool) (σ : State) → Floored v σ → Floored (switch v k truth) σ
floored_switch v k truth σ f = f

pub floored_outset : Floored outset []
floored_outset t = zeros t
  where
    zeros : (t : ℕ) → get_or outset.floors t 0 ≤ 0
    zeros zero = omega arith
    zeros (suc zero) = omega arith
    zeros (suc (suc zero)) = omega arith
    zeros (suc (suc (suc zero))) = omega arith
    zeros (suc (suc (suc (suc zero)))) = omega arith
    zeros (suc (suc (suc (suc (suc zero))))) = omega arith
    zeros (suc (suc (suc (suc (suc (suc zero)))))) = omega arith
    zeros (suc (suc (suc (suc (suc (suc (suc zero))))))) = omega arith
    zeros (suc (suc (suc (suc (suc (suc (suc (suc t)))))))) = omega arith
