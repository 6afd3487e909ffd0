-- Of what 01, "Meaning", says in words of scopes (specs/Scopes.antt): other tables keep what a body stored, and what a Block and a Local leave.
use Rattle.std.specs.Prelude.{ℕ, ◌<◌, Bool, true, false, List, [], ◌∷◌, ◌++◌, reverse, eqb, length, drop, get_or}
use Rattle.std.proofs.Math.Path.{◌≡◌, refl, ap, subst}
use Rattle.std.proofs.Common.{◌∙◌, sym, arith, length-append, ne_eqb, eqb-true}
use Rattle.std.proofs.Math.Seq.{drop-append_seam}
use Rattle.grammar.specs.Expr.{Expr, Block, Local}
use Rattle.grammar.specs.Grammar.{Grammar, node}
use Rattle.meaning.specs.State.{State, Env, of_table, others, visible, hide}
use Rattle.meaning.specs.Outcome.{Outcome, pass, fail, closed}
use Rattle.meaning.specs.Cost.{Cost}
use Rattle.meaning.specs.Rules.{Derives, block, local}
use Rattle.meaning.specs.Kept.{kept}
use Rattle.meaning.proofs.Remain.{remain, ends_eq}
use Rattle.meaning.specs.Scopes.{Floored, seen_more, local_starts_empty, left, own_list_back, Leaves}

other_in : (u t : ℕ) → (u ≡ t → ⊥) → (σ : State) → of_table u (others t σ) ≡ of_table u σ
other_in u t n [] = refl
other_in u t n (s ∷ σ) = go (eqb s.table t) refl (other_in u t n σ)
  where
    go : (b : Bool) → eqb s.table t ≡ b → of_table u (others t σ) ≡ of_table u σ
        → of_table u (elim b [ true ↦ others t σ | false ↦ s ∷ others t σ ]) ≡ of_table u (s ∷ σ)
    go true e h = rw (ne_eqb s.table u (λ q. n (sym q ∙ eqb-true s.table t e)), of_table) h
    go false e h = ap (λ l. elim (eqb s.table u) [ true ↦ s ∷ l | false ↦ l ]) h

module _ (g : Grammar) (x : List ℕ) where
  module _ (v : Env) {w : Env} {e : Expr} {p q : ℕ} {σ τ : State} {c : Cost} (D : Derives g x w e p σ (pass q τ) c)
      (f : Floored v σ) where
    -- Every other table's list is as the body left it.
    pub other_lists_stay : (t u : ℕ) → (u ≡ t → ⊥) → visible v u (left g x t σ τ) ≡ visible v u τ
    other_lists_stay t u n =
        let more : τ ≡ σ ++ kept g x D = ends_eq g x (remain g x D) in
        seen_more v u σ (others t (drop (length σ) τ)) f
        ∙ ap (λ l. reverse (of_table u (drop (get_or v.floors u 0) σ) ++ l)) (other_in u t n (drop (length σ) τ)
        ∙ ap (of_table u) (ap (drop (length σ)) more ∙ drop-append_seam σ (kept g x D)))
        ∙ sym (ap (visible v u) more ∙ seen_more v u σ (kept g x D) f)

    -- No floor lies above the symbols held after a pass.
    pub floored_after : Floored v τ
    floored_after t = omega (arith, f t, simp length-append at (ap length (ends_eq g x (remain g x D))))

  leaves : (v w : Env) (t a p q : ℕ) (σ υ : State) → Floored v σ → (o : Outcome) (c : Cost)
      → Derives g x w (node g a) p σ o c → closed t σ o ≡ pass q υ → Leaves g x v w t a p q σ υ
  unfolding closed
  leaves v w t a p q σ υ f (pass r τ) c D e =
      let end : r ≡ q = cc in
      let state : left g x t σ τ ≡ υ = cc in (
        ap (visible v t) (sym state) ∙ own_list_back g x v D f t,
        τ,
        c,
        subst (λ r. Derives g x w (node g a) p σ (pass r τ) c) end D,
        λ u n. ap (visible v u) (sym state) ∙ other_lists_stay v D f t u n,
      )
  leaves v w t a p q σ υ f fail c D e = let z : ◌≡◌ {A = ℕ} 0 1 = cc in absurd (omega arith)

  -- "Block runs a and then puts back its own table's list. Other tables keep what a stored."
  pub block_leaves : {v : Env} {t a p q : ℕ} {σ υ : State} {c : Cost}
      → Derives g x v (Block t a) p σ (pass q υ) c → Floored v σ → Leaves g x v v t a p q σ υ
  block_leaves {v} {t} {a} {p} {q} {σ} {υ} D f = go D refl
    where
      go : {o : Outcome} {c : Cost} → Derives g x v (Block t a) p σ o c → o ≡ pass q υ → Leaves g x v v t a p q σ υ
      go (block {o = o} {c = c} D) e = leaves v v t a p q σ υ f o c D e

  -- "Local does so too, with that list empty at the start."
  pub local_leaves : {v : Env} {t a p q : ℕ} {σ υ : State} {c : Cost} → Derives g x v (Local t a) p σ (pass q υ) c → Floored v σ
      → t < length v.floors → (visible (hide v t σ) t σ ≡ []) × Leaves g x v (hide v t σ) t a p q σ υ
  local_leaves {v} {t} {a} {p} {q} {σ} {υ} D f h = (local_starts_empty v t σ h, go D refl)
    where
      go : {o : Outcome} {c : Cost} → Derives g x v (Local t a) p σ o c → o ≡ pass q υ → Leaves g x v (hide v t σ) t a p q σ υ
      go (local {o = o} {c = c} D) e = leaves v (hide v t σ) t a p q σ υ f o c D e
