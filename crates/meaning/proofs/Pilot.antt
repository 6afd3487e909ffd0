-- The pilot's question: may a name that was stored in an attempt that came to nothing count? No. What follows a failed alternative, a failed
-- last round or a look-ahead starts from the state before it, and a name that only an abandoned alternative defined is in no list
-- afterwards.
use Rattle.std.specs.Prelude.{ℕ, ◌≡◌, refl, ◌↔◌, ◌⊎◌}
use Rattle.std.proofs.Common.{ap, sym, subst, subst₂, inl, inr, arith}
use mathlib.Core.List.Memᴰ
use mathlib.Core.List.{List, Memᴰ}
use Rattle.grammar.specs.Expr.{Expr, Choice, Star}
use Rattle.grammar.specs.Grammar.{Grammar, node}
use Rattle.meaning.specs.State.{Symbol, State, Env, visible}
use Rattle.meaning.specs.Outcome.{Outcome, pass, fail}
use Rattle.meaning.specs.Cost.{Cost, enter, ◌⊕◌}
use Rattle.meaning.specs.Rules.{Derives, choice_first, choice_second, star_stop, star_more}
use Rattle.meaning.specs.Kept.{kept}
use Rattle.meaning.proofs.Exact.{at_most_one}
use Rattle.meaning.proofs.Remain.{remain, ends_eq}
use Rattle.meaning.specs.Pilot.{listed_is_held, made, kept_made}

module _ (g : Grammar) (x : List ℕ) where
  no_both :
      {v : Env} {e : Expr} {p q : ℕ} {σ τ : State} {c c' : Cost} → Derives g x v e p σ fail c → Derives g x v e p σ (pass q τ) c' → ⊥
  no_both {v} {e} {p} {q} {σ} {τ} {c} {c'} D E =
      let same = at_most_one g x v e p σ fail (pass q τ) c c' D E in
      let z : ◌≡◌ {A = ℕ} 0 1 = cc same.0 in omega arith

  -- Where a first alternative fails, the choice gives exactly what its second gives from the same place and the same state, whatever
  -- the first one stored on its way.
  pub choice_after_failure : {v : Env} {a b p : ℕ} {σ : State} {c : Cost} → Derives g x v (node g a) p σ fail c → (o : Outcome) (d : Cost)
      → Derives g x v (Choice a b) p σ o d ↔ ((d' : Cost) × Derives g x v (node g b) p σ o d' × (d ≡ enter (c ⊕ d')))
  choice_after_failure {v} {a} {b} {p} {σ} {c} D o d =
      (there, λ h. subst (λ d. Derives g x v (Choice a b) p σ o d) (sym h.2) (choice_second D h.1))
    where
      there :
          {o : Outcome} {d : Cost} → Derives g x v (Choice a b) p σ o d
          → (d' : Cost) × Derives g x v (node g b) p σ o d' × (d ≡ enter (c ⊕ d'))
      there (choice_first E) = absurd (no_both D E)
      there (choice_second {c =
          c'} {d = d'} E F) = (d', F, ap (λ c. enter (c ⊕ d')) (at_most_one g x v (node g a) p σ fail fail c' c E D).1)

  -- Where a round of a Star fails, the Star passes at the place and with the state that the rounds before left, whatever the failed round
  -- stored on its way.
  pub star_after_failure : {v : Env} {a p : ℕ} {σ : State} {c : Cost} → Derives g x v (node g a) p σ fail c → (o : Outcome) (d : Cost)
      → Derives g x v (Star a) p σ o d ↔ ((o ≡ pass p σ) × (d ≡ enter c))
  star_after_failure {v} {a} {p} {σ} {c} D o d =
      (there, λ h. subst₂ (λ o d. Derives g x v (Star a) p σ o d) (sym h.0) (sym h.1) (star_stop D))
    where
      there : {o : Outcome} {d : Cost} → Derives g x v (Star a) p σ o d → (o ≡ pass p σ) × (d ≡ enter c)
      there (star_stop {c = c'} E) = (refl, ap enter (at_most_one g x v (node g a) p σ fail fail c' c E D).1)
      there (star_more E h F) = absurd (no_both D E)

  -- THE PILOT'S QUESTION. A name that a failed first alternative made, that was not held before, and that the second alternative did not make:
  -- after the choice it is in no table's list, whatever is hidden.
  pub abandoned : {v : Env} (a b : ℕ) {p q : ℕ} {σ τ : State} {c d : Cost} (D : Derives g x v (node g a) p σ fail c)
      (E : Derives g x v (node g b) p σ (pass q τ) d) (s : Symbol) → Memᴰ s (made g x D)
      → (Memᴰ s σ → ⊥) → (Memᴰ s (made g x E) → ⊥) → (w : Env) (t : ℕ) → Memᴰ s (visible w t τ) → ⊥
  abandoned a b {σ =
      σ} {τ = τ} D E s only old new w t m = among (Memᴰ.append_cases σ (rw (ends_eq g x (remain g x E)) at (listed_is_held w t τ m)))
    where
      among : Memᴰ s σ ⊎ Memᴰ s (kept g x E) → ⊥
      among (inl m) = old m
      among (inr m) = new (kept_made g x E s m)
