-- The machine and the rules say the same. `exact`: it comes to an outcome exactly if a derivation within the limits does. `cut_exactly`: it
-- refuses exactly as the run that is cut short. `refused_exactly`: it refuses exactly if no derivation is within the limits.
-- `raised`: raised limits alter no outcome. `at_most_one`: there is at most one outcome and cost.
use Rattle.std.specs.Prelude.{ℕ, ◌≤◌, max, ◌≡◌, refl, List, ◌↔◌}
use Rattle.std.proofs.Common.{arith}
use Rattle.grammar.specs.Expr.{Expr}
use Rattle.grammar.specs.Grammar.{Grammar}
use Rattle.meaning.specs.State.{State, Env}
use Rattle.meaning.specs.Outcome.{Outcome}
use Rattle.meaning.specs.Cost.{Cost}
use Rattle.meaning.specs.Rules.{Derives}
use Rattle.meaning.specs.Limits.{Within}
use Rattle.meaning.specs.Cut.{Cut}
use Rattle.meaning.specs.Run.{Result, ran, refused, run}
use Rattle.meaning.specs.Complete.{complete}
use Rattle.meaning.proofs.Complete.{cut_complete}
use Rattle.meaning.specs.Sound.{All, came, cut}
use Rattle.meaning.proofs.Sound.{sound}
use Rattle.meaning.specs.Exact.{Derivable, Stopped}

of_ran : {Q : Outcome → Cost → Type 0} {S : ℕ → ℕ → Cost → Type 0} {o : Outcome} {c : Cost} → All Q S (ran o c) → Q o c
of_ran (came h) = h

of_refused : {Q : Outcome → Cost → Type 0} {S : ℕ → ℕ → Cost → Type 0} {n p : ℕ} {c : Cost} → All Q S (refused n p c) → S n p c
of_refused (cut h) = h

module _ (g : Grammar) (x : List ℕ) (v : Env) (e : Expr) (p : ℕ) (σ : State) where
  pub exact : (r d b : ℕ) (o : Outcome) (c : Cost) → (run g x r d b v e p σ ≡ ran o c) ↔ (Derives g x v e p σ o c × Within c d b r)
  exact r d b o c = (
    (λ h. let s = of_ran (rw h at (sound g x r d b v e p σ)) in (s.derived, s.fits)),
    (λ h. complete g x r h.0 d b h.1),
  )

  pub cut_exactly : (r d b n s : ℕ) (c : Cost) → (run g x r d b v e p σ ≡ refused n s c) ↔ Cut g x r d b v e p σ n s c
  cut_exactly r d b n s c = ((λ h. of_refused (rw h at (sound g x r d b v e p σ))), cut_complete g x r)

  pub refused_exactly : (r d b : ℕ) → Stopped g x v e p σ r d b ↔ ¬ (Derivable g x v e p σ r d b)
  refused_exactly r d b = (
    (λ h k. let z : ◌≡◌ {A = ℕ} 0 1 = cc (cut_complete g x r h.3, complete g x r k.2 d b k.3) in absurd (omega arith)),
    (λ k. go k (run g x r d b v e p σ) refl),
  )
    where
      go : ¬ (Derivable g x v e p σ r d b) → (s : Result) → run g x r d b v e p σ ≡ s → Stopped g x v e p σ r d b
      go k (ran o c) h = let s = (exact r d b o c).0 h in absurd (k (o, c, s.0, s.1))
      go k (refused n s c) h = (n, s, c, (cut_exactly r d b n s c).0 h)

  -- Raised limits.
  pub raised :
      (r d b r' d' b' : ℕ) (o : Outcome) (c : Cost) → r ≤ r' → d ≤ d' → b ≤ b' → run g x r d b v e p σ ≡ ran o c
      → run g x r' d' b' v e p σ ≡ ran o c
  raised r d b r' d' b' o c hr hd hb h =
      let s = (exact r d b o c).0 h in let w : Within c d b r = s.1 in complete g x r' s.0 d' b' (omega arith)

  pub at_most_one : (o o' : Outcome) (c c' : Cost) → Derives g x v e p σ o c → Derives g x v e p σ o' c' → (o ≡ o') × (c ≡ c')
  at_most_one o o' c c' D E =
      let d = max c.depth c'.depth in
      let b = max c.steps c'.steps in
      let r = max c.room c'.room in
      let one : run g x r d b v e p σ ≡ ran o c = complete g x r D d b (omega arith) in
      let two : run g x r d b v e p σ ≡ ran o' c' = complete g x r E d b (omega arith) in
      (cc, cc)

  -- There is at most one way in which a run is cut short: its number, place and cost are fixed.
  pub one_stop :
      (r d b n n' s s' : ℕ) (c c' : Cost) → Cut g x r d b v e p σ n s c → Cut g x r d b v e p σ n' s' c' → (n ≡ n') × (s ≡ s') × (c ≡ c')
  one_stop r d b n n' s s' c c' K L =
      let one = cut_complete g x r K in
      let two = cut_complete g x r L in
      (cc, cc, cc)
