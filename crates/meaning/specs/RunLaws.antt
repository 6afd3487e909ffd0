-- Laws of the machine as a function: what an entry is, and what a round of a Star is.
use Prim.Native.Nat.{ℕ, zero, suc, pred, ◌-◌, ◌≤◌}
use Rattle.std.specs.Prelude.{◌≡◌, List, ltb}
use Rattle.std.proofs.Math.Path.{refl}
use Rattle.std.proofs.Common.{ap, ◌∙◌, sym, arith}
use Rattle.grammar.specs.Expr.{Expr, Star}
use Rattle.grammar.specs.Grammar.{Grammar, node}
use Rattle.meaning.specs.State.{State, Env}
use Rattle.meaning.specs.Outcome.{pass, fail}
use Rattle.meaning.specs.Cost.{nothing, enter}
use Rattle.meaning.specs.Run.{Result, ran, refused, next, charge, after, if_consumed, round, rounds, entered, run}

-- Of a Star's rounds the first number does not matter, if it is at least the steps left.
fuel : (f : ℕ → ℕ → State → Result) (k j b : ℕ) → b ≤ k → b ≤ j → (p : ℕ) (σ : State) → rounds f k b p σ ≡ rounds f j b p σ
unfolding rounds
fuel f zero zero b h h' p σ = refl
fuel f zero (suc j) zero h h' p σ = refl
fuel f zero (suc j) (suc b) h h' p σ = absurd (omega arith)
fuel f (suc k) zero zero h h' p σ = refl
fuel f (suc k) zero (suc b) h h' p σ = absurd (omega arith)
fuel f (suc k) (suc j) zero h h' p σ = refl
fuel f (suc k) (suc j) (suc b) h h' p σ = go (λ i h h' q τ. fuel f k j i h h' q τ) (f b p σ)
  where
    go : ((i : ℕ) → i ≤ k → i ≤ j → (q : ℕ) (τ : State) → rounds f k i q τ ≡ rounds f j i q τ) → (r : Result)
        → next (charge r) (round p σ (λ q τ c. after c (rounds f k (suc b - c.steps) q τ)))
        ≡ next (charge r) (round p σ (λ q τ c. after c (rounds f j (suc b - c.steps) q τ)))
    go ih (ran (pass q τ) c) =
        ap (λ r. if_consumed (ltb p q) p (enter c) (λ u. after (enter c) r)) (ih (suc b - suc c.steps) (omega arith) (omega arith) q τ)
    go ih (ran fail c) = refl
    go ih (refused n q c) = refl

star_law : (f : ℕ → ℕ → State → Result) (b : ℕ) → 1 ≤ b → (p : ℕ) (σ : State)
    → rounds f b b p σ ≡ next (charge (f (pred b) p σ)) (round p σ (λ q τ c. after c (rounds f (b - c.steps) (b - c.steps) q τ)))
unfolding rounds
star_law f zero h p σ = absurd (omega arith)
star_law f (suc b) h p σ = go (f b p σ)
  where
    go : (r : Result) → next (charge r) (round p σ (λ q τ c. after c (rounds f b (suc b - c.steps) q τ)))
        ≡ next (charge r) (round p σ (λ q τ c. after c (rounds f (suc b - c.steps) (suc b - c.steps) q τ)))
    go (ran (pass q τ) c) =
        ap (λ r. if_consumed (ltb p q) p (enter c) (λ u. after (enter c) r))
        (fuel f b (suc b - suc c.steps) (suc b - suc c.steps) (omega arith) (omega arith) q τ)
    go (ran fail c) = refl
    go (refused n q c) = refl

module _ (g : Grammar) (x : List ℕ) (r : ℕ) where
  -- With a step and a depth left, an expression is entered.
  pub entry : (d b : ℕ) → 1 ≤ d → 1 ≤ b → (v : Env) (e : Expr) (p : ℕ) (σ : State)
      → run g x r d b v e p σ ≡ entered g x r (run g x r (pred d)) (pred b) v e p σ
  unfolding run
  entry zero b h h' v e p σ = absurd (omega arith)
  entry (suc d) zero h h' v e p σ = absurd (omega arith)
  entry (suc d) (suc b) h h' v e p σ = refl

  -- With no step left it is refused, whatever depth is left; with a step left and no depth it is refused for depth.
  pub without_steps : (d : ℕ) (v : Env) (e : Expr) (p : ℕ) (σ : State) → run g x r d 0 v e p σ ≡ refused 12 p nothing
  unfolding run
  without_steps zero v e p σ = refl
  without_steps (suc d) v e p σ = refl

  pub without_depth : (b : ℕ) (v : Env) (e : Expr) (p : ℕ) (σ : State) → run g x r 0 (suc b) v e p σ ≡ refused 13 p nothing
  unfolding run
  without_depth b v e p σ = refl

  pub star_run : (d b : ℕ) → 1 ≤ d → (v : Env) (a p : ℕ) (σ : State)
      → run g x r d b v (Star a) p σ ≡ rounds (λ k q τ. run g x r (pred d) k v (node g a) q τ) b b p σ
  unfolding run rounds
  star_run zero b h v a p σ = absurd (omega arith)
  star_run (suc d) zero h v a p σ = refl
  star_run (suc d) (suc b) h v a p σ = refl

  -- A Star is one round and then the Star again.
  pub star_round : (d b : ℕ) → 1 ≤ d → 1 ≤ b → (v : Env) (a p : ℕ) (σ : State)
      → run g x r d b v (Star a) p σ
      ≡ next (charge (run g x r (pred d) (pred b) v (node g a) p σ))
      (round p σ (λ q τ c. after c (run g x r d (b - c.steps) v (Star a) q τ)))
  star_round d b h h' v a p σ =
      star_run d b h v a p σ
      ∙ star_law (λ k q τ. run g x r (pred d) k v (node g a) q τ) b h' p σ
      ∙ ap (λ k. next (charge (run g x r (pred d) (pred b) v (node g a) p σ)) (round p σ k))
      (λ i q τ c. after c (sym (star_run d (b - c.steps) h v a q τ) i))
