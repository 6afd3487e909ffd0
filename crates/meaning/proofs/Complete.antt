-- `cut_complete`: a run that is cut short is what the machine gives.
use Rattle.std.specs.Prelude.{ℕ, suc, ◌-◌, ◌≡◌, List, length}
use Rattle.std.proofs.Common.{arith, lt-ltb, le-ltb}
use Rattle.grammar.specs.Expr.{Expr, Star}
use Rattle.grammar.specs.Grammar.{Grammar, node}
use Rattle.meaning.specs.State.{State, Env}
use Rattle.meaning.specs.Cost.{Cost}
use Rattle.meaning.specs.Cut.{Cut, no_steps, no_depth, no_room, empty_round, cut_first, cut_second, cut_alternative, cut_other, cut_round, cut_later, cut_not, cut_call, cut_def, cut_is, cut_isa, cut_block, cut_local, cut_on}
use Rattle.meaning.specs.Run.{refused, next, charge, after, round, entered, run}
use Rattle.meaning.specs.RunLaws.{entry, without_steps, without_depth, star_round}
use Rattle.meaning.specs.Complete.{complete}

module _ (g : Grammar) (x : List ℕ) (r : ℕ) where
  step_in : (d b : ℕ) (v : Env) (e : Expr) (p : ℕ) (σ : State) → run g x r (suc d) (suc b) v e p σ ≡ entered g x r (run g x r d) b v e p σ
  step_in d b = entry g x r (suc d) (suc b) (omega arith) (omega arith)

  round_in : (d b : ℕ) (v : Env) (a p : ℕ) (σ : State)
      → run g x r (suc d) (suc b) v (Star a) p σ
      ≡ next (charge (run g x r d b v (node g a) p σ))
      (round p σ (λ q τ c. after c (run g x r (suc d) (suc b - c.steps) v (Star a) q τ)))
  round_in d b = star_round g x r (suc d) (suc b) (omega arith) (omega arith)

  less : (b n : ℕ) → suc b - suc n ≡ b - n
  less b n = omega arith

  pub cut_complete :
      {d b : ℕ} {v : Env} {e : Expr} {p : ℕ} {σ : State} {n s : ℕ} {c : Cost} → Cut g x r d b v e p σ n s c
      → run g x r d b v e p σ ≡ refused n s c
  cut_complete (no_steps {d = d}) = without_steps g x r d _ _ _ _
  cut_complete (no_depth {b = b}) = without_depth g x r b _ _ _ _
  cut_complete (no_room {d = d} {b = b} {σ = σ} D w h) = rw (step_in d b, complete g x r D d b w, le-ltb (length σ) r h)
  cut_complete (empty_round {d = d} {b = b} {p = p} {q = q} D w h) = rw (round_in d b, complete g x r D d b w, le-ltb p q h)
  cut_complete (cut_first {d = d} {b = b} K) = rw (step_in d b, cut_complete K)
  cut_complete (cut_second {d = d} {b = b} D w K) = rw (step_in d b, complete g x r D d b w, cut_complete K)
  cut_complete (cut_alternative {d = d} {b = b} K) = rw (step_in d b, cut_complete K)
  cut_complete (cut_other {d = d} {b = b} D w K) = rw (step_in d b, complete g x r D d b w, cut_complete K)
  cut_complete (cut_round {d = d} {b = b} K) = rw (round_in d b, cut_complete K)
  cut_complete (cut_later {d =
      d} {b = b} {p = p} {q = q} {c = c} D w h K) = rw (round_in d b, complete g x r D d b w, lt-ltb p q h, less b c.steps, cut_complete K)
  cut_complete (cut_not {d = d} {b = b} K) = rw (step_in d b, cut_complete K)
  cut_complete (cut_call {d = d} {b = b} K) = rw (step_in d b, cut_complete K)
  cut_complete (cut_def {d = d} {b = b} K) = rw (step_in d b, cut_complete K)
  cut_complete (cut_is {d = d} {b = b} h K) = rw (step_in d b, h, cut_complete K)
  cut_complete (cut_isa {d = d} {b = b} h K) = rw (step_in d b, h, cut_complete K)
  cut_complete (cut_block {d = d} {b = b} K) = rw (step_in d b, cut_complete K)
  cut_complete (cut_local {d = d} {b = b} K) = rw (step_in d b, cut_complete K)
  cut_complete (cut_on {d = d} {b = b} K) = rw (step_in d b, cut_complete K)
