-- `spent_counted`: the steps of the cost of a run that is cut short are its own steps, counted by a function that knows nothing of costs.
use Prim.Native.Nat.{ℕ, suc}
use Rattle.std.specs.Prelude.{◌≡◌, List}
use Rattle.std.proofs.Math.Path.{refl, ap}
use Rattle.std.proofs.Common.{arith}
use Rattle.grammar.specs.Expr.{Expr}
use Rattle.grammar.specs.Grammar.{Grammar}
use Rattle.meaning.specs.State.{State, Env}
use Rattle.meaning.specs.Cost.{Cost}
use Rattle.meaning.specs.Cut.{Cut, no_steps, no_depth, no_room, empty_round, cut_first, cut_second, cut_alternative, cut_other, cut_round, cut_later, cut_not, cut_call, cut_def, cut_is, cut_isa, cut_block, cut_local, cut_on}
use Rattle.meaning.specs.Steps.{spent}
use Rattle.meaning.specs.Counted.{counted}

module _ (g : Grammar) (x : List ℕ) where
  pub spent_counted :
      {r d b : ℕ} {v : Env} {e : Expr} {p : ℕ} {σ : State} {n s : ℕ} {c : Cost} (K : Cut g x r d b v e p σ n s c) → spent g x K ≡ c.steps
  unfolding spent
  spent_counted no_steps = refl
  spent_counted no_depth = refl
  spent_counted (no_room D w h) = ap suc (counted g x D)
  spent_counted (empty_round D w h) = ap suc (counted g x D)
  spent_counted (cut_first K) = ap suc (spent_counted K)
  spent_counted (cut_second D w K) = omega (arith, counted g x D, spent_counted K)
  spent_counted (cut_alternative K) = ap suc (spent_counted K)
  spent_counted (cut_other D w K) = omega (arith, counted g x D, spent_counted K)
  spent_counted (cut_round K) = ap suc (spent_counted K)
  spent_counted (cut_later D w h K) = omega (arith, counted g x D, spent_counted K)
  spent_counted (cut_not K) = ap suc (spent_counted K)
  spent_counted (cut_call K) = ap suc (spent_counted K)
  spent_counted (cut_def K) = ap suc (spent_counted K)
  spent_counted (cut_is h K) = ap suc (spent_counted K)
  spent_counted (cut_isa h K) = ap suc (spent_counted K)
  spent_counted (cut_block K) = ap suc (spent_counted K)
  spent_counted (cut_local K) = ap suc (spent_counted K)
  spent_counted (cut_on K) = ap suc (spent_counted K)
