-- What the machine and the rules say of limits: that something is derivable within them, that a run is stopped by them, and by which number.
use Rattle.std.specs.Prelude.{ℕ, ◌≤◌, List}
use Rattle.std.proofs.Common.{arith}
use Rattle.grammar.specs.Expr.{Expr}
use Rattle.grammar.specs.Grammar.{Grammar}
use Rattle.meaning.specs.State.{State, Env}
use Rattle.meaning.specs.Outcome.{Outcome}
use Rattle.meaning.specs.Cost.{Cost}
use Rattle.meaning.specs.Rules.{Derives}
use Rattle.meaning.specs.Limits.{Within}
use Rattle.meaning.specs.Cut.{Cut, no_steps, no_depth, no_room, empty_round, cut_first, cut_second, cut_alternative, cut_other, cut_round, cut_later, cut_not, cut_call, cut_def, cut_is, cut_isa, cut_block, cut_local, cut_on}

module _ (g : Grammar) (x : List ℕ) (v : Env) (e : Expr) (p : ℕ) (σ : State) where
  -- A derivation within the limits, whatever its outcome and cost.
  abbrev pub Derivable : (r d b : ℕ) → Type 0
  Derivable r d b = (o : Outcome) × (c : Cost) × Derives g x v e p σ o c × Within c d b r

  abbrev pub Stopped : (r d b : ℕ) → Type 0
  Stopped r d b = (n : ℕ) × (s : ℕ) × (c : Cost) × Cut g x r d b v e p σ n s c

-- A refusal of a run is one of 12 to 15.
pub stop_number :
    {g : Grammar} {x : List ℕ} {r d b : ℕ} {v : Env} {e : Expr} {p : ℕ} {σ : State} {n s : ℕ} {c : Cost} → Cut g x r d b v e p σ n s c
    → (12 ≤ n) × (n ≤ 15)
stop_number no_steps = omega arith
stop_number no_depth = omega arith
stop_number (no_room D w h) = omega arith
stop_number (empty_round D w h) = omega arith
stop_number (cut_first K) = stop_number K
stop_number (cut_second D w K) = stop_number K
stop_number (cut_alternative K) = stop_number K
stop_number (cut_other D w K) = stop_number K
stop_number (cut_round K) = stop_number K
stop_number (cut_later D w h K) = stop_number K
stop_number (cut_not K) = stop_number K
stop_number (cut_call K) = stop_number K
stop_number (cut_def K) = stop_number K
stop_number (cut_is h K) = stop_number K
stop_number (cut_isa h K) = stop_number K
stop_number (cut_block K) = stop_number K
stop_number (cut_local K) = stop_number K
stop_number (cut_on K) = stop_number K
