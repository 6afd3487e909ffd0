-- What `sound` says of the machine: what it answers has a derivation within the limits; what it refuses is a run that is cut short. The theorem is in proofs/.
use Rattle.std.specs.Prelude.{ℕ, List}
use Rattle.grammar.specs.Expr.{Expr}
use Rattle.grammar.specs.Grammar.{Grammar}
use Rattle.meaning.specs.State.{State, Env}
use Rattle.meaning.specs.Outcome.{Outcome}
use Rattle.meaning.specs.Cost.{Cost}
use Rattle.meaning.specs.Rules.{Derives}
use Rattle.meaning.specs.Limits.{Within}
use Rattle.meaning.specs.Cut.{Cut}
use Rattle.meaning.specs.Run.{Result, ran, refused}

-- Q holds of the outcome and the cost, or S of the refusal's number, place and cost.
pub data All (Q : Outcome → Cost → Type 0) (S : ℕ → ℕ → Cost → Type 0) : Result → Type 0 where
  came : {o : Outcome} {c : Cost} → Q o c → All Q S (ran o c)
  cut : {n p : ℕ} {c : Cost} → S n p c → All Q S (refused n p c)

module _ (g : Grammar) (x : List ℕ) (r : ℕ) where
  -- A derivation within the limits.
  pub record Found (d b : ℕ) (v : Env) (e : Expr) (p : ℕ) (σ : State) (o : Outcome) (c : Cost) : Type 0 where
    pub derived : Derives g x v e p σ o c
    pub fits : Within c d b r

  abbrev pub Answers : (d b : ℕ) → Env → Expr → ℕ → State → Result → Type 0
  Answers d b v e p σ = All (Found d b v e p σ) (Cut g x r d b v e p σ)
