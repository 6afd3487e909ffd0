-- What `remain` says of an outcome: a pass ends with the state σ that it began with and then l. The theorem is in proofs/.
use Rattle.std.specs.Prelude.{ℕ, ◌≡◌, List, ◌++◌}
use Rattle.grammar.specs.Grammar.{Grammar}
use Rattle.meaning.specs.State.{State}
use Rattle.meaning.specs.Outcome.{Outcome, pass, fail}

module _ (g : Grammar) (x : List ℕ) where
  pub data Ends (σ l : State) : Outcome → Type 0 where
    held : {q : ℕ} {τ : State} → τ ≡ σ ++ l → Ends σ l (pass q τ)
    failed : Ends σ l fail
