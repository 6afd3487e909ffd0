-- What `room_enough` says of an outcome. The theorem is in proofs/.
use Rattle.std.specs.Prelude.{ℕ, ◌≤◌, length}
use Rattle.meaning.specs.State.{State}
use Rattle.meaning.specs.Outcome.{Outcome, pass, fail}

-- An outcome that holds at most so many symbols.
pub data AtMost (n : ℕ) : Outcome → Type 0 where
  holds : {q : ℕ} {τ : State} → length τ ≤ n → AtMost n (pass q τ)
  fails : AtMost n fail
