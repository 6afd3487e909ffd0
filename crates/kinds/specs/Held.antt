-- The state that goes by value, as the definitions name it.
use Rattle.std.specs.Prelude.{ℕ, zero, suc, ◌<◌, ◌≡◌, refl, List, [], ◌∷◌, length, get_or, set}
use Rattle.std.proofs.Common.{arith}
use Rattle.meaning.specs.State.{Env}
use Rattle.kinds.specs.declared.state.State.{State}

abbrev pub env_of : State → Env
env_of s = record { truths = s.truths; floors = s.floors }

-- A table from which the first `held` symbols are hidden.
abbrev pub hiding : Env → (table held : ℕ) → Env
hiding v table held = record { truths = v.truths; floors = set v.floors table held }

-- What stands at a place of a list is read whatever is said of places past its end.
pub get_d_any : {A : Type 0} (l : List A) (i : ℕ) (a b : A) → i < length l → get_or l i a ≡ get_or l i b
get_d_any [] i a b h = absurd (omega arith)
get_d_any (x ∷ l) zero a b h = refl
get_d_any (x ∷ l) (suc i) a b h = get_d_any l i a b (omega arith)
