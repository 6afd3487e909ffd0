-- What the numbers that are kept of the tables say.
use Rattle.std.specs.Prelude.{ℕ, ◌≡◌, Bool, List, map, eqb}
use Rattle.format.specs.Reading.{pick}
use Rattle.notation.specs.Tree.{Name}
use Rattle.notation.specs.Patterns.{Known, none_yet, begun, ends_at, is_new, put}

unfoldable pub known_of : ℕ → Known
known_of n = pick (eqb n 512) none_yet (pick (eqb n 513) begun (ends_at n))

-- The numbers say of each table what is known of it.
abbrev pub Tells : (patterns : List ℕ) → List Name → (Name → Known) → Type 0
Tells patterns ts f = map known_of patterns ≡ map f ts

-- A def of a table begins: whether it is the first, and what is known then.
abbrev pub Begins : (was : List ℕ) → List Name → Name → (now : List ℕ) → Bool → Type 0
Begins was ts t now r =
    (f : Name → Known) → Tells was ts f → (r ≡ is_new (f t)) × Tells now ts (pick r (put t begun f) f)
