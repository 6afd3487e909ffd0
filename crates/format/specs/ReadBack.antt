-- What `body_back` says: what is written is read back. The theorem is in proofs/.
use Rattle.std.specs.Prelude.{ℕ, ◌≡◌, List, [], ◌++◌, drop}
use Rattle.grammar.specs.Grammar.{Grammar}
use Rattle.grammar.specs.Sound.{Sound}
use Rattle.format.specs.Reading.{Reading, got}
use Rattle.format.specs.Written.{numbers}

module _ (image : List ℕ) where
  -- From a place on there are these numbers, and then t.
  pub record Todo (ns t : List ℕ) (at : ℕ) : Type 0 where
    pub left : drop at image ≡ numbers ns ++ t

  -- The reading r gives x, and Q holds of the place after it.
  pub record Back {A : Type 0} (r : Reading A) (x : A) (Q : ℕ → Type 0) : Type 0 where
    pub next : ℕ
    pub is : r ≡ got x next
    pub after : Q next

  module _ (g : Grammar) (s : Sound g) where
    -- Nothing follows.
    abbrev pub Ended : ℕ → Type 0
    Ended at = drop at image ≡ []
