-- The shams of 01, "What the contracts settle": the two runs that tell them apart, and what it is that a machine meets a demand. The theorems, that an answerer of each kind breaks demand 2 or demand 3, are in proofs/.
use Rattle.std.specs.Prelude.{ℕ, List, [], ◌∷◌}
use Rattle.grammar.specs.Grammar.{Grammar}
use Rattle.meaning.specs.Recognise.{Called}
use Rattle.meaning.specs.Demands.{Entered, Demand2, Demand3}

-- `A=A` and `AB=AB` against image H, with limits that are just enough.
abbrev pub one : List ℕ
one = 0x41 ∷ 0x3D ∷ 0x41 ∷ []

abbrev pub two : List ℕ
two = 0x41 ∷ 0x42 ∷ 0x3D ∷ 0x41 ∷ 0x42 ∷ []

-- A machine answers every image, input, limits and slots. It meets demand 2 if its answers do wherever the entry checks pass.
pub record Machine : Type 0 where
  pub says : (image x : List ℕ) (B D R : ℕ) (slots : List ℕ) → Called

abbrev pub Meets2 : Machine → Type 0
Meets2 m =
    (image : List ℕ) (g : Grammar) (x : List ℕ) (B D R : ℕ) (slots : List ℕ) → Entered image g x B D R slots
    → Demand2 g x B D R (m.says image x B D R slots).answer

abbrev pub Meets3 : Machine → Type 0
Meets3 m =
    (image : List ℕ) (g : Grammar) (x : List ℕ) (B D R : ℕ) (slots : List ℕ) → Entered image g x B D R slots
    → Demand3 g x B D R (m.says image x B D R slots).answer slots (m.says image x B D R slots).slots
