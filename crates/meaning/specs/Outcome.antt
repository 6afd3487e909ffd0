-- Outcomes, and what each kind makes of an outcome inside it. 01, "Meaning".
use Rattle.std.specs.Prelude.{ℕ, ◌+◌, ◌-◌, Bool, true, false, List, [], ◌∷◌, ◌++◌, eqb, leb, length, take, drop}
use Rattle.meaning.specs.State.{Symbol, State, others}

-- An expression passes, at a place of the input and with a state, or it fails. "A failing expression always leaves the state it
-- began with": a failure carries no state, so what follows it can only start from the old one.
pub data Outcome : Type 0 where
  pass : (at : ℕ) (state : State) → Outcome
  fail : Outcome

-- ## Tests on bytes

abbrev pub ◌and◌ : Bool → Bool → Bool
◌and◌ true b = b
◌and◌ false b = false

infixr 50 ◌and◌
abbrev pub same : List ℕ → List ℕ → Bool
same [] [] = true
same [] (b ∷ bs) = false
same (a ∷ aa) [] = false
same (a ∷ aa) (b ∷ bs) = eqb a b and same aa bs

-- Whether a list of bytes stands at the front of what is left of the input.
abbrev pub begins : (bytes rest : List ℕ) → Bool
begins bytes rest = same (take (length bytes) rest) bytes

-- Whether there is one: a byte that is left, a symbol in a list.
abbrev pub some : {A : Type 0} → List A → Bool
some [] = false
some (a ∷ aa) = true

-- Whether a byte is left and within a range.
abbrev pub in_range : (lo hi : ℕ) → List ℕ → Bool
in_range lo hi [] = false
in_range lo hi (b ∷ rest) = leb lo b and leb b hi

abbrev pub agree : Bool → Bool → Bool
agree true b = b
agree false true = false
agree false false = true

-- ## What becomes of an outcome

unfoldable pub pass_if : Bool → ℕ → State → Outcome
pass_if true q σ = pass q σ
pass_if false q σ = fail

-- Not: "passes exactly if its body fails. It consumes nothing and leaves the starting state".
unfoldable pub swap : ℕ → State → Outcome → Outcome
swap p σ (pass q τ) = fail
swap p σ fail = pass p σ

-- On: "on leaving On all lists are as they were on entering".
unfoldable pub restored : State → Outcome → Outcome
restored σ (pass q τ) = pass q σ
restored σ fail = fail

-- Block and Local: "puts back its own table's list", "Other tables keep what a stored". What was stored since is what stands
-- behind the symbols that were held on entering, since a pass removes or changes none of those (`remain`).
unfoldable pub closed : ℕ → State → Outcome → Outcome
closed t σ (pass q τ) = pass q (σ ++ others t (drop (length σ) τ))
closed t σ fail = fail

module _ (x : List ℕ) where
  -- The bytes of the input between two places, and those of a symbol.
  abbrev pub part : (p q : ℕ) → List ℕ
  part p q = take (q - p) (drop p x)

  abbrev pub text : Symbol → List ℕ
  text s = part s.from s.to

  -- Match: "consumes the latest symbol's bytes exactly; fails on an empty list".
  unfoldable pub matched : ℕ → State → (list : State) → Outcome
  matched p σ [] = fail
  matched p σ (s ∷ list) = pass_if (begins (text s) (drop p x)) (p + length (text s)) σ

  -- Whether some symbol of a list has these bytes.
  abbrev pub among : List ℕ → State → Bool
  among bytes [] = false
  among bytes (s ∷ list) = elim (same bytes (text s)) [ true ↦ true | false ↦ among bytes list ]

  -- Is and Isa: "drops what that stored, and passes if the consumed bytes equal" a symbol of the list.
  unfoldable pub compared : ℕ → State → (list : State) → Outcome → Outcome
  compared p σ list (pass q τ) = pass_if (among (part p q) list) q σ
  compared p σ list fail = fail
