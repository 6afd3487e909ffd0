-- The state and the environment. 01, "Meaning": "for each table a list of symbols (parts of the input), latest first; the order of
-- storing across tables is part of the state. The machine also carries the truth of all eight conditions".
use Rattle.std.specs.Prelude.{ℕ, Bool, true, false, List, [], ◌∷◌, reverse, eqb, length, drop, get_or, set, replicate}

-- A symbol: a part of the input, kept for a table.
pub record Symbol : Type 0 where
  pub table : ℕ
  pub from : ℕ
  pub to : ℕ

-- 01, "Steps, depth, room": "Held symbols are all in all lists, those hidden by a Local included." All of them, oldest first, in
-- the order in which they were stored, whatever their tables.
abbrev pub State : Type 0
State = List Symbol

-- What holds while an expression runs, and is put back when it is left: the truth of each condition, and for each table how many
-- symbols, of whatever tables, were held when its innermost Local was entered: those are hidden from it.
pub record Env : Type 0 where
  pub truths : List Bool
  pub floors : List ℕ

-- "every one is true at the start"; no table hides anything.
abbrev pub outset : Env
outset = record { truths = replicate 8 true; floors = replicate 8 0 }

-- The symbols of a table, and those of the others.
abbrev pub of_table : ℕ → State → State
of_table t [] = []
of_table t (s ∷ σ) = elim (eqb s.table t) [ true ↦ s ∷ of_table t σ | false ↦ of_table t σ ]

abbrev pub others : ℕ → State → State
others t [] = []
others t (s ∷ σ) = elim (eqb s.table t) [ true ↦ others t σ | false ↦ s ∷ others t σ ]

-- The list of a table as an expression sees it, latest first.
abbrev pub visible : Env → ℕ → State → State
visible v t σ = reverse (of_table t (drop (get_or v.floors t 0) σ))

-- Inside a Local of table t everything held so far is hidden from t: "with that list empty at the start".
abbrev pub hide : Env → ℕ → State → Env
hide v t σ = record { truths = v.truths; floors = set v.floors t (length σ) }

-- Inside an On the condition has the named truth.
abbrev pub switch : Env → ℕ → Bool → Env
switch v c truth = record { truths = set v.truths c truth; floors = v.floors }
