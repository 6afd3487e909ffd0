-- The slot buffer as the machine uses it: three numbers a held symbol, oldest first.
use Rattle.std.specs.Prelude.{ℕ, zero, suc, ◌+◌, ◌*◌, ◌≤◌, ◌<◌, ◌≡◌, List, [], ◌∷◌, ◌++◌, Option, None, Some, eqb, ltb, length, drop, get_or, set}
use Rattle.format.specs.Reading.{pick}
use Rattle.meaning.specs.State.{Symbol, State, others}
use Rattle.meaning.specs.Rules.{symbol}
use Rattle.meaning.specs.Inside.{Part}
use Rattle.parts.specs.declared.slots.Symbol as held

-- What a symbol that was read stands for.
abbrev pub meant : held.Symbol → Symbol
meant s = symbol s.table s.start s.end

-- The symbol of a number, and the first h symbols.
abbrev pub symbol_at : List ℕ → ℕ → Symbol
symbol_at slots i = symbol (get_or slots (i * 3) 0) (get_or slots (i * 3 + 1) 0) (get_or slots (i * 3 + 2) 0)

unfoldable pub symbols : ℕ → List ℕ → State
symbols zero slots = []
symbols (suc h) slots = symbols h slots ++ (symbol_at slots h ∷ [])

-- A symbol put down as number h.
abbrev pub putting : List ℕ → (h table from to : ℕ) → List ℕ
putting slots h table from to = set (set (set slots (h * 3) table) (h * 3 + 1) from) (h * 3 + 2) to

-- The number of the latest symbol of a table among those from `low` up to `held`, if there is one.
unfoldable pub latest_of : (table low held : ℕ) → List ℕ → Option ℕ
latest_of table low zero slots = None
latest_of table low (suc h) slots = pick (ltb h low) None (pick (eqb (get_or slots (h * 3) 0) table) (Some h) (latest_of table low h slots))

-- Nothing below a number of symbols is written, and the buffer keeps its length.
pub record Below (mark : ℕ) (before after : List ℕ) : Type 0 where
  pub long : length after ≡ length before
  pub same : (k : ℕ) → k < mark * 3 → get_or after k 0 ≡ get_or before k 0

-- A scope of a table closed: what is held above the mark and not of the table slides down to it. r symbols are held
-- then, and what lies from them on is as it was.
pub record Closes (table mark held : ℕ) (before after : List ℕ) (r : ℕ) : Type 0 where
  pub least : mark ≤ r
  pub most : r ≤ held
  pub holds : symbols r after ≡ symbols mark before ++ others table (drop mark (symbols held before))
  pub frame : Below mark before after
  pub past : (k : ℕ) → r * 3 ≤ k → get_or after k 0 ≡ get_or before k 0

-- The first h symbols are parts of an input of n bytes.
abbrev pub Parts : (n h : ℕ) → List ℕ → Type 0
Parts n h slots = (k : ℕ) → k < h → Part n (symbol_at slots k)
