-- The numbers of names, as the lent slices tell them: places of names in a text, in byte order of the names, and beside the heads the nodes of the
-- productions.
use Rattle.std.specs.Prelude.{ℕ, ◌≤◌, List, length, get_or}
use Rattle.grammar.specs.Expr.{Expr}
use Rattle.notation.specs.Tree.{Name, Leaf, Opener}
use Rattle.notation.specs.Compile.{place, leaf_nodes, operator_node}
use Rattle.index.specs.Listed.{names_at, Ascending}

-- The names at all places of a slice.
abbrev pub names_of : (text at : List ℕ) → List Name
names_of text at = names_at text at (length at)

-- A name's place among them, and a production's node.
abbrev pub place_by : (text at : List ℕ) → Name → ℕ
place_by text at n = place n (names_of text at)

abbrev pub production_by : (text heads roots : List ℕ) → Name → ℕ
production_by text heads roots n = get_or roots (place_by text heads n) 0

-- The nodes of a leaf, the next being k.
abbrev pub leaf_by : (text heads roots tables switches : List ℕ) (k : ℕ) → Leaf → List Expr
leaf_by text heads roots tables switches = leaf_nodes (production_by text heads roots) (place_by text tables) (place_by text switches)

-- The node of an operator in angle brackets.
abbrev pub operator_by : (text tables switches : List ℕ) (production : Name → ℕ) → Opener → (a : ℕ) → Expr
operator_by text tables switches production = operator_node production (place_by text tables) (place_by text switches)

-- The names of tables and of conditions are in byte order, each once, and there are at most eight of each.
pub record Numbered (text tables switches : List ℕ) : Type 0 where
  pub tables_listed : Ascending (names_of text tables)
  pub switches_listed : Ascending (names_of text switches)
  pub few_tables : length tables ≤ 8
  pub few_switches : length switches ≤ 8
