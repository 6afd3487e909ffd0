-- A grammar. 01, "The image": tables T, conditions C, nodes N, the start node, for each table the node of its pattern, the
-- nodes themselves.
use Rattle.std.specs.Prelude.{ℕ, List, length, get_or}
use Rattle.grammar.specs.Expr.{Expr, Empty}

-- T and N are no fields: they are the lengths of two lists, so there are exactly T patterns and exactly N nodes.
pub record Grammar : Type 0 where
  pub conditions : ℕ
  pub start : ℕ
  pub patterns : List ℕ
  pub nodes : List Expr

abbrev pub tables : Grammar → ℕ
tables g = length g.patterns

abbrev pub size : Grammar → ℕ
size g = length g.nodes

-- "Nodes are numbered from 0": the node of a number. Past the last one there is none; Empty stands there.
abbrev pub node : Grammar → ℕ → Expr
node g n = get_or g.nodes n Empty

-- "One pattern per table": the number of the node that is a table's pattern.
abbrev pub pattern : Grammar → ℕ → ℕ
pattern g t = get_or g.patterns t 0
