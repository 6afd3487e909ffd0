-- What makes a grammar sound: every range of 01, "The image".
use Rattle.std.specs.Prelude.{ℕ, ◌≤◌, ◌<◌, List, length, get_or}
use Rattle.grammar.specs.Expr.{Expr, Empty, Byte, Range, Any, Text, Sequence, Choice, Star, Not, Call, Def, Match, Is, Isa, Exists, Block, Local, If, On}
use Rattle.grammar.specs.Grammar.{Grammar, tables, size, node, pattern}

-- A list of bytes: each is at most 255.
abbrev pub Bytes : List ℕ → Type 0
Bytes s = (i : ℕ) → get_or s i 0 ≤ 255

-- The operands of a node are within their ranges, by the table of kinds. "Operands a and b are lower than the node's own
-- number. A table is below T, a condition below C, any node below N." A truth is 0 or 1 by its type.
module _ (T C N own : ℕ) where
  abbrev pub Fits : Expr → Type 0
  Fits Empty = Unit {0}
  Fits (Byte b) = b ≤ 255
  Fits (Range lo hi) = (lo ≤ hi) × (hi ≤ 255)
  Fits Any = Unit {0}
  Fits (Text bytes) = (1 ≤ length bytes) × (length bytes ≤ 64) × Bytes bytes
  Fits (Sequence a b) = (a < own) × (b < own)
  Fits (Choice a b) = (a < own) × (b < own)
  Fits (Star a) = a < own
  Fits (Not a) = a < own
  Fits (Call a) = a < N
  Fits (Def t) = t < T
  Fits (Match t) = t < T
  Fits (Is t) = t < T
  Fits (Isa t) = t < T
  Fits (Exists t) = t < T
  Fits (Block t a) = (t < T) × (a < own)
  Fits (Local t a) = (t < T) × (a < own)
  Fits (If c truth) = c < C
  Fits (On c truth a) = (c < C) × (a < own)

pub record Sound (g : Grammar) : Type 0 where
  pub few_tables : tables g ≤ 8
  pub few_conditions : g.conditions ≤ 8
  pub some_node : 1 ≤ size g
  pub few_nodes : size g ≤ 512
  pub start_named : g.start < size g
  pub patterns_named : (t : ℕ) → t < tables g → pattern g t < size g
  pub operands_fit : (n : ℕ) → n < size g → Fits (tables g) g.conditions (size g) n (node g n)
