-- How a grammar is written as an image. 01, "The image".
use Rattle.std.specs.Prelude.{ℕ, Bool, true, false, List, [], ◌∷◌, ◌++◌, length}
use Rattle.grammar.specs.Expr.{Expr, Empty, Byte, Range, Any, Text, Sequence, Choice, Star, Not, Call, Def, Match, Is, Isa, Exists, Block, Local, If, On}
use Rattle.grammar.specs.Grammar.{Grammar, tables, size}
use Rattle.format.specs.Number.{groups}

-- Each written by `w`, one after the other.
abbrev pub written : {A : Type 0} → (A → List ℕ) → List A → List ℕ
written w [] = []
written w (x ∷ xs) = w x ++ written w xs

abbrev pub numbers : List ℕ → List ℕ
numbers = written groups

abbrev pub bit : Bool → ℕ
bit true = 1
bit false = 0

-- A node: its tag and then its operands, by the table of kinds.
abbrev pub encode_node : Expr → List ℕ
encode_node Empty = numbers (0 ∷ [])
encode_node (Byte b) = numbers (1 ∷ b ∷ [])
encode_node (Range lo hi) = numbers (2 ∷ lo ∷ hi ∷ [])
encode_node Any = numbers (3 ∷ [])
encode_node (Text bytes) = numbers (4 ∷ length bytes ∷ []) ++ bytes
encode_node (Sequence a b) = numbers (5 ∷ a ∷ b ∷ [])
encode_node (Choice a b) = numbers (6 ∷ a ∷ b ∷ [])
encode_node (Star a) = numbers (7 ∷ a ∷ [])
encode_node (Not a) = numbers (8 ∷ a ∷ [])
encode_node (Call a) = numbers (9 ∷ a ∷ [])
encode_node (Def t) = numbers (10 ∷ t ∷ [])
encode_node (Match t) = numbers (11 ∷ t ∷ [])
encode_node (Is t) = numbers (12 ∷ t ∷ [])
encode_node (Isa t) = numbers (13 ∷ t ∷ [])
encode_node (Exists t) = numbers (14 ∷ t ∷ [])
encode_node (Block t a) = numbers (15 ∷ t ∷ a ∷ [])
encode_node (Local t a) = numbers (16 ∷ t ∷ a ∷ [])
encode_node (If c truth) = numbers (17 ∷ c ∷ bit truth ∷ [])
encode_node (On c truth a) = numbers (18 ∷ c ∷ bit truth ∷ a ∷ [])

-- In order: edition, tables, conditions, nodes, start node; for each table the node of its pattern; then the nodes.
abbrev pub heading : Grammar → List ℕ
heading g = 1 ∷ tables g ∷ g.conditions ∷ size g ∷ g.start ∷ []

abbrev pub encode : Grammar → List ℕ
encode g = (numbers (heading g) ++ numbers g.patterns) ++ written encode_node g.nodes
