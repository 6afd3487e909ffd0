-- The nodes of a reading, counted over its tokens. An expression's tokens weigh one more than it has nodes: so what joins two expressions is
-- counted too, which in a row has no token.
use Rattle.std.specs.Prelude.{ℕ, suc, ◌+◌, ◌-◌, List, [], ◌∷◌, ◌++◌, eqb}
use Rattle.format.specs.Reading.{pick}
use Rattle.notation.specs.Token.{Token, head, leaf, opens, closes, left, right, slash, before, after, bad}
use Rattle.notation.specs.Compile.{leaf_count, prefix_count, suffix_count}

-- What a token adds.
abbrev pub weight_of : Token → ℕ
weight_of (head n) = 0
weight_of (leaf l) = suc (leaf_count l)
weight_of (opens o) = 1
weight_of closes = 0
weight_of left = 0
weight_of right = 0
weight_of slash = 0
weight_of (before p) = prefix_count p
weight_of (after s) = suffix_count s
weight_of bad = 0

unfoldable pub weight_in : List Token → ℕ
weight_in [] = 0
weight_in (t ∷ ts) = weight_of t + weight_in ts

-- What is known at a place of the text: the nodes of the productions that have ended, the weight of the one that is open, 0 where none is, and
-- the nodes of those that have ended, one for each, in their order.
pub record Counted : Type 0 where
  pub nodes : ℕ
  pub weight : ℕ
  pub roots : List ℕ

abbrev pub nothing_counted : Counted
nothing_counted = record { nodes = 0; weight = 0; roots = [] }

-- What is open ends, if anything is. Its own node is the last of its nodes.
abbrev pub closed : Counted → Counted
closed c =
    record {
      nodes = c.nodes + (c.weight - 1);
      weight = 0;
      roots = c.roots ++ pick (eqb c.weight 0) [] ((c.nodes + c.weight - 2) ∷ []);
    }

abbrev pub heavier : ℕ → Counted → Counted
heavier n c = record { nodes = c.nodes; weight = c.weight + n; roots = c.roots }

-- A head ends what is open, and each other token adds its weight.
abbrev pub counted : Token → Counted → Counted
counted (head n) = closed
counted (leaf l) = heavier (weight_of (leaf l))
counted (opens o) = heavier (weight_of (opens o))
counted closes = heavier (weight_of closes)
counted left = heavier (weight_of left)
counted right = heavier (weight_of right)
counted slash = heavier (weight_of slash)
counted (before p) = heavier (weight_of (before p))
counted (after s) = heavier (weight_of (after s))
counted bad = heavier (weight_of bad)

-- The end of the text ends what is open too.
unfoldable pub counted_in : List Token → Counted → Counted
counted_in [] c = closed c
counted_in (t ∷ ts) c = counted_in ts (counted t c)
