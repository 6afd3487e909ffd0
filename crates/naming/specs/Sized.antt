-- The nodes of productions, and the bytes that an image has up to the end of each production.
use Rattle.std.specs.Prelude.{ℕ, suc, ◌+◌, ◌≤◌, ◌<◌, ◌≡◌, List, [], ◌∷◌, length, take, get_or}
use Rattle.grammar.specs.Grammar.{Grammar}
use Rattle.notation.specs.Tree.{Production}
use Rattle.notation.specs.Compile.{count}
use Rattle.notation.specs.Places.{image_up_to}

-- How many nodes productions come to.
abbrev pub nodes_of : List Production → ℕ
nodes_of [] = 0
nodes_of (p ∷ ps) = count p.body + nodes_of ps

-- There is an end for each production, and counted from the base it is where the nodes of the productions up to that one end.
pub record Sized (g : Grammar) (base : ℕ) (ends : List ℕ) (ps : List Production) : Type 0 where
  pub many : length ps ≤ length ends
  pub each : (i : ℕ) → i < length ps → base + get_or ends i 0 ≡ image_up_to g (nodes_of (take (suc i) ps))
