-- Each production's own node, kept by the place of its name among the names in byte order.
use Rattle.std.specs.Prelude.{ℕ, ◌+◌, ◌-◌, ◌≤◌, ◌≡◌, true, List, eqb, length, get_or, set}
use Rattle.format.specs.Reading.{pick}
use Rattle.grammar.specs.Grammar.{size}
use Rattle.notation.specs.Tree.{Name, Production}
use Rattle.notation.specs.Text.{ReadsAs}
use Rattle.notation.specs.At.{name_at}
use Rattle.notation.specs.Naming.{names, member, once_named}
use Rattle.notation.specs.Compile.{sorted, place, entry, compile}
use Rattle.notation.specs.Compile as Compile
use Rattle.index.specs.Listed.{names_at, Ascending}
use Rattle.naming.specs.declared.roots.Counted.{Counted}

-- The text reads as productions of at most 512 nodes, no two of one name; their names are at the places of `heads`, and there is room for a number
-- for each.
pub record Rootable (text heads roots : List ℕ) : Type 0 where
  pub productions : List Production
  pub reads : ReadsAs text productions
  pub small : size (compile productions) ≤ 512
  pub once : once_named productions ≡ true
  pub listed : names_at text heads (length heads) ≡ sorted (names productions)
  pub long : length roots ≡ length heads

-- What filling in the numbers comes to: all nodes, the first production's own, and each production's own.
pub record Rooted (text heads roots : List ℕ) (r : Counted) (ps : List Production) : Type 0 where
  pub nodes : r.nodes ≡ size (compile ps)
  pub start : r.start ≡ (compile ps).start
  pub each : (n : Name) → get_or roots (place n (names_at text heads (length heads))) 0 ≡ entry n (Compile.roots 0 ps)

-- ## One production

-- The name at a place is one of those at the places of `heads`, which are in order, and there is room for a number for each.
pub record Listed (text heads roots : List ℕ) (name : ℕ) : Type 0 where
  pub ordered : Ascending (names_at text heads (length heads))
  pub named : member (name_at text name) (names_at text heads (length heads)) ≡ true
  pub long : length roots ≡ length heads

-- The number at the name's place.
abbrev pub root_at : (text heads : List ℕ) (name : ℕ) → ℕ
root_at text heads name = place (name_at text name) (names_at text heads (length heads))

-- A production that is open can end: there are nodes before its end, and not too many.
pub record Settles (text heads roots : List ℕ) (name nodes weight : ℕ) : Type 0 where
  pub light : nodes + weight ≤ 131070
  pub listed : (weight ≡ 0 → ⊥) → Listed text heads roots name
  pub some : (weight ≡ 0 → ⊥) → 1 ≤ nodes + (weight - 1)
  pub few : (weight ≡ 0 → ⊥) → nodes + (weight - 1) ≤ 512

-- What is open ends, if anything weighs: its own node is the last of its nodes.
pub record Settled (text heads roots : List ℕ) (name nodes weight : ℕ) (now : List ℕ) (r : ℕ) : Type 0 where
  pub end : r ≡ nodes + (weight - 1)
  pub filled : now ≡ pick (eqb weight 0) roots (set roots (root_at text heads name) (nodes + (weight - 1) - 1))
