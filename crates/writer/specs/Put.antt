-- Bytes put down in a lent buffer, one after the other, and nodes among them.
use Rattle.std.specs.Prelude.{ℕ, ◌+◌, ◌*◌, ◌≤◌, ◌<◌, ◌≡◌, List, [], ◌∷◌, ◌++◌, length, take}
use Rattle.format.specs.Written.{written, encode_node}
use Rattle.grammar.specs.Expr.{Expr}
use Rattle.writer.specs.declared.node.Made.{Made}

-- Behind the first `at` bytes of a buffer these bytes were put down. `next` is the place behind them.
pub record Wrote (was : List ℕ) (at : ℕ) (now : List ℕ) (next : ℕ) (bytes : List ℕ) : Type 0 where
  pub front : take next now ≡ take at was ++ bytes
  pub place : next ≡ at + length bytes
  pub long : length now ≡ length was

-- Each number takes two groups at most.
abbrev pub AllSmall : List ℕ → Type 0
AllSmall [] = Unit
AllSmall (n ∷ ns) = (n < 16384) × AllSmall ns

-- There is room for n more nodes: the buffer has 66 bytes for each of 512 nodes, and no node takes more.
pub record Room (out : List ℕ) (m : Made) (n : ℕ) : Type 0 where
  pub long : length out ≡ 33792
  pub low : m.length ≤ 66 * m.nodes
  pub few : m.nodes + n ≤ 512

-- These nodes were added.
pub record Adds (was : List ℕ) (m : Made) (now : List ℕ) (r : Made) (xs : List Expr) : Type 0 where
  pub wrote : Wrote was m.length now r.length (written encode_node xs)
  pub many : r.nodes ≡ m.nodes + length xs
  pub low : r.length ≤ 66 * r.nodes
