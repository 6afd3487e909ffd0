-- The kinds of expression. 01, "The image": each node is exactly one of nineteen kinds with its own operands.
use Rattle.std.specs.Prelude.{ℕ, Bool, List}

-- In the order of 01's table, so that a kind's tag is its place here, from 0. `a` and `b` are numbers of nodes, `t` of a
-- table, `c` of a condition; a condition's truth is named 0 or 1 in an image and is a Bool here.
pub data Expr : Type 0 where
  Empty : Expr
  Byte : (b : ℕ) → Expr
  Range : (lo hi : ℕ) → Expr
  Any : Expr
  Text : (bytes : List ℕ) → Expr
  Sequence : (a b : ℕ) → Expr
  Choice : (a b : ℕ) → Expr
  Star : (a : ℕ) → Expr
  Not : (a : ℕ) → Expr
  Call : (a : ℕ) → Expr
  Def : (t : ℕ) → Expr
  Match : (t : ℕ) → Expr
  Is : (t : ℕ) → Expr
  Isa : (t : ℕ) → Expr
  Exists : (t : ℕ) → Expr
  Block : (t a : ℕ) → Expr
  Local : (t a : ℕ) → Expr
  If : (c : ℕ) (truth : Bool) → Expr
  On : (c : ℕ) (truth : Bool) (a : ℕ) → Expr
