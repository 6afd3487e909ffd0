-- WHAT A GRAMMAR IS, BUT FOR THE NUMBERS OF ITS NODES. A shape is what a node is with the shapes of its operands in their place, and likewise the
-- shape of the node that it calls and of the pattern that it runs, as deep as one looks. Tables and conditions keep their numbers.
use Rattle.std.specs.Prelude.{ℕ, zero, suc, Bool, List}
use Rattle.grammar.specs.Expr.{Expr}
use Rattle.grammar.specs.Expr as E
use Rattle.grammar.specs.Grammar.{Grammar, node, pattern}

pub data Shape : Type 0 where
  -- deeper than one looks
  Unseen : Shape
  Empty : Shape
  Byte : (b : ℕ) → Shape
  Range : (lo hi : ℕ) → Shape
  Any : Shape
  Text : (bytes : List ℕ) → Shape
  Sequence : (a b : Shape) → Shape
  Choice : (a b : Shape) → Shape
  Star : (a : Shape) → Shape
  Not : (a : Shape) → Shape
  Call : (a : Shape) → Shape
  Def : (t : ℕ) (pattern : Shape) → Shape
  Match : (t : ℕ) → Shape
  Is : (t : ℕ) (pattern : Shape) → Shape
  Isa : (t : ℕ) (pattern : Shape) → Shape
  Exists : (t : ℕ) → Shape
  Block : (t : ℕ) (a : Shape) → Shape
  Local : (t : ℕ) (a : Shape) → Shape
  If : (c : ℕ) (truth : Bool) → Shape
  On : (c : ℕ) (truth : Bool) (a : Shape) → Shape

module _ (g : Grammar) where
  -- By the shapes of nodes.
  abbrev pub shaped : (ℕ → Shape) → Expr → Shape
  shaped f E.Empty = Empty
  shaped f (E.Byte b) = Byte b
  shaped f (E.Range lo hi) = Range lo hi
  shaped f E.Any = Any
  shaped f (E.Text bytes) = Text bytes
  shaped f (E.Sequence a b) = Sequence (f a) (f b)
  shaped f (E.Choice a b) = Choice (f a) (f b)
  shaped f (E.Star a) = Star (f a)
  shaped f (E.Not a) = Not (f a)
  shaped f (E.Call a) = Call (f a)
  shaped f (E.Def t) = Def t (f (pattern g t))
  shaped f (E.Match t) = Match t
  shaped f (E.Is t) = Is t (f (pattern g t))
  shaped f (E.Isa t) = Isa t (f (pattern g t))
  shaped f (E.Exists t) = Exists t
  shaped f (E.Block t a) = Block t (f a)
  shaped f (E.Local t a) = Local t (f a)
  shaped f (E.If c truth) = If c truth
  shaped f (E.On c truth a) = On c truth (f a)

  unfoldable pub shape : (depth n : ℕ) → Shape
  shape zero n = Unseen
  shape (suc depth) n = shaped (shape depth) (node g n)
