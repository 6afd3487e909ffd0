-- What holds no expression, as it was taken for a symbol.
use Rattle.std.specs.Prelude.{ℕ, ◌≡◌, List}
use Rattle.lexer.specs.declared.token.Token.{Token}
use Rattle.lexer.specs.declared.token.Leaf.{Leaf}
use Rattle.lexer.specs.declared.token.Kind.TheVariants as Kind
use Rattle.lexer.specs.Meant.{Lexed}

-- A token of a text that is this leaf.
pub record LeafTaken (text : List ℕ) (t : Token) (l : Leaf) : Type 0 where
  pub at : ℕ
  pub lexed : Lexed text at t
  pub kind : t.kind ≡ Kind.Leaf l
