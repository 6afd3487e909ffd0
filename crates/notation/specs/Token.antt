-- The tokens that a text is made of. `Lexical` says how each is spelled.
use Rattle.std.specs.Prelude.{ℕ, List, map}
use Rattle.notation.specs.Tree.{Name, Leaf, Prefix, Suffix, Opener}

pub data Token : Type 0 where
  -- `Name =`: a production begins
  head : (name : Name) → Token
  -- `.`, quoted text, a class, a name that no `=` follows, `<is T>` and its like, `<if C>`
  leaf : Leaf → Token
  -- `<def T`, `<block T`, `<local T`, `<on C`
  opens : Opener → Token
  -- `>`
  closes : Token
  -- `(` and `)`
  left right : Token
  -- `/`
  slash : Token
  -- `&` and `!`
  before : Prefix → Token
  -- `?`, `*` and `+`
  after : Suffix → Token
  -- what is no token: no notation has it, and nothing behind it is looked at
  bad : Token

-- A token where it stands in a text: with the bytes from it on.
pub record Lexeme : Type 0 where
  pub here : List ℕ
  pub token : Token

-- The tokens alone.
abbrev pub bare : List Lexeme → List Token
bare = map (λ l. l.token)
