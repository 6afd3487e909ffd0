-- A TEXT READS AS PRODUCTIONS: the lexical rules derive tokens from it, and the notation derives the productions from these.
use Rattle.std.specs.Prelude.{ℕ, List}
use Rattle.notation.specs.Tree.{Production}
use Rattle.notation.specs.Token.{Lexeme, bare}
use Rattle.notation.specs.Lexical.{Lexes}
use Rattle.notation.specs.Notation.{Productions}

pub record ReadsAs (text : List ℕ) (ps : List Production) : Type 0 where
  pub lexemes : List Lexeme
  pub lexes : Lexes text lexemes
  pub derives : Productions (bare lexemes) ps
