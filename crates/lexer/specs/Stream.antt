-- What is promised of a text's tokens, one after the other.
use Rattle.std.specs.Prelude.{ℕ, ◌-◌, ◌≡◌, true, List, Option, MatchOption, drop, length}
use Rattle.notation.specs.Token.{Lexeme}
use Rattle.notation.specs.Lexer.{lexemes}
use Rattle.lexer.specs.declared.token.Token.{Token}
use Rattle.lexer.specs.declared.tokens.Tokens.{Tokens}
use Rattle.lexer.specs.Meant.{stops, IsToken, Lexed}

-- The lexemes that are still to come, and the bytes.
abbrev pub left : Tokens → List Lexeme
left s = lexemes (drop s.at s.text.now)

abbrev pub ahead_of : Tokens → ℕ
ahead_of s = length s.text.now - s.at

-- A token was taken.
pub record Takes (s : Tokens) (x : Token) (t : Tokens) : Type 0 where
  pub lexed : Lexed s.text.now s.at x
  pub one : IsToken x.kind
  pub on : t ≡ record s { at = x.next }

-- No token is left: the text ends, or what stands there is none.
pub record Ends (s t : Tokens) : Type 0 where
  pub last : Token
  pub lexed : Lexed s.text.now s.at last
  pub none : stops last.kind ≡ true
  pub stays : t ≡ s

abbrev pub Gives : Tokens → Option Token → Tokens → Type 0
Gives s r t = MatchOption r (Ends s t) (λ x. Takes s x t)
