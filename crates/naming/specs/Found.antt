-- Places that were found, and tokens.
use Rattle.std.specs.Prelude.{ℕ, ◌≡◌, List}
use Rattle.std.specs.declared.option.Option as Std
use Rattle.std.specs.declared.option.Option.TheVariants.{Some, None}
use Rattle.std.proofs.Math.Option.{Option, some, none}
use Rattle.notation.specs.Token.{Lexeme}
use Rattle.lexer.specs.Meant.{placed, IsToken, Lexed}
use Rattle.lexer.specs.declared.token.Token.{Token}

-- The place of a lexeme, if there is one.
abbrev pub found : (Lexeme → ℕ) → Option Lexeme → Std.Option ℕ
found place none = None
found place (some l) = Some (place l)

-- A token of a text, with a place from which on it is the first.
pub record Met (text : List ℕ) (t : Token) : Type 0 where
  pub from : ℕ
  pub lexed : Lexed text from t
  pub one : IsToken t.kind

-- A token is this lexeme, if there is one.
abbrev pub IsOf : (text : List ℕ) → Option Lexeme → Std.Option Token → Type 0
IsOf text none None = Unit
IsOf text (some l) (Some t) = (placed text t ≡ l) × Met text t
IsOf text none (Some t) = ⊥
IsOf text (some l) None = ⊥
