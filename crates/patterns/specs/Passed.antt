-- The pass over a text's defs: what is known of those before a place.
use Rattle.std.specs.Prelude.{ℕ, ◌+◌, ◌≤◌, ◌<◌, ◌≡◌, Bool, true, false, Option, Some, None, List, [], ◌∷◌, ltb, length, get_or, take, drop}
use Rattle.std.proofs.Math.Option.{some}
use Rattle.notation.specs.Tree.{Name, Production}
use Rattle.notation.specs.Token.{bad, Lexeme}
use Rattle.notation.specs.Lexer.{lexemes, tokens}
use Rattle.notation.specs.At.{name_at}
use Rattle.notation.specs.Notation.{Productions}
use Rattle.notation.specs.Naming.{definitions, member}
use Rattle.notation.specs.Compile.{place}
use Rattle.notation.specs.Uses.{defs_in}
use Rattle.notation.specs.OnePattern.{no_definition, fault}
use Rattle.notation.specs.Places.{name_in, is_def, only, numbered}
use Rattle.index.specs.Listed.{names_at, Ascending}
use Rattle.lexer.specs.declared.token.Token.{Token}
use Rattle.lexer.specs.declared.token.Kind.{Kind}
use Rattle.lexer.specs.declared.token.Opener.TheVariants as Opener
use Rattle.lexer.specs.Meant.{placed, Lexed}
use Rattle.patterns.specs.declared.one.Pass.{Pass}
use Rattle.patterns.specs.Pass.{pass_from}

-- The defs of a text, with what stands for one where there is none, and their tables.
abbrev pub defs_of : List ℕ → List Lexeme
defs_of text = only is_def (lexemes text)

abbrev pub no_lexeme : Lexeme
no_lexeme = record { here = []; token = bad }

abbrev pub tables_of : List ℕ → List Name
tables_of text = defs_in (tokens text)

-- What holds of every number of a list.
abbrev pub Every : (ℕ → Type 0) → List ℕ → Type 0
Every Q [] = Unit
Every Q (x ∷ xs) = Q x × Every Q xs

-- A place is that of the name in a def whose pattern is that of the first def of its table.
pub record LikeFirst (text : List ℕ) (ps : List Production) (p : ℕ) : Type 0 where
  pub number : ℕ
  pub one : number < length (defs_of text)
  pub named : drop p text ≡ name_in (get_or (defs_of text) number no_lexeme).here
  pub alike :
      (get_or (definitions ps) number no_definition).pattern ≡ (get_or (definitions ps) (place (name_at text p) (tables_of text)) no_definition).pattern

-- The names kept are those of the tables before def number k, each by a def that is like the first; and the pass from there on comes to what the
-- whole does.
pub record Known (text : List ℕ) (ps : List Production) (latest : List ℕ) (count k : ℕ) : Type 0 where
  pub tables : (n : Name) → member n (names_at text latest count) ≡ ltb (place n (tables_of text)) k
  pub places : Every (LikeFirst text ps) (take count latest)
  pub passes : pass_from (definitions ps) k ≡ fault (definitions ps)

-- The pass has come to these defs, and passes over the next `over`.
pub record Passes (text latest : List ℕ) (count over : ℕ) (rest : List Lexeme) : Type 0 where
  pub number : ℕ
  pub behind : drop number (defs_of text) ≡ rest
  pub few : count ≤ number
  pub ascending : Ascending (names_at text latest count)
  pub long : length latest ≡ 32768
  pub known : (ps : List Production) → Productions (tokens text) ps → Known text ps latest count (number + over)

-- A token is a def, by its kind.
abbrev pub defines : Kind → Bool
defines (Kind.Opens Opener.Def) = true
defines k = false

-- A text's token is one.
pub record Defines (text : List ℕ) (t : Token) : Type 0 where
  pub from : ℕ
  pub lexed : Lexed text from t
  pub def : t.kind ≡ Kind.Opens Opener.Def

-- What holding a def to the one before it of its table comes to: the pass goes on behind it, or it is the one at fault.
abbrev pub Holds : (text latest : List ℕ) → Token → Option Pass → Type 0
Holds text latest t (Some p) = Passes text latest p.count p.over (defs_of (drop t.next text))
Holds text latest t None =
    (ps : List Production) → Productions (tokens text) ps → numbered (fault (definitions ps)) (defs_of text) ≡ some (placed text t)
