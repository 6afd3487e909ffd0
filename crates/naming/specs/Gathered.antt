-- Names in byte order, each once, as lexemes name them one after the other.
use Rattle.std.specs.Prelude.{ℕ, ◌≤◌, ◌≡◌, List, [], ◌∷◌, length}
use Rattle.std.specs.Option.{option_or}
use Rattle.std.specs.Bool.{then_some}
use Rattle.notation.specs.Tree.{Name}
use Rattle.notation.specs.Token.{Token, Lexeme}
use Rattle.notation.specs.Lexer.{lexemes}
use Rattle.notation.specs.At.{name_at}
use Rattle.notation.specs.Compile.{insert}
use Rattle.notation.specs.Uses.{head_of, def_of, switch_of}
use Rattle.notation.specs.Places.{first_name, again, ninth, name_place}
use Rattle.index.specs.Listed.{names_at}
use Rattle.naming.specs.Found.{found}
use Rattle.naming.specs.declared.gather.Gathered.{Gathered}
use Rattle.naming.specs.declared.gather.Sort.{Sort}
use Rattle.naming.specs.declared.gather.Sort.TheVariants.{Productions, Tables, Conditions}

-- The names of a sort that a token says.
abbrev pub sort_of : Sort → Token → List Name
sort_of Productions = head_of
sort_of Tables = def_of
sort_of Conditions = switch_of

-- Names put among others, one after the other.
unfoldable pub inserted : List Name → List Name → List Name
inserted [] before = before
inserted (n ∷ ns) before = inserted ns (insert n before)

-- The names that lexemes name, with those before them.
unfoldable pub gathered : (Token → List Name) → (before : List Name) → List Lexeme → List Name
gathered names before [] = before
gathered names before (l ∷ ls) = gathered names (inserted (names l.token) before) ls

-- What gathering comes to: the names, as places of them, how many they are, the first that was named before, and the first with which there
-- are nine.
pub record Gathers (names : Token → List Name) (text at : List ℕ) (r : Gathered) : Type 0 where
  pub listed : names_at text at r.count ≡ gathered names [] (lexemes text)
  pub many : r.count ≡ length (gathered names [] (lexemes text))
  pub again : r.again ≡ found (name_place text) (first_name names again [] (lexemes text))
  pub ninth : r.ninth ≡ found (name_place text) (first_name names ninth [] (lexemes text))

-- What adding the name at a place to what is gathered comes to.
pub record Adds (text at : List ℕ) (g : Gathered) (p : ℕ) (now : List ℕ) (r : Gathered) : Type 0 where
  pub listed : names_at text now r.count ≡ insert (name_at text p) (names_at text at g.count)
  pub within : r.count ≤ length now
  pub long : length now ≡ length at
  pub again : r.again ≡ option_or g.again (then_some (again (names_at text at g.count) (name_at text p)) p)
  pub ninth : r.ninth ≡ option_or g.ninth (then_some (ninth (names_at text at g.count) (name_at text p)) p)
