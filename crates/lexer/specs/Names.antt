-- What is promised of names.
use Rattle.std.specs.Prelude.{ℕ, ◌≤◌, ◌<◌, ◌≡◌, true, List, drop, length, get_or, Option, Some, None}
use Rattle.notation.specs.Bytes.{letter}
use Rattle.notation.specs.Tree.{Name}
use Rattle.notation.specs.Lexer.{Piece, piece, no, past, gap, name_behind, name}
use Rattle.notation.specs.At.{name_at}
use Rattle.lexer.specs.declared.name.Name as N

-- What is promised of the end of a name.
pub record NameEnds (text : List ℕ) (from r : ℕ) : Type 0 where
  pub goes : name_behind (drop from text) ≡ drop r text
  pub onward : from ≤ r
  pub inside : from ≤ length text → r ≤ length text

-- The name that was found, with the bytes behind it.
unfoldable pub found : List ℕ → Option N.Name → Piece Name
found text (Some n) = piece (name_at text n.start) (drop n.next text)
found text None = no

-- Where the name that was found stands: behind the gap, and it begins with a letter.
pub record Stands (text : List ℕ) (at n m : ℕ) : Type 0 where
  pub behind : gap (drop at text) ≡ past (drop n text)
  pub begins : letter (get_or text n 0) ≡ true
  pub onward : at ≤ n
  pub longer : n < m
  pub inside : m ≤ length text

abbrev pub StandsAt : List ℕ → ℕ → Option N.Name → Type 0
StandsAt text at (Some n) = Stands text at n.start n.next
StandsAt text at None = Unit

-- What is promised of the name behind a gap.
pub record Finds (text : List ℕ) (at : ℕ) (r : Option N.Name) : Type 0 where
  pub goes : name (drop at text) ≡ found text r
  pub stands : StandsAt text at r
