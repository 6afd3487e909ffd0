-- A byte as it is written in quoted text or in a class, and a class's part: each a piece at the front of some bytes.
use Rattle.std.specs.Prelude.{ℕ, ◌+◌, ◌*◌, Bool, false, not, List, [], ◌∷◌, eqb, leb, drop}
use Prim.Native.Char.{code}
use Rattle.std.proofs.Math.Option.{Option, some, none}
use Rattle.format.specs.Reading.{pick}
use Rattle.notation.specs.Bytes.{hex_digit, escape, one_of}
use Rattle.notation.specs.Tree.{Part}
use Rattle.notation.specs.Lexer.{Piece, piece, no, ◌then◌, range}

-- Two hex digits, the first the higher.
unfoldable pub pair : Option ℕ → Option ℕ → List ℕ → Piece ℕ
pair (some u) (some v) s = piece (16 * u + v) s
pair (some u) none s = no
pair none v s = no

-- Behind `\x`.
unfoldable pub hex_of : List ℕ → Piece ℕ
hex_of [] = no
hex_of (d ∷ []) = no
hex_of (d ∷ e ∷ s) = pair (hex_digit d) (hex_digit e) s

-- Behind a `\`: `x` and two hex digits, or one of a few bytes.
unfoldable pub one : Option ℕ → List ℕ → Piece ℕ
one (some b) s = piece b s
one none s = no

unfoldable pub escaped_of : List ℕ → Piece ℕ
escaped_of [] = no
escaped_of (b ∷ s) = pick (eqb b (code "x")) (hex_of s) (one (escape b) s)

-- A written byte: itself, unless it is a `\` or ends a line; or what a `\` and the bytes behind it stand for.
unfoldable pub char_of : List ℕ → Piece ℕ
char_of [] = no
char_of (b ∷ s) = pick (eqb b (code "\\")) (escaped_of s) (pick (one_of "\n\r" b) no (piece b s))

-- A `-` and a byte that is no `]` stand here: the byte before is a range's first.
unfoldable pub ranges : List ℕ → Bool
ranges [] = false
ranges (b ∷ []) = false
ranges (b ∷ c ∷ s) = pick (eqb b (code "-")) (not (eqb c (code "]"))) false

-- A range's second byte is not below its first.
unfoldable pub up_to : ℕ → Piece ℕ → Piece Part
up_to lo (piece hi s) = pick (leb lo hi) (piece (range lo hi) s) no
up_to lo no = no

-- A part, the first byte being read: the range that it begins, or the byte alone.
unfoldable pub part_from : ℕ → List ℕ → Piece Part
part_from lo s = pick (ranges s) (up_to lo (char_of (drop 1 s))) (piece (range lo lo) s)

-- A part of a class.
unfoldable pub part_of : List ℕ → Piece Part
part_of s = char_of s then part_from
