-- What stands at a place of a text, as the code's places name it: a place is a number of bytes from the text's front.
use Rattle.std.specs.Prelude.{ℕ, List, [], ◌∷◌, drop}
use Rattle.notation.specs.Tree.{Name, Part, Leaf, any, class}
use Rattle.notation.specs.Lexer.{Piece, piece, no, name_front, fresh, quote, begin, parts}

-- The value of a piece; where there is none, the empty list.
abbrev pub value : {A : Type 0} → Piece (List A) → List A
value (piece x r) = x
value no = []

-- The name that stands at a place.
abbrev pub name_at : List ℕ → ℕ → Name
name_at text p = name_front (drop p text)

-- The bytes that quoted text stands for, its mark being the front byte.
unfoldable pub quoted_of : List ℕ → List ℕ
quoted_of [] = []
quoted_of (mark ∷ s) = value (quote mark fresh s)

-- The parts of a class, its `[` being the front byte.
unfoldable pub parts_of : List ℕ → List Part
parts_of [] = []
parts_of (b ∷ s) = value (parts begin fresh s)

unfoldable pub class_of : List Part → Leaf
class_of [] = any
class_of (p ∷ ps) = class p ps
