-- A node kept in one number of 32 bits, so that the evaluator visits nodes by their numbers and reads the image again only for the
-- bytes of a Text.
use Rattle.std.specs.Prelude.{ℕ, ◌+◌, ◌-◌, ◌*◌, List, length}
use Rattle.grammar.specs.Expr.{Expr, Empty, Byte, Range, Any, Text, Sequence, Choice, Star, Not, Call, Def, Match, Is, Isa, Exists, Block, Local, If, On}
use Rattle.format.specs.Reading.{Reading, got, ◌then◌}
use Rattle.format.specs.Written.{bit}
use Rattle.format.specs.Image.{node_at}

-- The tag in the lowest five bits, the first operand in the next fifteen, the second in the twelve above.
abbrev pub packed : (tag a b : ℕ) → ℕ
packed tag a b = tag + a * 32 + b * 1048576

-- A condition and its truth in one operand.
abbrev pub switch : (c truth : ℕ) → ℕ
switch c truth = c * 2 + truth

-- The word of a node, by the place after it. A Text is kept as the place of its bytes, which end where the node ends, and
-- their count.
abbrev pub kept : Expr → (next : ℕ) → ℕ
kept Empty next = packed 0 0 0
kept (Byte b) next = packed 1 b 0
kept (Range lo hi) next = packed 2 lo hi
kept Any next = packed 3 0 0
kept (Text bytes) next = packed 4 (next - length bytes) (length bytes)
kept (Sequence a b) next = packed 5 a b
kept (Choice a b) next = packed 6 a b
kept (Star a) next = packed 7 a 0
kept (Not a) next = packed 8 a 0
kept (Call a) next = packed 9 a 0
kept (Def t) next = packed 10 t 0
kept (Match t) next = packed 11 t 0
kept (Is t) next = packed 12 t 0
kept (Isa t) next = packed 13 t 0
kept (Exists t) next = packed 14 t 0
kept (Block t a) next = packed 15 t a
kept (Local t a) next = packed 16 t a
kept (If c truth) next = packed 17 (switch c (bit truth)) 0
kept (On c truth a) next = packed 18 (switch c (bit truth)) a

abbrev pub keep : Expr → ℕ → Reading ℕ
keep e next = got (kept e next) next

-- The node at a place of an image, as its word.
abbrev pub word_at : (image : List ℕ) (T C N own at : ℕ) → Reading ℕ
word_at image T C N own at = node_at image T C N own at then keep
