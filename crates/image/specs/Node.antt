-- The node that a word keeps, and the expression that a node stands for.
use Rattle.std.specs.Prelude.{ℕ, ◌+◌, ◌/◌, ◌%◌, ◌≤◌, ◌≡◌, Option, Some, None, List, [], ◌∷◌, eqb, length, take, drop, get_or}
use Rattle.grammar.specs.Expr as e
use Rattle.image.specs.declared.node.Node.{Node}
use Rattle.image.specs.declared.node.Span.{Span}
use Rattle.image.specs.declared.node.Node.TheVariants.{Empty, Byte, Range, Any, Text, Sequence, Choice, Star, Not, Call, Def, Match, Is, Isa, Exists, Block, Local, If, On}

-- The kinds by their tags, but the last. A byte is taken below 256, so that it fits a byte whatever the word is; in the word of a good
-- image it is so already.
abbrev pub listed : (a b : ℕ) → List Node
listed a b =
    Empty ∷ Byte (a % 256) ∷ Range (a % 256) (b % 256) ∷ Any ∷ Text a b ∷ Sequence a b ∷ Choice a b ∷ Star a ∷ Not a ∷ Call a
    ∷ Def a ∷ Match a ∷ Is a ∷ Isa a ∷ Exists a ∷ Block a b ∷ Local a b ∷ If (a / 2) (eqb (a % 2) 1) ∷ []

-- Any tag over 17 gives On; no word of a good image has a tag over 18.
abbrev pub kind_of : (tag a b : ℕ) → Node
kind_of tag a b = get_or (listed a b) tag (On (a / 2) (eqb (a % 2) 1) b)

unfoldable pub node_of : (word : ℕ) → Node
node_of word = kind_of (word % 32) (word / 32 % 32768) (word / 1048576)

-- The expression of a node; the bytes of a Text are found in the image.
abbrev pub expr_of : (image : List ℕ) → Node → e.Expr
expr_of image Empty = e.Empty
expr_of image (Byte b) = e.Byte b
expr_of image (Range lo hi) = e.Range lo hi
expr_of image Any = e.Any
expr_of image (Text place count) = e.Text (take count (drop place image))
expr_of image (Sequence a b) = e.Sequence a b
expr_of image (Choice a b) = e.Choice a b
expr_of image (Star a) = e.Star a
expr_of image (Not a) = e.Not a
expr_of image (Call a) = e.Call a
expr_of image (Def t) = e.Def t
expr_of image (Match t) = e.Match t
expr_of image (Is t) = e.Is t
expr_of image (Isa t) = e.Isa t
expr_of image (Exists t) = e.Exists t
expr_of image (Block t a) = e.Block t a
expr_of image (Local t a) = e.Local t a
expr_of image (If c truth) = e.If c truth
expr_of image (On c truth a) = e.On c truth a

-- The kinds that ask for a single byte, and the bytes that they take.
abbrev pub span_of : Node → Option Span
span_of (Byte b) = Some (record { lo = b; hi = b })
span_of (Range lo hi) = Some (record { lo = lo; hi = hi })
span_of Any = Some (record { lo = 0; hi = 255 })
span_of Empty = None
span_of (Text place count) = None
span_of (Sequence a b) = None
span_of (Choice a b) = None
span_of (Star a) = None
span_of (Not a) = None
span_of (Call a) = None
span_of (Def t) = None
span_of (Match t) = None
span_of (Is t) = None
span_of (Isa t) = None
span_of (Exists t) = None
span_of (Block t a) = None
span_of (Local t a) = None
span_of (If c truth) = None
span_of (On c truth a) = None

-- The bytes of a Text lie in the image.
abbrev pub InImage : (image : List ℕ) → Node → Type 0
InImage image node = (place count : ℕ) → node ≡ Text place count → place + count ≤ length image
