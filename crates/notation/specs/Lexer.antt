-- A text's tokens, as a function: from bytes to a piece and the bytes behind it. Each part goes a byte at a time, as the code does.
use Rattle.std.specs.Prelude.{ℕ, zero, suc, ◌+◌, ◌*◌, Bool, true, false, List, [], ◌∷◌, eqb, leb, length}
use Prim.Native.Char.{code}
use Rattle.std.proofs.Math.Option.{Option, some, none}
use Rattle.format.specs.Reading.{pick}
use Rattle.notation.specs.Bytes.{bytes, blank, letter, name_byte, hex_digit, escape, one_of}
use Rattle.notation.specs.Tree.{Name, Part, Query, match, is, isa, exists, any, quoted, class, call, query, if, and, not, option, star, plus, Opener, def, block, local, on}
use Rattle.notation.specs.Token.{Token, head, leaf, opens, closes, left, right, slash, before, after, bad, Lexeme, bare}

infixr 20 ◌then◌
infixr 20 ◌∷ᵖ◌
infixr 20 ◌++ᵖ◌
-- What stands at the front of some bytes, with the bytes behind it; or no such thing does.
pub data Piece (A : Type 0) : Type 0 where
  piece : (value : A) (rest : List ℕ) → Piece A
  no : Piece A

unfoldable pub ◌then◌ : {A B : Type 0} → Piece A → (A → List ℕ → Piece B) → Piece B
◌then◌ (piece x rest) more = more x rest
◌then◌ no more = no

unfoldable pub ◌∷ᵖ◌ : {A : Type 0} → A → Piece (List A) → Piece (List A)
◌∷ᵖ◌ x (piece xs rest) = piece (x ∷ xs) rest
◌∷ᵖ◌ x no = no

-- ## Gaps: blanks, `//` to the end of the line, `/*` to the first `*/`

-- What the front byte begins, the next one being looked at.
pub data Front : Type 0 where
  white line_comment block_comment solid : Front

unfoldable pub second : List ℕ → Front
second [] = solid
second (c ∷ s) = pick (eqb c (code "/")) line_comment (pick (eqb c (code "*")) block_comment solid)

unfoldable pub front : ℕ → List ℕ → Front
front b s = pick (blank b) white (pick (eqb b (code "/")) (second s) solid)

-- Where in a gap one stands: outside a comment, in a line, before the `*` that opens a block, in a block, behind a `*` in a block. What is in a
-- block knows the bytes from its `/*` on.
pub data Inside : Type 0 where
  outside in_line : Inside
  opening in_block starred : (comment : List ℕ) → Inside

-- What a byte of a block comment leads to.
unfoldable pub block_on : (comment : List ℕ) → ℕ → Inside
block_on c b = pick (eqb b (code "*")) (starred c) (in_block c)

unfoldable pub star_on : (comment : List ℕ) → ℕ → Inside
star_on c b = pick (eqb b (code "/")) outside (block_on c b)

-- The bytes behind a gap; or the bytes from the `/*` on that nothing closes.
pub data Skipped : Type 0 where
  past : (rest : List ℕ) → Skipped
  unclosed : (comment : List ℕ) → Skipped

unfoldable pub skip : Inside → List ℕ → Skipped
skip outside [] = past []
skip in_line [] = past []
skip (opening c) [] = unclosed c
skip (in_block c) [] = unclosed c
skip (starred c) [] = unclosed c
skip outside (b ∷ s) =
    elim (front b s) [
      | white ↦ skip outside s
      | line_comment ↦ skip in_line s
      | block_comment ↦ skip (opening (b ∷ s)) s
      | solid ↦ past (b ∷ s)
    ]
skip in_line (b ∷ s) = elim (eqb b 10) [ true ↦ skip outside s | false ↦ skip in_line s ]
skip (opening c) (b ∷ s) = skip (in_block c) s
skip (in_block c) (b ∷ s) = skip (block_on c b) s
skip (starred c) (b ∷ s) = skip (star_on c b) s

abbrev pub gap : List ℕ → Skipped
gap = skip outside

-- ## Names

unfoldable pub name_front : List ℕ → List ℕ
name_front [] = []
name_front (b ∷ s) = elim (name_byte b) [ true ↦ b ∷ name_front s | false ↦ [] ]

unfoldable pub name_behind : List ℕ → List ℕ
name_behind [] = []
name_behind (b ∷ s) = elim (name_byte b) [ true ↦ name_behind s | false ↦ b ∷ s ]

-- A gap and then a name; a gap and then this byte; a gap and then perhaps a `!`, false if it stands there.
unfoldable pub name_here : Skipped → Piece Name
name_here (unclosed c) = no
name_here (past []) = no
name_here (past (b ∷ s)) = pick (letter b) (piece (name_front (b ∷ s)) (name_behind (b ∷ s))) no

abbrev pub name : List ℕ → Piece Name
name s = name_here (gap s)

unfoldable pub sign_here : ℕ → Skipped → Piece (Unit {0})
sign_here c (unclosed k) = no
sign_here c (past []) = no
sign_here c (past (b ∷ s)) = pick (eqb b c) (piece tt s) no

abbrev pub sign : ℕ → List ℕ → Piece (Unit {0})
sign c s = sign_here c (gap s)

unfoldable pub truth_here : Skipped → Piece Bool
truth_here (unclosed c) = no
truth_here (past []) = piece true []
truth_here (past (b ∷ s)) = pick (eqb b (code "!")) (piece false s) (piece true (b ∷ s))

abbrev pub truth : List ℕ → Piece Bool
truth s = truth_here (gap s)

-- ## A byte in quoted text or in a class: itself, `\` and one of a few, or `\x` and two hex digits

pub data Stage : Type 0 where
  fresh escaped hex : Stage
  hex2 : (high : ℕ) → Stage

pub data Fed : Type 0 where
  goes : Stage → Fed
  gives : (b : ℕ) → Fed
  wrong : Fed

unfoldable pub high : Option ℕ → Fed
high (some d) = goes (hex2 d)
high none = wrong

unfoldable pub low : ℕ → Option ℕ → Fed
low d (some e) = gives (16 * d + e)
low d none = wrong

unfoldable pub simple : Option ℕ → Fed
simple (some b) = gives b
simple none = wrong

unfoldable pub feed : Stage → ℕ → Fed
feed fresh b = pick (eqb b (code "\\")) (goes escaped) (pick (one_of "\n\r" b) wrong (gives b))
feed escaped b = pick (eqb b (code "x")) (goes hex) (simple (escape b))
feed hex b = high (hex_digit b)
feed (hex2 d) b = low d (hex_digit b)

-- Quoted text behind its mark, up to the same mark.
unfoldable pub at_mark : ℕ → Stage → ℕ → Bool
at_mark mark fresh b = eqb b mark
at_mark mark escaped b = false
at_mark mark hex b = false
at_mark mark (hex2 d) b = false

unfoldable pub quote : ℕ → Stage → List ℕ → Piece (List ℕ)
quote mark g [] = no
quote mark g (b ∷ s) =
    elim (at_mark mark g b) [
      | true ↦ piece [] s
      | false ↦ elim (feed g b) [ goes h ↦ quote mark h s | gives c ↦ c ∷ᵖ quote mark fresh s | wrong ↦ no ]
    ]

-- A class behind its `[`, up to the `]`. A part is a byte, or two with `-` between, the second not below the first; a `-` before the `]` is a byte.
pub data Place : Type 0 where
  begin : Place
  behind dashed : (lo : ℕ) → Place

abbrev pub range : ℕ → ℕ → Part
range lo hi = record { lo = lo; hi = hi }

-- What a byte leads to: the parts that it completes and where one then stands; the class's end, with its last parts; or a fault.
pub data Turn : Type 0 where
  turns : List Part → Place → Stage → Turn
  ends : List Part → Turn
  fails : Turn

unfoldable pub begun : Fed → List Part → Turn
begun (goes g) ps = turns ps begin g
begun (gives b) ps = turns ps (behind b) fresh
begun wrong ps = fails

unfoldable pub ranged : ℕ → Fed → Turn
ranged lo (goes g) = turns [] (dashed lo) g
ranged lo (gives hi) = pick (leb lo hi) (turns (range lo hi ∷ []) begin fresh) fails
ranged lo wrong = fails

unfoldable pub turn : Place → Stage → ℕ → Turn
turn begin g b = pick (at_mark (code "]") g b) (ends []) (begun (feed g b) [])
turn (behind lo) g b =
    pick (eqb b (code "]")) (ends (range lo lo ∷ []))
    (pick (eqb b (code "-")) (turns [] (dashed lo) fresh) (begun (feed fresh b) (range lo lo ∷ [])))
turn (dashed lo) g b =
    pick (at_mark (code "]") g b) (ends (range lo lo ∷ range (code "-") (code "-") ∷ [])) (ranged lo (feed g b))

unfoldable pub ◌++ᵖ◌ : List Part → Piece (List Part) → Piece (List Part)
◌++ᵖ◌ [] r = r
◌++ᵖ◌ (p ∷ ps) r = p ∷ᵖ (ps ++ᵖ r)

unfoldable pub parts : Place → Stage → List ℕ → Piece (List Part)
parts p g [] = no
parts p g (b ∷ s) = elim (turn p g b) [ turns ps q h ↦ ps ++ᵖ parts q h s | ends ps ↦ piece ps s | fails ↦ no ]

-- ## Tokens

-- What stands behind a `<`: a word, a name, and `>` where no expression follows.
pub data Word : Type 0 where
  opener : (Name → Opener) → Word
  asks : Query → Word
  ifs ons unknown : Word

unfoldable pub same : List ℕ → List ℕ → Bool
same [] [] = true
same [] (y ∷ ys) = false
same (x ∷ xs) [] = false
same (x ∷ xs) (y ∷ ys) = pick (eqb x y) (same xs ys) false

unfoldable pub word : Name → Word
word n =
    pick (same n (bytes "def")) (opener def)
    (pick (same n (bytes "block")) (opener block)
    (pick (same n (bytes "local")) (opener local)
    (pick (same n (bytes "match")) (asks match)
    (pick (same n (bytes "is")) (asks is)
    (pick (same n (bytes "isa")) (asks isa) (pick (same n (bytes "exists")) (asks exists) (pick (same n (bytes "if")) ifs (pick (same n (bytes "on")) ons unknown))))))))

unfoldable pub operator : Word → List ℕ → Piece Token
operator (opener o) s = name s then λ t s. piece (opens (o t)) s
operator (asks q) s = name s then λ t s. sign (code ">") s then λ _ s. piece (leaf (query q t)) s
operator ifs s = truth s then λ w s. name s then λ c s. sign (code ">") s then λ _ s. piece (leaf (if c w)) s
operator ons s = truth s then λ w s. name s then λ c s. piece (opens (on c w)) s
operator unknown s = no

-- A name is a production's if a `=` follows. `r` is what comes right behind the name.
unfoldable pub named_here : Name → (r : List ℕ) → Skipped → Piece Token
named_here n r (unclosed c) = piece (leaf (call n)) r
named_here n r (past []) = piece (leaf (call n)) r
named_here n r (past (b ∷ s)) = pick (eqb b (code "=")) (piece (head n) s) (piece (leaf (call n)) r)

unfoldable pub classed : Piece (List Part) → Piece Token
classed no = no
classed (piece [] s) = no
classed (piece (p ∷ ps) s) = piece (leaf (class p ps)) s

-- A `^` right behind the `[` is refused: elsewhere it would turn the class round.
unfoldable pub class_here : List ℕ → Piece Token
class_here [] = no
class_here (b ∷ s) = pick (eqb b (code "^")) no (classed (parts begin fresh (b ∷ s)))

-- The token that a byte begins, `s` being what comes behind the byte.
unfoldable pub token : ℕ → List ℕ → Piece Token
token b s =
    pick (letter b) (named_here (name_front (b ∷ s)) (name_behind (b ∷ s)) (gap (name_behind (b ∷ s))))
    (pick (eqb b (code ".")) (piece (leaf any) s)
    (pick (one_of "'\"" b) (quote b fresh s then λ x s. piece (leaf (quoted x)) s)
    (pick (eqb b (code "[")) (class_here s)
    (pick (eqb b (code "<")) (name s then λ n s. operator (word n) s)
    (pick (eqb b (code ">")) (piece closes s)
    (pick (eqb b (code "(")) (piece left s)
    (pick (eqb b (code ")")) (piece right s)
    (pick (eqb b (code "/")) (piece slash s)
    (pick (eqb b (code "&")) (piece (before and) s)
    (pick (eqb b (code "!")) (piece (before not) s)
    (pick (eqb b (code "?")) (piece (after option) s)
    (pick (eqb b (code "*")) (piece (after star) s) (pick (eqb b (code "+")) (piece (after plus) s) no)))))))))))))

-- All tokens of a text, each with the bytes from it on: a gap, and then a token or the end. Where neither stands the last is `bad`, at what is no
-- token or at the comment that is not closed. Each token takes at least a byte, so `fuel` over the number of bytes never ends first.
unfoldable pub lexed : (fuel : ℕ) → List ℕ → List Lexeme
lexed zero s = record { here = s; token = bad } ∷ []
lexed (suc fuel) s =
    elim (gap s) [
      | unclosed c ↦ record { here = c; token = bad } ∷ []
      | past r ↦
          elim r [
            | [] ↦ []
            | b ∷ u ↦
                elim (token b u) [
                  | no ↦ record { here = b ∷ u; token = bad } ∷ []
                  | piece t v ↦ record { here = b ∷ u; token = t } ∷ lexed fuel v
                ]
          ]
    ]

unfoldable pub lexemes : List ℕ → List Lexeme
lexemes s = lexed (suc (length s)) s

abbrev pub tokens : List ℕ → List Token
tokens s = bare (lexemes s)
