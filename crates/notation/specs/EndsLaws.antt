-- Each lexeme has its place in the text: the bytes from it on are an end of the text.
use Rattle.std.specs.Prelude.{ℕ, zero, suc, ◌-◌, ◌≤◌, ◌≡◌, Bool, List, [], ◌∷◌, ◌++◌, length, drop}
use Rattle.std.proofs.Common.{arith}
use Rattle.notation.specs.Tree.{Name, Part}
use Rattle.notation.specs.Token.{Token, Lexeme}
use Rattle.notation.specs.Lexical
use Rattle.notation.specs.Lexical.{Line, over, ends, goes, Block, shuts, starred, goes_on, Gap, nothing, white, line, comment, Named, Char, escaped, hex, Chars, done, char, Parts, parts_end, single, range, Then, behind, Sign, Truth, negated, plain, plain_end, Spelled, a_head, a_call, a_dot, a_text, a_class, a_query, an_if, an_opener, an_on, a_greater, a_left, a_right, a_slash, an_and, a_not, an_option, a_star, a_plus}
use Rattle.notation.specs.Unread.{Unclosed, LexesTo, stuck}
use Rattle.notation.specs.Unread as U
use Rattle.notation.specs.Places.{place_of}
use Rattle.notation.specs.Stops.{here_of}

-- The second is an end of the first.
pub data Ends : (s r : List ℕ) → Type 0 where
  whole : {s : List ℕ} → Ends s s
  inner : {b : ℕ} {s r : List ℕ} → Ends s r → Ends (b ∷ s) r

ends_shorter : {s r : List ℕ} → Ends s r → length r ≤ length s
ends_shorter whole = omega arith
ends_shorter (inner e) = let h = ends_shorter e in omega arith

-- It stands at its place.
pub ends_placed : {s r : List ℕ} → Ends s r → drop (place_of s r) s ≡ r
ends_placed (whole {s = s}) = let z : length s - length s ≡ 0 = omega arith in rw z
ends_placed (inner {b = b} {s = s} {r = r} e) =
    let z : length (b ∷ s) - length r ≡ suc (length s - length r) = omega (arith, ends_shorter e) in rw z (ends_placed e)

pub ends_on : {s t r : List ℕ} → Ends s t → Ends t r → Ends s r
ends_on whole f = f
ends_on (inner e) f = inner (ends_on e f)

ends_append : (n : List ℕ) {r : List ℕ} → Ends (n ++ r) r
ends_append [] = whole
ends_append (b ∷ n) = inner (ends_append n)

ends_nothing : (s : List ℕ) → Ends s []
ends_nothing [] = whole
ends_nothing (b ∷ s) = inner (ends_nothing s)

-- ## Tokens

line_ends : {s r : List ℕ} → Line s r → Ends s r
line_ends over = whole
line_ends ends = inner whole
line_ends (goes n l) = inner (line_ends l)

block_ends : {s r : List ℕ} → Block s r → Ends s r
block_ends shuts = inner (inner whole)
block_ends (starred n k) = inner (block_ends k)
block_ends (goes_on n k) = inner (block_ends k)

pub gap_ends : {s r : List ℕ} → Gap s r → Ends s r
gap_ends (nothing d) = whole
gap_ends (white e g) = inner (gap_ends g)
gap_ends (line l g) = inner (inner (ends_on (line_ends l) (gap_ends g)))
gap_ends (comment l g) = inner (inner (ends_on (block_ends l) (gap_ends g)))

named_ends : {n : Name} {s r : List ℕ} → Named n s r → Ends s r
named_ends (Lexical.name {n = n} e N E) = inner (ends_append n)

char_ends : {stop c : ℕ} {s r : List ℕ} → Char stop c s r → Ends s r
char_ends (Lexical.itself n m e) = inner whole
char_ends (escaped x) = inner (inner whole)
char_ends (hex x y) = inner (inner (inner (inner whole)))

chars_ends : {stop : ℕ} {x s r : List ℕ} → Chars stop x s r → Ends s r
chars_ends done = inner whole
chars_ends (char C D) = ends_on (char_ends C) (chars_ends D)

parts_ends : {ps : List Part} {s r : List ℕ} → Parts ps s r → Ends s r
parts_ends parts_end = inner whole
parts_ends (single C n D) = ends_on (char_ends C) (parts_ends D)
parts_ends (range C E l D) = ends_on (char_ends C) (inner (ends_on (char_ends E) (parts_ends D)))

sign_ends : {c : ℕ} {s r : List ℕ} → Sign c s r → Ends s r
sign_ends Lexical.sign = inner whole

truth_ends : {w : Bool} {s r : List ℕ} → Truth w s r → Ends s r
truth_ends negated = inner whole
truth_ends (plain n) = whole
truth_ends plain_end = whole

then_ends : {P : (s r : List ℕ) → Type 0} {s r : List ℕ} → ((t : List ℕ) → P t r → Ends t r) → Then P s r → Ends s r
then_ends f (behind {t = t} g p) = ends_on (gap_ends g) (f t p)

pub then_named : {n : Name} {s r : List ℕ} → Then (Named n) s r → Ends s r
then_named = then_ends (λ t. named_ends)

then_sign : {c : ℕ} {s r : List ℕ} → Then (Sign c) s r → Ends s r
then_sign = then_ends (λ t. sign_ends)

pub then_truth : {w : Bool} {s r : List ℕ} → Then (Truth w) s r → Ends s r
then_truth = then_ends (λ t. truth_ends)

pub token_ends : {t : Token} {s r : List ℕ} → Spelled t s r → Ends s r
token_ends (a_head N S) = ends_on (named_ends N) (then_sign S)
token_ends (a_call N f) = named_ends N
token_ends a_dot = inner whole
token_ends (a_text e C) = inner (chars_ends C)
token_ends (a_class n D) = inner (parts_ends D)
token_ends (a_query a G N S) = inner (ends_on (then_named G) (ends_on (then_named N) (then_sign S)))
token_ends (an_if G W N S) =
    inner (ends_on (then_named G) (ends_on (then_truth W) (ends_on (then_named N) (then_sign S))))
token_ends (an_opener o G N) = inner (ends_on (then_named G) (then_named N))
token_ends (an_on G W N) = inner (ends_on (then_named G) (ends_on (then_truth W) (then_named N)))
token_ends a_greater = inner whole
token_ends a_left = inner whole
token_ends a_right = inner whole
token_ends a_slash = inner whole
token_ends an_and = inner whole
token_ends a_not = inner whole
token_ends an_option = inner whole
token_ends a_star = inner whole
token_ends a_plus = inner whole

-- ## The lexemes of a text

unclosed_ends : {s c : List ℕ} → Unclosed s c → Ends s c
unclosed_ends (U.never n) = whole
unclosed_ends (U.white e u) = inner (unclosed_ends u)
unclosed_ends (U.line l u) = inner (inner (ends_on (line_ends l) (unclosed_ends u)))
unclosed_ends (U.comment k u) = inner (inner (ends_on (block_ends k) (unclosed_ends u)))

module _ (text : List ℕ) where
  -- From every lexeme on, and where none is left.
  abbrev AllEnd : List Lexeme → Type 0
  AllEnd ls = (i : ℕ) → Ends text (here_of (drop i ls))

  end_none : AllEnd []
  end_none zero = ends_nothing text
  end_none (suc i) = ends_nothing text

  end_more : (l : Lexeme) (ls : List Lexeme) → Ends text l.here → AllEnd ls → AllEnd (l ∷ ls)
  end_more l ls e f zero = e
  end_more l ls e f (suc i) = f i

  all_end : {s : List ℕ} {ls : List Lexeme} → LexesTo s ls → Ends text s → AllEnd ls
  all_end (U.finish g) e = end_none
  all_end (U.token {ls = ls} g S L) e =
      let here = ends_on e (gap_ends g) in end_more _ ls here (all_end L (ends_on here (token_ends S)))
  all_end (stuck g n) e = end_more _ [] (ends_on e (gap_ends g)) end_none
  all_end (U.unclosed u) e = end_more _ [] (ends_on e (unclosed_ends u)) end_none

-- THE BYTES FROM A LEXEME ON ARE AN END OF THE TEXT.
pub lexemes_end : {text : List ℕ} {ls : List Lexeme} → LexesTo text ls → (i : ℕ) → Ends text (here_of (drop i ls))
lexemes_end {text} L = all_end text L whole
