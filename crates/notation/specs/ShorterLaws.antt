-- How many bytes each piece of a token takes.
use Rattle.std.specs.Prelude.{ℕ, ◌+◌, ◌≤◌, ◌<◌, Bool, List, length}
use Rattle.std.proofs.Common.{arith, length-append}
use Rattle.notation.specs.Tree.{Name, Part}
use Rattle.notation.specs.Token.{Token}
use Rattle.notation.specs.Lexical
use Rattle.notation.specs.Lexical.{Line, over, ends, goes, Block, shuts, starred, goes_on, Gap, nothing, white, line, comment, Named, Char, escaped, hex, Chars, done, char, Parts, parts_end, single, range, Then, behind, Sign, Truth, negated, plain, plain_end, Spelled, a_head, a_call, a_dot, a_text, a_class, a_query, an_if, an_opener, an_on, a_greater, a_left, a_right, a_slash, an_and, a_not, an_option, a_star, a_plus}

line_shorter : {s r : List ℕ} → Line s r → length r ≤ length s
line_shorter over = omega arith
line_shorter ends = omega arith
line_shorter (goes n l) = let h = line_shorter l in omega arith

block_shorter : {s r : List ℕ} → Block s r → length r ≤ length s
block_shorter shuts = omega arith
block_shorter (starred n k) = let h = block_shorter k in omega arith
block_shorter (goes_on n k) = let h = block_shorter k in omega arith

pub gap_shorter : {s r : List ℕ} → Gap s r → length r ≤ length s
gap_shorter (nothing d) = omega arith
gap_shorter (white e g) = let h = gap_shorter g in omega arith
gap_shorter (line l g) = let h = gap_shorter g in let k = line_shorter l in omega arith
gap_shorter (comment l g) = let h = gap_shorter g in let k = block_shorter l in omega arith

pub named_shorter : {n : Name} {s r : List ℕ} → Named n s r → length r < length s
named_shorter (Lexical.name {n = n} {r = r} e N E) = omega (arith, length-append n r)

char_shorter : {stop c : ℕ} {s r : List ℕ} → Char stop c s r → length r < length s
char_shorter (Lexical.itself n m e) = omega arith
char_shorter (escaped x) = omega arith
char_shorter (hex x y) = omega arith

pub chars_shorter : {stop : ℕ} {x s r : List ℕ} → Chars stop x s r → length r < length s
chars_shorter done = omega arith
chars_shorter (char C D) = let h = char_shorter C in let k = chars_shorter D in omega arith

-- A class has a byte for each of its parts, and its `]`.
pub parts_shorter : {ps : List Part} {s r : List ℕ} → Parts ps s r → length ps + length r < length s
parts_shorter parts_end = omega arith
parts_shorter (single C n D) = let h = char_shorter C in let k = parts_shorter D in omega arith
parts_shorter (range C E l D) = let h = char_shorter C in let i = char_shorter E in let k = parts_shorter D in omega arith

pub then_named : {n : Name} {s r : List ℕ} → Then (Named n) s r → length r < length s
then_named (behind g N) = let h = gap_shorter g in let k = named_shorter N in omega arith

pub then_sign : {c : ℕ} {s r : List ℕ} → Then (Sign c) s r → length r < length s
then_sign (behind g Lexical.sign) = let h = gap_shorter g in omega arith

pub then_truth : {w : Bool} {s r : List ℕ} → Then (Truth w) s r → length r ≤ length s
then_truth (behind g negated) = let h = gap_shorter g in omega arith
then_truth (behind g (plain n)) = gap_shorter g
then_truth (behind g plain_end) = gap_shorter g

-- EACH TOKEN TAKES A BYTE.
pub token_shorter : {t : Token} {s r : List ℕ} → Spelled t s r → length r < length s
token_shorter (a_head N S) = let h = named_shorter N in let k = then_sign S in omega arith
token_shorter (a_call N f) = named_shorter N
token_shorter a_dot = omega arith
token_shorter (a_text e C) = let h = chars_shorter C in omega arith
token_shorter (a_class n D) = let h = parts_shorter D in omega arith
token_shorter (a_query a G N S) = let h = then_named G in let k = then_named N in let l = then_sign S in omega arith
token_shorter (an_if G W N S) = let h = then_named G in let i = then_truth W in let k = then_named N in let l = then_sign S in omega arith
token_shorter (an_opener o G N) = let h = then_named G in let k = then_named N in omega arith
token_shorter (an_on G W N) = let h = then_named G in let i = then_truth W in let k = then_named N in omega arith
token_shorter a_greater = omega arith
token_shorter a_left = omega arith
token_shorter a_right = omega arith
token_shorter a_slash = omega arith
token_shorter an_and = omega arith
token_shorter a_not = omega arith
token_shorter an_option = omega arith
token_shorter a_star = omega arith
token_shorter a_plus = omega arith
