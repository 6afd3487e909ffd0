-- WHERE IN THE TEXT THE TROUBLE IS. A place is a count of bytes from the text's front, and what stands there is known by the bytes from it on.
use Rattle.std.specs.Prelude.{ℕ, zero, suc, ◌+◌, ◌-◌, Bool, true, false, List, [], ◌∷◌, eqb, ltb, length, take}
use Prim.Native.Char.{code}
use Rattle.std.proofs.Math.Option.{Option, some, none}
use Rattle.format.specs.Reading.{pick}
use Rattle.format.specs.Written.{written, numbers, encode_node, heading}
use Rattle.grammar.specs.Grammar.{Grammar}
use Rattle.notation.specs.Tree.{Name, Production}
use Rattle.notation.specs.Token.{Token, Lexeme}
use Rattle.notation.specs.Lexer.{Piece, piece, no, ◌then◌, past, unclosed, gap, name, truth}
use Rattle.notation.specs.Naming.{all, member, Definition}
use Rattle.notation.specs.Uses.{head_of, call_of, def_of, ask_of, quoted_in, is_short}
use Rattle.notation.specs.OnePattern.{fault}
use Rattle.notation.specs.Compile.{insert, count}

-- The place from which on a text has these bytes.
abbrev pub place_of : (text rest : List ℕ) → ℕ
place_of text rest = length text - length rest

-- The bytes from a token's name on, the token being the front: behind `<`, a word and perhaps a `!`; else the name is the front itself.
unfoldable pub behind_truth : Piece Bool → List ℕ
behind_truth no = []
behind_truth (piece w s) = elim (gap s) [ past r ↦ r | unclosed c ↦ [] ]

unfoldable pub name_in : List ℕ → List ℕ
name_in [] = []
name_in (b ∷ s) = pick (eqb b (code "<")) (behind_truth (name s then λ w r. truth r)) (b ∷ s)

-- Where a token begins, and where its name does.
abbrev pub token_place : List ℕ → Lexeme → ℕ
token_place text l = place_of text l.here

abbrev pub name_place : List ℕ → Lexeme → ℕ
name_place text l = place_of text (name_in l.here)

-- ## The first of its sort

-- The first token of which a test holds.
unfoldable pub first_where : (Token → Bool) → List Lexeme → Option Lexeme
first_where test [] = none
first_where test (l ∷ ls) = pick (test l.token) (some l) (first_where test ls)

-- The first token that names what a test, which knows the names before it, does not let pass. The names before it are in byte order, each once.
unfoldable pub first_name : (Token → List Name) → (List Name → Name → Bool) → (before : List Name) → List Lexeme → Option Lexeme
first_name names test before [] = none
first_name names test before (l ∷ ls) =
    elim (names l.token) [
      | [] ↦ first_name names test before ls
      | n ∷ more ↦ pick (test before n) (some l) (first_name names test (insert n before) ls)
    ]

-- 21: a name that is called and is no production's, a table that is asked about and has no def.
abbrev pub undefined : (heads defs : List Name) → Token → Bool
undefined heads defs t =
    pick (all (λ n. member n heads) (call_of t)) (pick (all (λ n. member n defs) (ask_of t)) false true) true

-- 22: a name that an earlier production has.
abbrev pub again : List Name → Name → Bool
again before n = member n before

-- 24: a name with which there are nine; a quoted text of over 64 bytes.
abbrev pub ninth : List Name → Name → Bool
ninth before n = ltb 8 (length (insert n before))

abbrev pub long : Token → Bool
long t = pick (all is_short (quoted_in t)) false true

-- 24: the production with which a size goes over its limit, the size being told by the number of nodes so far.
unfoldable pub first_over : (limit : ℕ) (size : ℕ → ℕ) (nodes : ℕ) → List Production → (heads : List Lexeme) → Option Lexeme
first_over limit size nodes [] heads = none
first_over limit size nodes (p ∷ ps) [] = none
first_over limit size nodes (p ∷ ps) (h ∷ heads) =
    let later = nodes + count p.body in pick (ltb limit (size later)) (some h) (first_over limit size later ps heads)

-- The bytes of an image up to the end of so many nodes.
unfoldable pub image_up_to : Grammar → ℕ → ℕ
image_up_to g n = length (numbers (heading g)) + length (numbers g.patterns) + length (written encode_node (take n g.nodes))

-- The heads, and the defs, among a text's lexemes.
abbrev pub is_head : Token → Bool
is_head t = elim (head_of t) [ [] ↦ false | n ∷ more ↦ true ]

abbrev pub is_def : Token → Bool
is_def t = elim (def_of t) [ [] ↦ false | n ∷ more ↦ true ]

unfoldable pub only : (Token → Bool) → List Lexeme → List Lexeme
only test [] = []
only test (l ∷ ls) = pick (test l.token) (l ∷ only test ls) (only test ls)

-- The lexeme of a number, if there is a number.
unfoldable pub numbered : Option ℕ → List Lexeme → Option Lexeme
numbered none ls = none
numbered (some i) [] = none
numbered (some zero) (l ∷ ls) = some l
numbered (some (suc i)) (l ∷ ls) = numbered (some i) ls

-- 23: the first def that is not alike to the first one of its table. Defs and definitions go pairwise.
abbrev pub unlike : List Definition → List Lexeme → Option Lexeme
unlike ds ls = numbered (fault ds) (only is_def ls)
