-- Texts and what they are taken for, computed over the definitions.
use Rattle.std.specs.Prelude.{ℕ, ◌≡◌, refl, List, [], ◌∷◌, ◌++◌, map, replicate}
use Rattle.grammar.specs.Expr.{Empty, Byte, Range, Text, Sequence, Choice, Star, Call, Def, Is, Block}
use Rattle.format.specs.Cases.{harbour_grammar}
use Rattle.notation.specs.Bytes.{bytes}
use Rattle.notation.specs.Stream.{post, symbols, ◌▸▸◌, close, whole, in_bracket, in_angle, stream}
use Rattle.notation.specs.Lexer.{skip, front, second, block_on, star_on, name_front, name_behind, name_here, sign_here, truth_here, quote, at_mark, feed, high, low, simple, turn, begun, ranged, ◌++ᵖ◌, ◌∷ᵖ◌, ◌then◌, parts, same, word, operator, named_here, classed, class_here, token, lexed, lexemes, tokens}
use Rattle.notation.specs.Reader.{grow, trees, came, reads, unread, parsed}
use Rattle.notation.specs.Symbols.{same_symbols}
use Rattle.notation.specs.Naming.{member, all, distinct, agree}
use Rattle.notation.specs.Compile.{order, insert, sorted, place, entry, count, choices, emit, emit_all, roots, patterns_in, patterns_all, first, compile}
use Rattle.notation.specs.Places.{behind_truth, name_in, token_place, first_where, first_name, first_over, image_up_to, only, numbered}
use Rattle.notation.specs.OnePattern.{failing}
use Rattle.notation.specs.Judged.{Answer, good, refused, judged}

-- What is said of a text; that the notation does not derive it is 20, here without its place.
unfoldable answered : ℕ → List ℕ → Answer
answered room text = elim (parsed (tokens text)) [ unread ↦ refused 20 0 | reads ps ↦ judged text room ps (lexemes text) ]

-- 01's image H, as text: the very same grammar.
harbour : answered 16384 (bytes "S = <def T [A-Z]+> '=' <is T>") ≡ good harbour_grammar
unfolding post symbols ◌▸▸◌ close whole in_bracket in_angle stream skip front second block_on star_on name_front name_behind name_here sign_here truth_here quote at_mark feed high low simple turn begun ranged ◌++ᵖ◌ ◌∷ᵖ◌ ◌then◌ parts same word operator named_here classed class_here token lexed lexemes grow trees came parsed same_symbols member all distinct agree order insert sorted place entry count choices emit emit_all roots patterns_in patterns_all first compile behind_truth name_in first_where first_name first_over image_up_to only numbered failing judged answered
harbour = refl

-- Document 004, section 3.2: nested tags.
tags :
    answered 16384 (bytes "INNER = <block TAG XML>\nXML = '<' <def TAG NAME> '>' INNER? '</' <is TAG> '>'\nNAME = [A-z] [A-z0-9]* // letters first\n")
    ≡ good (record {
      conditions = 0;
      start = 1;
      patterns = 3 ∷ [];
      nodes =
          Call 17 ∷ Block 0 0
          ∷ Byte 60 ∷ Call 23 ∷ Def 0 ∷ Byte 62 ∷ Call 1 ∷ Empty ∷ Choice 6 7 ∷ Text (60 ∷ 47 ∷ []) ∷ Is 0 ∷ Byte 62
          ∷ Sequence 10 11 ∷ Sequence 9 12 ∷ Sequence 8 13 ∷ Sequence 5 14 ∷ Sequence 4 15 ∷ Sequence 2 16
          ∷ Range 65 122 ∷ Range 65 122 ∷ Range 48 57 ∷ Choice 19 20 ∷ Star 21 ∷ Sequence 18 22 ∷ [];
    })
unfolding post symbols ◌▸▸◌ close whole in_bracket in_angle stream skip front second block_on star_on name_front name_behind name_here sign_here truth_here quote at_mark feed high low simple turn begun ranged ◌++ᵖ◌ ◌∷ᵖ◌ ◌then◌ parts same word operator named_here classed class_here token lexed lexemes grow trees came parsed same_symbols member all distinct agree order insert sorted place entry count choices emit emit_all roots patterns_in patterns_all first compile behind_truth name_in first_where first_name first_over image_up_to only numbered failing judged answered
tags = refl

-- The refusal's number, and 0 for a good text.
abbrev number : Answer → ℕ
number (good g) = 0
number (refused n p) = n

-- In order: an empty text, no expression, a bracket and a mark that do not close, a range upside down, a class with `^`, a comment that does not close; what is
-- not of the notation comes before an undefined name; an undefined name, a table without a def; these before a name that is defined twice; such a name, and that before
-- two patterns; two patterns, and two that are alike; 511 nodes and 513, and two patterns before these; a quoted text of 64 and of 65 bytes.
refusals :
    map (λ t. number (answered 16384 t)) (
    bytes "" ∷ bytes "A = " ∷ bytes "A = (." ∷ bytes "A = '." ∷ bytes "A = [z-a]" ∷ bytes "A = [^a]" ∷ bytes "A = . /*" ∷ bytes "A = B )"
    ∷ bytes "A = B" ∷ bytes "A = <is T>" ∷ bytes "A = B A = ."
    ∷ bytes "A = . A = ." ∷ bytes "A = <def T .> A = <def T 'x'>"
    ∷ bytes "A = <def T .> <def T 'x'>" ∷ bytes "A = <def T 'x' ((B) C)> <def T '\\x78'B C/*same*/> B = . C = ."
    ∷ (bytes "A = " ++ replicate 256 46) ∷ (bytes "A = " ++ replicate 257 46) ∷ (bytes "A = <def T .> <def T .*>" ++ replicate 257 46)
    ∷ (bytes "A = '" ++ (replicate 64 46 ++ bytes "'")) ∷ (bytes "A = '" ++ (replicate 65 46 ++ bytes "'"))
    ∷ [])
    ≡ 20 ∷ 20 ∷ 20 ∷ 20 ∷ 20 ∷ 20 ∷ 20 ∷ 20 ∷ 21 ∷ 21 ∷ 21 ∷ 22 ∷ 22 ∷ 23 ∷ 0 ∷ 0 ∷ 24 ∷ 23 ∷ 0 ∷ 24 ∷ []
unfolding post symbols ◌▸▸◌ close whole in_bracket in_angle stream skip front second block_on star_on name_front name_behind name_here sign_here truth_here quote at_mark feed high low simple turn begun ranged ◌++ᵖ◌ ◌∷ᵖ◌ ◌then◌ parts same word operator named_here classed class_here token lexed lexemes grow trees came parsed same_symbols member all distinct agree order insert sorted place entry count choices emit emit_all roots patterns_in patterns_all first compile behind_truth name_in first_where first_name first_over image_up_to only numbered failing judged answered
refusals = refl

-- Where the trouble is. In order: an undefined name; a table without a def, in angle brackets with blanks and a comment; an undefined name behind a condition; the second
-- definition; the second def; the ninth table, the ninth condition; the long quoted text; the production with which there are 513 nodes.
placed :
    map (answered 16384) (
    bytes "A = B" ∷ bytes "A = <is is>" ∷ bytes "A = < is /* T */ T >" ∷ bytes "A = <if ! C> B A = ."
    ∷ bytes "A = .\nB = .\nA = ." ∷ bytes "A = <def T .> <def T 'x'>"
    ∷ bytes "A = <def a .> <def b .> <def c .> <def d .> <def e .> <def f .> <def g .> <def h .> <def a .> <def i .> <if z>"
    ∷ bytes "A = <if a> <if b> <on c .> <if !d> <if e> <on ! f .> <if g> <if h> <if h> <if ! i>"
    ∷ (bytes "A = . '" ++ (replicate 65 46 ++ bytes "'"))
    ∷ (bytes "A = . B = " ++ (replicate 256 46 ++ bytes " C = .")) ∷ [])
    ≡ refused 21 4 ∷ refused 21 8 ∷ refused 21 17 ∷ refused 21 13 ∷ refused 22 12 ∷ refused 23 14 ∷ refused 24 99 ∷ refused 24 80 ∷ refused 24 6 ∷ refused 24 267 ∷ []
unfolding post symbols ◌▸▸◌ close whole in_bracket in_angle stream skip front second block_on star_on name_front name_behind name_here sign_here truth_here quote at_mark feed high low simple turn begun ranged ◌++ᵖ◌ ◌∷ᵖ◌ ◌then◌ parts same word operator named_here classed class_here token lexed lexemes grow trees came parsed same_symbols member all distinct agree order insert sorted place entry count choices emit emit_all roots patterns_in patterns_all first compile behind_truth name_in first_where first_name first_over image_up_to only numbered failing judged answered
placed = refl

-- An image of 6 bytes: no room in a buffer of 5, and enough in one of 6.
roomed : map (λ room. number (answered room (bytes "A = ''"))) (5 ∷ 6 ∷ []) ≡ 25 ∷ 0 ∷ []
unfolding post symbols ◌▸▸◌ close whole in_bracket in_angle stream skip front second block_on star_on name_front name_behind name_here sign_here truth_here quote at_mark feed high low simple turn begun ranged ◌++ᵖ◌ ◌∷ᵖ◌ ◌then◌ parts same word operator named_here classed class_here token lexed lexemes grow trees came parsed same_symbols member all distinct agree order insert sorted place entry count choices emit emit_all roots patterns_in patterns_all first compile behind_truth name_in first_where first_name first_over image_up_to only numbered failing judged answered
roomed = refl

-- Where tokens stand, and the last of them where they stop: a comment that does not close, behind a name and behind a name with which a text begins; what is no token; an
-- operator in which a comment does not close.
stopped :
    map (λ t. map (token_place t) (lexemes t)) (
    bytes "A = b /* c" ∷ bytes "A /**/ /* = ." ∷ bytes "A = . // c\n 'b" ∷ bytes "A = < is /* c" ∷ [])
    ≡ (0 ∷ 4 ∷ 6 ∷ []) ∷ (0 ∷ 7 ∷ []) ∷ (0 ∷ 4 ∷ 12 ∷ []) ∷ (0 ∷ 4 ∷ []) ∷ []
unfolding skip front second block_on star_on name_front name_behind name_here sign_here quote at_mark feed simple ◌∷ᵖ◌ ◌then◌ same word operator named_here token lexed lexemes
stopped = refl
