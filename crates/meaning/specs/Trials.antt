-- Trials of the definitions, computed: each kind passing, and failing if it can, each trap of 01, each refusal of a run, scopes within scopes,
-- switches within switches, patterns that store, limits at what a run needs and one below. The answers are worked out from 01.
use Rattle.std.specs.Prelude.{ℕ, ◌≡◌, refl, true, false, List, [], ◌∷◌, ◌++◌, map}
use Rattle.grammar.specs.Expr.{Expr, Empty, Byte, Range, Any, Text, Sequence, Choice, Star, Not, Call, Def, Match, Is, Isa, Exists, Block, Local, If, On}
use Rattle.grammar.specs.Grammar.{Grammar}
use Rattle.meaning.specs.Outcome.{pass, fail, pass_if, swap, restored, closed, matched, compared}
use Rattle.meaning.specs.Run.{Result, ran, refused, rounds, run}
use Rattle.meaning.specs.Recognise.{Answer, answer_of, flat, from_start}

-- Nodes, patterns, start, input, B, D, R; then kind, consumed, steps, depth, symbols, place; then the symbols held.
record Trial : Type 0 where
  pub grammar : Grammar
  pub input : List ℕ
  pub B : ℕ
  pub D : ℕ
  pub R : ℕ
  pub answer : List ℕ
  pub symbols : List ℕ

abbrev trial : List Expr → List ℕ → ℕ → List ℕ → ℕ → ℕ → ℕ → List ℕ → List ℕ → Trial
trial nodes patterns start input B D R answer symbols = record {
  grammar = record { conditions = 2; start = start; patterns = patterns; nodes = nodes };
  input = input;
  B = B;
  D = D;
  R = R;
  answer = answer;
  symbols = symbols;
}

abbrev trials : List Trial
trials =
    -- Empty passes
    trial (Empty ∷ []) (0 ∷ []) 0 ([]) 1000000 256 256 (0 ∷ 0 ∷ 1 ∷ 1 ∷ 0 ∷ 0 ∷ []) ([])
    -- Byte passes
    ∷ trial (Byte 97 ∷ []) (0 ∷ []) 0 (97 ∷ 98 ∷ []) 1000000 256 256 (0 ∷ 1 ∷ 1 ∷ 1 ∷ 0 ∷ 0 ∷ []) ([])
    -- Byte fails on another byte
    ∷ trial (Byte 97 ∷ []) (0 ∷ []) 0 (98 ∷ []) 1000000 256 256 (99 ∷ 0 ∷ 1 ∷ 1 ∷ 0 ∷ 0 ∷ []) ([])
    -- Byte fails at the end
    ∷ trial (Byte 97 ∷ []) (0 ∷ []) 0 ([]) 1000000 256 256 (99 ∷ 0 ∷ 1 ∷ 1 ∷ 0 ∷ 0 ∷ []) ([])
    -- Range passes at its ends
    ∷ trial (Range 97 98 ∷ Sequence 0 0 ∷ []) (0 ∷ []) 1 (97 ∷ 98 ∷ []) 1000000 256 256 (0 ∷ 2 ∷ 3 ∷ 2 ∷ 0 ∷ 0 ∷ []) ([])
    -- Range fails above
    ∷ trial (Range 97 98 ∷ []) (0 ∷ []) 0 (99 ∷ []) 1000000 256 256 (99 ∷ 0 ∷ 1 ∷ 1 ∷ 0 ∷ 0 ∷ []) ([])
    -- Range fails at the end
    ∷ trial (Range 97 98 ∷ []) (0 ∷ []) 0 ([]) 1000000 256 256 (99 ∷ 0 ∷ 1 ∷ 1 ∷ 0 ∷ 0 ∷ []) ([])
    -- Any passes
    ∷ trial (Any ∷ []) (0 ∷ []) 0 (122 ∷ []) 1000000 256 256 (0 ∷ 1 ∷ 1 ∷ 1 ∷ 0 ∷ 0 ∷ []) ([])
    -- Any fails at the end
    ∷ trial (Any ∷ []) (0 ∷ []) 0 ([]) 1000000 256 256 (99 ∷ 0 ∷ 1 ∷ 1 ∷ 0 ∷ 0 ∷ []) ([])
    -- Text passes
    ∷ trial (Text (97 ∷ 98 ∷ []) ∷ []) (0 ∷ []) 0 (97 ∷ 98 ∷ 99 ∷ []) 1000000 256 256 (0 ∷ 2 ∷ 1 ∷ 1 ∷ 0 ∷ 0 ∷ []) ([])
    -- Text fails on a difference
    ∷ trial (Text (97 ∷ 98 ∷ []) ∷ []) (0 ∷ []) 0 (97 ∷ 99 ∷ []) 1000000 256 256 (99 ∷ 0 ∷ 1 ∷ 1 ∷ 0 ∷ 0 ∷ []) ([])
    -- Text fails where the input ends inside it
    ∷ trial (Text (97 ∷ 98 ∷ []) ∷ []) (0 ∷ []) 0 (97 ∷ []) 1000000 256 256 (99 ∷ 0 ∷ 1 ∷ 1 ∷ 0 ∷ 0 ∷ []) ([])
    -- Sequence passes
    ∷ trial (Byte 97 ∷ Byte 98 ∷ Sequence 0 1 ∷ []) (0 ∷ []) 2 (97 ∷ 98 ∷ []) 1000000 256 256 (0 ∷ 2 ∷ 3 ∷ 2 ∷ 0 ∷ 0 ∷ []) ([])
    -- Sequence fails in its first
    ∷ trial (Byte 97 ∷ Byte 98 ∷ Sequence 0 1 ∷ []) (0 ∷ []) 2 (98 ∷ []) 1000000 256 256 (99 ∷ 0 ∷ 2 ∷ 2 ∷ 0 ∷ 0 ∷ []) ([])
    -- Sequence fails in its second
    ∷ trial (Byte 97 ∷ Byte 98 ∷ Sequence 0 1 ∷ []) (0 ∷ []) 2 (97 ∷ 97 ∷ []) 1000000 256 256 (99 ∷ 0 ∷ 3 ∷ 2 ∷ 0 ∷ 0 ∷ []) ([])
    -- Choice takes its first
    ∷ trial (Byte 97 ∷ Byte 98 ∷ Choice 0 1 ∷ []) (0 ∷ []) 2 (97 ∷ []) 1000000 256 256 (0 ∷ 1 ∷ 2 ∷ 2 ∷ 0 ∷ 0 ∷ []) ([])
    -- Choice takes its second, and its first counts
    ∷ trial (Byte 97 ∷ Byte 98 ∷ Choice 0 1 ∷ []) (0 ∷ []) 2 (98 ∷ []) 1000000 256 256 (0 ∷ 1 ∷ 3 ∷ 2 ∷ 0 ∷ 0 ∷ []) ([])
    -- Choice fails
    ∷ trial (Byte 97 ∷ Byte 98 ∷ Choice 0 1 ∷ []) (0 ∷ []) 2 (99 ∷ []) 1000000 256 256 (99 ∷ 0 ∷ 3 ∷ 2 ∷ 0 ∷ 0 ∷ []) ([])
    -- Star with no round
    ∷ trial (Byte 97 ∷ Star 0 ∷ []) (0 ∷ []) 1 (98 ∷ []) 1000000 256 256 (0 ∷ 0 ∷ 2 ∷ 2 ∷ 0 ∷ 0 ∷ []) ([])
    -- Star with three rounds: 4 rounds of 2 steps
    ∷ trial (Byte 97 ∷ Star 0 ∷ []) (0 ∷ []) 1 (97 ∷ 97 ∷ 97 ∷ 98 ∷ []) 1000000 256 256 (0 ∷ 3 ∷ 8 ∷ 2 ∷ 0 ∷ 0 ∷ []) ([])
    -- Star keeps the rounds that passed and drops the failed one
    ∷ trial (Range 97 122 ∷ Def 0 ∷ Byte 33 ∷ Sequence 1 2 ∷ Star 3 ∷ []) (0 ∷ []) 4 (97 ∷ 33 ∷ 98 ∷ 33 ∷ 99 ∷ []) 1000000 256 256
    (0 ∷ 4 ∷ 15 ∷ 4 ∷ 2 ∷ 0 ∷ []) (0 ∷ 0 ∷ 1 ∷ 0 ∷ 2 ∷ 3 ∷ [])
    -- Not passes where its body fails, and consumes nothing
    ∷ trial (Byte 97 ∷ Not 0 ∷ []) (0 ∷ []) 1 (98 ∷ []) 1000000 256 256 (0 ∷ 0 ∷ 2 ∷ 2 ∷ 0 ∷ 0 ∷ []) ([])
    -- Not fails where its body passes
    ∷ trial (Byte 97 ∷ Not 0 ∷ []) (0 ∷ []) 1 (97 ∷ []) 1000000 256 256 (99 ∷ 0 ∷ 2 ∷ 2 ∷ 0 ∷ 0 ∷ []) ([])
    -- Call passes
    ∷ trial (Byte 97 ∷ Call 0 ∷ []) (0 ∷ []) 1 (97 ∷ []) 1000000 256 256 (0 ∷ 1 ∷ 2 ∷ 2 ∷ 0 ∷ 0 ∷ []) ([])
    -- a Call reaches a later node
    ∷ trial (Call 1 ∷ Byte 97 ∷ []) (0 ∷ []) 0 (97 ∷ []) 1000000 256 256 (0 ∷ 1 ∷ 2 ∷ 2 ∷ 0 ∷ 0 ∷ []) ([])
    -- Def stores what its pattern consumed
    ∷ trial (Range 97 122 ∷ Star 0 ∷ Def 0 ∷ []) (1 ∷ []) 2 (97 ∷ 98 ∷ 99 ∷ []) 1000000 256 256 (0 ∷ 3 ∷ 9 ∷ 3 ∷ 1 ∷ 0 ∷ [])
    (0 ∷ 0 ∷ 3 ∷ [])
    -- Def stores an empty symbol
    ∷ trial (Range 97 122 ∷ Star 0 ∷ Def 0 ∷ []) (1 ∷ []) 2 ([]) 1000000 256 256 (0 ∷ 0 ∷ 3 ∷ 3 ∷ 1 ∷ 0 ∷ []) (0 ∷ 0 ∷ 0 ∷ [])
    -- Def fails with its pattern
    ∷ trial (Byte 97 ∷ Def 0 ∷ []) (0 ∷ []) 1 (98 ∷ []) 1000000 256 256 (99 ∷ 0 ∷ 2 ∷ 2 ∷ 0 ∷ 0 ∷ []) ([])
    -- Match consumes the latest symbol
    ∷ trial (Range 97 122 ∷ Def 0 ∷ Match 0 ∷ Sequence 1 2 ∷ []) (0 ∷ []) 3 (97 ∷ 97 ∷ 98 ∷ []) 1000000 256 256
    (0 ∷ 2 ∷ 4 ∷ 3 ∷ 1 ∷ 0 ∷ []) (0 ∷ 0 ∷ 1 ∷ [])
    -- Match fails on other bytes
    ∷ trial (Range 97 122 ∷ Def 0 ∷ Match 0 ∷ Sequence 1 2 ∷ []) (0 ∷ []) 3 (97 ∷ 98 ∷ []) 1000000 256 256 (99 ∷ 0 ∷ 4 ∷ 3 ∷ 0 ∷ 0 ∷ [])
    ([])
    -- Match fails on an empty list
    ∷ trial (Range 97 122 ∷ Match 0 ∷ []) (0 ∷ []) 1 (97 ∷ []) 1000000 256 256 (99 ∷ 0 ∷ 1 ∷ 1 ∷ 0 ∷ 0 ∷ []) ([])
    -- Match of an empty symbol consumes nothing
    ∷ trial (Range 97 122 ∷ Star 0 ∷ Def 0 ∷ Match 0 ∷ Sequence 2 3 ∷ []) (1 ∷ []) 4 ([]) 1000000 256 256
    (0 ∷ 0 ∷ 5 ∷ 4 ∷ 1 ∷ 0 ∷ []) (0 ∷ 0 ∷ 0 ∷ [])
    -- Is passes
    ∷ trial (Range 97 122 ∷ Star 0 ∷ Def 0 ∷ Byte 61 ∷ Is 0 ∷ Sequence 3 4 ∷ Sequence 2 5 ∷ []) (1 ∷ []) 6
    (97 ∷ 98 ∷ 61 ∷ 97 ∷ 98 ∷ []) 1000000 256 256 (0 ∷ 5 ∷ 17 ∷ 5 ∷ 1 ∷ 0 ∷ []) (0 ∷ 0 ∷ 2 ∷ [])
    -- Is fails where the symbol is only the front of what is there
    ∷ trial (Range 97 122 ∷ Star 0 ∷ Def 0 ∷ Byte 61 ∷ Is 0 ∷ Sequence 3 4 ∷ Sequence 2 5 ∷ []) (1 ∷ []) 6
    (97 ∷ 61 ∷ 97 ∷ 98 ∷ []) 1000000 256 256 (99 ∷ 0 ∷ 15 ∷ 5 ∷ 0 ∷ 0 ∷ []) ([])
    -- Is fails on an empty list for one step
    ∷ trial (Range 97 122 ∷ Is 0 ∷ []) (0 ∷ []) 1 (97 ∷ []) 1000000 256 256 (99 ∷ 0 ∷ 1 ∷ 1 ∷ 0 ∷ 0 ∷ []) ([])
    -- Is compares with the latest alone
    ∷ trial (Range 97 122 ∷ Def 0 ∷ Is 0 ∷ Sequence 1 1 ∷ Sequence 3 2 ∷ []) (0 ∷ []) 4 (97 ∷ 98 ∷ 97 ∷ []) 1000000 256 256
    (99 ∷ 0 ∷ 8 ∷ 4 ∷ 0 ∷ 0 ∷ []) ([])
    -- Isa with any
    ∷ trial (Range 97 122 ∷ Def 0 ∷ Isa 0 ∷ Sequence 1 1 ∷ Sequence 3 2 ∷ []) (0 ∷ []) 4 (97 ∷ 98 ∷ 97 ∷ []) 1000000 256 256
    (0 ∷ 3 ∷ 8 ∷ 4 ∷ 2 ∷ 0 ∷ []) (0 ∷ 0 ∷ 1 ∷ 0 ∷ 1 ∷ 2 ∷ [])
    -- Isa fails where none is equal
    ∷ trial (Range 97 122 ∷ Def 0 ∷ Isa 0 ∷ Sequence 1 1 ∷ Sequence 3 2 ∷ []) (0 ∷ []) 4 (97 ∷ 98 ∷ 99 ∷ []) 1000000 256 256
    (99 ∷ 0 ∷ 8 ∷ 4 ∷ 0 ∷ 0 ∷ []) ([])
    -- Isa fails on an empty list for one step
    ∷ trial (Range 97 122 ∷ Isa 0 ∷ []) (0 ∷ []) 1 (97 ∷ []) 1000000 256 256 (99 ∷ 0 ∷ 1 ∷ 1 ∷ 0 ∷ 0 ∷ []) ([])
    -- Exists passes
    ∷ trial (Range 97 122 ∷ Def 0 ∷ Exists 0 ∷ Sequence 1 2 ∷ []) (0 ∷ []) 3 (97 ∷ []) 1000000 256 256 (0 ∷ 1 ∷ 4 ∷ 3 ∷ 1 ∷ 0 ∷ [])
    (0 ∷ 0 ∷ 1 ∷ [])
    -- Exists fails
    ∷ trial (Range 97 122 ∷ Exists 0 ∷ []) (0 ∷ []) 1 (97 ∷ []) 1000000 256 256 (99 ∷ 0 ∷ 1 ∷ 1 ∷ 0 ∷ 0 ∷ []) ([])
    -- If with a true condition
    ∷ trial (If 0 true ∷ []) (0 ∷ []) 0 ([]) 1000000 256 256 (0 ∷ 0 ∷ 1 ∷ 1 ∷ 0 ∷ 0 ∷ []) ([])
    -- If asks for false
    ∷ trial (If 0 false ∷ []) (0 ∷ []) 0 ([]) 1000000 256 256 (99 ∷ 0 ∷ 1 ∷ 1 ∷ 0 ∷ 0 ∷ []) ([])
    -- On makes a condition false inside, and it is true again outside
    ∷ trial (If 0 false ∷ On 0 false 0 ∷ If 0 true ∷ Sequence 1 2 ∷ []) (0 ∷ []) 3 ([]) 1000000 256 256 (0 ∷ 0 ∷ 4 ∷ 3 ∷ 0 ∷ 0 ∷ []) ([])
    -- On drops the names stored inside
    ∷ trial (Range 97 122 ∷ Def 0 ∷ On 0 true 1 ∷ Exists 0 ∷ Sequence 2 3 ∷ []) (0 ∷ []) 4 (97 ∷ []) 1000000 256 256
    (99 ∷ 0 ∷ 5 ∷ 4 ∷ 0 ∷ 0 ∷ []) ([])
    -- a Block keeps other tables' names
    ∷ trial (Range 97 122 ∷ Def 0 ∷ Def 1 ∷ Sequence 1 2 ∷ Block 0 3 ∷ Exists 1 ∷ Sequence 4 5 ∷ []) (0 ∷ 0 ∷ []) 6
    (97 ∷ 98 ∷ []) 1000000 256 256 (0 ∷ 2 ∷ 8 ∷ 5 ∷ 1 ∷ 0 ∷ []) (1 ∷ 1 ∷ 2 ∷ [])
    -- and drops its own
    ∷ trial (Range 97 122 ∷ Def 0 ∷ Def 1 ∷ Sequence 1 2 ∷ Block 0 3 ∷ Exists 0 ∷ Sequence 4 5 ∷ []) (0 ∷ 0 ∷ []) 6
    (97 ∷ 98 ∷ []) 1000000 256 256 (99 ∷ 0 ∷ 8 ∷ 5 ∷ 0 ∷ 0 ∷ []) ([])
    -- a Block sees what was stored before it
    ∷ trial (Range 97 122 ∷ Def 0 ∷ Exists 0 ∷ Block 0 2 ∷ Sequence 1 3 ∷ []) (0 ∷ []) 4 (97 ∷ []) 1000000 256 256
    (0 ∷ 1 ∷ 5 ∷ 3 ∷ 1 ∷ 0 ∷ []) (0 ∷ 0 ∷ 1 ∷ [])
    -- a Local does not
    ∷ trial (Range 97 122 ∷ Def 0 ∷ Exists 0 ∷ Local 0 2 ∷ Sequence 1 3 ∷ []) (0 ∷ []) 4 (97 ∷ []) 1000000 256 256
    (99 ∷ 0 ∷ 5 ∷ 3 ∷ 0 ∷ 0 ∷ []) ([])
    -- and after a Local the old names are there again
    ∷ trial (Range 97 122 ∷ Def 0 ∷ Local 0 1 ∷ Match 0 ∷ Sequence 1 2 ∷ Sequence 4 3 ∷ []) (0 ∷ []) 5 (97 ∷ 98 ∷ 97 ∷ []) 1000000 256 256
    (0 ∷ 3 ∷ 8 ∷ 5 ∷ 1 ∷ 0 ∷ []) (0 ∷ 0 ∷ 1 ∷ [])
    -- a Local inside a Block, over two tables
    ∷ trial (Range 97 122 ∷ Def 0 ∷ Def 1 ∷ Sequence 1 2 ∷ Local 0 3 ∷ Sequence 1 4 ∷ Block 1 5 ∷ []) (0 ∷ 0 ∷ []) 6
    (97 ∷ 98 ∷ 99 ∷ []) 1000000 256 256 (0 ∷ 3 ∷ 10 ∷ 6 ∷ 1 ∷ 0 ∷ []) (0 ∷ 0 ∷ 1 ∷ [])
    -- Isa under a Local's floor does not see the names below
    ∷ trial (Range 97 122 ∷ Def 0 ∷ Isa 0 ∷ Local 0 2 ∷ Sequence 1 3 ∷ []) (0 ∷ []) 4 (97 ∷ 97 ∷ []) 1000000 256 256
    (99 ∷ 0 ∷ 5 ∷ 3 ∷ 0 ∷ 0 ∷ []) ([])
    -- Isa under a floor sees the names above it
    ∷ trial (Range 97 122 ∷ Def 0 ∷ Isa 0 ∷ Sequence 1 2 ∷ Local 0 3 ∷ Sequence 1 4 ∷ []) (0 ∷ []) 5 (97 ∷ 98 ∷ 98 ∷ []) 1000000 256 256
    (0 ∷ 3 ∷ 9 ∷ 5 ∷ 1 ∷ 0 ∷ []) (0 ∷ 0 ∷ 1 ∷ [])
    -- a Local of one table hides nothing of another
    ∷ trial (Range 97 122 ∷ Def 1 ∷ Exists 1 ∷ Local 0 2 ∷ Sequence 1 3 ∷ []) (0 ∷ 0 ∷ []) 4 (97 ∷ []) 1000000 256 256
    (0 ∷ 1 ∷ 5 ∷ 3 ∷ 1 ∷ 0 ∷ []) (1 ∷ 0 ∷ 1 ∷ [])
    -- what a pattern stores is dropped
    ∷ trial (Range 97 122 ∷ Def 1 ∷ Def 0 ∷ []) (1 ∷ 0 ∷ []) 2 (97 ∷ []) 1000000 256 256 (0 ∷ 1 ∷ 3 ∷ 3 ∷ 1 ∷ 0 ∷ []) (0 ∷ 0 ∷ 1 ∷ [])
    -- and gives its room back before the name itself is stored
    ∷ trial (Range 97 122 ∷ Def 1 ∷ Def 0 ∷ []) (1 ∷ 0 ∷ []) 2 (97 ∷ []) 100 9 1 (0 ∷ 1 ∷ 3 ∷ 3 ∷ 1 ∷ 0 ∷ []) (0 ∷ 0 ∷ 1 ∷ [])
    -- but takes room while it runs
    ∷ trial (Range 97 122 ∷ Def 1 ∷ Sequence 1 1 ∷ Def 0 ∷ []) (2 ∷ 0 ∷ []) 3 (97 ∷ 98 ∷ []) 100 9 1 (14 ∷ 0 ∷ 6 ∷ 4 ∷ 0 ∷ 1 ∷ []) ([])
    -- just enough room for that
    ∷ trial (Range 97 122 ∷ Def 1 ∷ Sequence 1 1 ∷ Def 0 ∷ []) (2 ∷ 0 ∷ []) 3 (97 ∷ 98 ∷ []) 100 9 2 (0 ∷ 2 ∷ 6 ∷ 4 ∷ 1 ∷ 0 ∷ [])
    (0 ∷ 0 ∷ 2 ∷ [])
    -- two symbols, room for one
    ∷ trial (Range 97 122 ∷ Def 0 ∷ Sequence 1 1 ∷ []) (0 ∷ []) 2 (97 ∷ 98 ∷ []) 100 9 1 (14 ∷ 0 ∷ 5 ∷ 3 ∷ 0 ∷ 1 ∷ []) ([])
    -- room that a failure gives up is used again
    ∷ trial (Range 97 122 ∷ Def 0 ∷ Byte 33 ∷ Sequence 1 2 ∷ Choice 3 1 ∷ []) (0 ∷ []) 4 (97 ∷ []) 100 9 1 (0 ∷ 1 ∷ 7 ∷ 4 ∷ 1 ∷ 0 ∷ [])
    (0 ∷ 0 ∷ 1 ∷ [])
    -- room that a scope gives up is used again
    ∷ trial (Range 97 122 ∷ Def 0 ∷ Block 0 1 ∷ Sequence 2 1 ∷ []) (0 ∷ []) 3 (97 ∷ 98 ∷ []) 100 9 1 (0 ∷ 2 ∷ 6 ∷ 4 ∷ 1 ∷ 0 ∷ [])
    (0 ∷ 1 ∷ 2 ∷ [])
    -- hidden symbols take room
    ∷ trial (Range 97 122 ∷ Def 0 ∷ Local 0 1 ∷ Sequence 1 2 ∷ []) (0 ∷ []) 3 (97 ∷ 98 ∷ []) 100 9 1 (14 ∷ 0 ∷ 6 ∷ 4 ∷ 0 ∷ 1 ∷ []) ([])
    -- the step limit is looked at before the depth limit
    ∷ trial (Byte 97 ∷ Call 0 ∷ []) (0 ∷ []) 1 (97 ∷ []) 1 1 0 (12 ∷ 0 ∷ 1 ∷ 1 ∷ 0 ∷ 0 ∷ []) ([])
    -- the depth limit
    ∷ trial (Byte 97 ∷ Call 0 ∷ []) (0 ∷ []) 1 (97 ∷ []) 2 1 0 (13 ∷ 0 ∷ 1 ∷ 1 ∷ 0 ∷ 0 ∷ []) ([])
    -- the step limit at a later round
    ∷ trial (Byte 97 ∷ Star 0 ∷ []) (0 ∷ []) 1 (97 ∷ 97 ∷ []) 2 9 0 (12 ∷ 0 ∷ 2 ∷ 2 ∷ 0 ∷ 1 ∷ []) ([])
    -- just enough steps
    ∷ trial (Byte 97 ∷ Star 0 ∷ []) (0 ∷ []) 1 (97 ∷ 97 ∷ []) 6 2 0 (0 ∷ 2 ∷ 6 ∷ 2 ∷ 0 ∷ 0 ∷ []) ([])
    -- one step too few
    ∷ trial (Byte 97 ∷ Star 0 ∷ []) (0 ∷ []) 1 (97 ∷ 97 ∷ []) 5 2 0 (12 ∷ 0 ∷ 5 ∷ 2 ∷ 0 ∷ 2 ∷ []) ([])
    -- a round that consumes nothing
    ∷ trial (Byte 97 ∷ Not 0 ∷ Star 1 ∷ []) (0 ∷ []) 2 (98 ∷ []) 1000000 256 256 (15 ∷ 0 ∷ 3 ∷ 3 ∷ 0 ∷ 0 ∷ []) ([])
    -- a round that stores and consumes nothing
    ∷ trial (Range 97 122 ∷ Star 0 ∷ Def 0 ∷ Star 2 ∷ []) (1 ∷ []) 3 ([]) 1000000 256 256 (15 ∷ 0 ∷ 4 ∷ 4 ∷ 0 ∷ 0 ∷ []) ([])
    -- an empty round after a full one
    ∷ trial (Byte 97 ∷ Empty ∷ Choice 0 1 ∷ Star 2 ∷ []) (0 ∷ []) 3 (97 ∷ 98 ∷ []) 1000000 256 256 (15 ∷ 0 ∷ 7 ∷ 3 ∷ 0 ∷ 1 ∷ []) ([])
    -- a look-ahead that stores keeps nothing
    ∷ trial (Range 97 122 ∷ Def 0 ∷ Not 1 ∷ Not 2 ∷ Exists 0 ∷ Sequence 3 4 ∷ []) (0 ∷ []) 5 (97 ∷ []) 1000000 256 256
    (99 ∷ 0 ∷ 6 ∷ 5 ∷ 0 ∷ 0 ∷ []) ([])
    -- a first alternative's name is gone in the second
    ∷ trial (Range 97 122 ∷ Def 0 ∷ Byte 33 ∷ Sequence 1 2 ∷ Exists 0 ∷ Choice 3 4 ∷ []) (0 ∷ []) 5 (97 ∷ []) 1000000 256 256
    (99 ∷ 0 ∷ 6 ∷ 4 ∷ 0 ∷ 0 ∷ []) ([])
    -- a look-ahead that stores and then fails keeps nothing
    ∷ trial (Range 97 122 ∷ Def 0 ∷ Byte 33 ∷ Sequence 1 2 ∷ Not 3 ∷ Exists 0 ∷ Sequence 4 5 ∷ []) (0 ∷ []) 6 (97 ∷ []) 1000000 256 256
    (99 ∷ 0 ∷ 7 ∷ 5 ∷ 0 ∷ 0 ∷ []) ([])
    -- Range fails below
    ∷ trial (Range 97 98 ∷ []) (0 ∷ []) 0 (96 ∷ []) 1000000 256 256 (99 ∷ 0 ∷ 1 ∷ 1 ∷ 0 ∷ 0 ∷ []) ([])
    -- Call fails
    ∷ trial (Byte 97 ∷ Call 0 ∷ []) (0 ∷ []) 1 (98 ∷ []) 1000000 256 256 (99 ∷ 0 ∷ 2 ∷ 2 ∷ 0 ∷ 0 ∷ []) ([])
    -- Block fails, and the old names are there
    ∷ trial (Range 97 122 ∷ Def 0 ∷ Byte 33 ∷ Sequence 1 2 ∷ Block 0 3 ∷ Exists 0 ∷ Choice 4 5 ∷ Sequence 1 6 ∷ []) (0 ∷ []) 7
    (97 ∷ 98 ∷ []) 1000000 256 256 (0 ∷ 1 ∷ 10 ∷ 6 ∷ 1 ∷ 0 ∷ []) (0 ∷ 0 ∷ 1 ∷ [])
    -- a Local that fails: what follows sees the old names
    ∷ trial (Range 97 122 ∷ Def 0 ∷ Byte 33 ∷ Sequence 1 2 ∷ Local 0 3 ∷ Exists 0 ∷ Choice 4 5 ∷ Sequence 1 6 ∷ []) (0 ∷ []) 7
    (97 ∷ 98 ∷ []) 1000000 256 256 (0 ∷ 1 ∷ 10 ∷ 6 ∷ 1 ∷ 0 ∷ []) (0 ∷ 0 ∷ 1 ∷ [])
    -- an On that fails: what follows has the old truth
    ∷ trial (Byte 33 ∷ On 0 false 0 ∷ If 0 true ∷ Choice 1 2 ∷ []) (0 ∷ []) 3 (97 ∷ []) 1000000 256 256 (0 ∷ 0 ∷ 4 ∷ 3 ∷ 0 ∷ 0 ∷ []) ([])
    -- On inside On of the same condition
    ∷ trial (If 0 true ∷ On 0 true 0 ∷ If 0 false ∷ Sequence 1 2 ∷ On 0 false 3 ∷ []) (0 ∷ []) 4 ([]) 1000000 256 256
    (0 ∷ 0 ∷ 5 ∷ 4 ∷ 0 ∷ 0 ∷ []) ([])
    -- On inside On of another condition
    ∷ trial (If 0 false ∷ If 1 false ∷ Sequence 0 1 ∷ On 1 false 2 ∷ If 1 true ∷ Sequence 3 4 ∷ On 0 false 5 ∷ []) (0 ∷ []) 6
    ([]) 1000000 256 256 (0 ∷ 0 ∷ 7 ∷ 5 ∷ 0 ∷ 0 ∷ []) ([])
    -- a Local inside a Local of its own table: after the inner one the outer one's names are there
    ∷ trial (Range 97 122 ∷ Def 0 ∷ Local 0 1 ∷ Match 0 ∷ Sequence 2 3 ∷ Sequence 1 4 ∷ Local 0 5 ∷ Sequence 1 6 ∷ []) (0 ∷ []) 7
    (97 ∷ 98 ∷ 99 ∷ 98 ∷ []) 1000000 256 256 (0 ∷ 4 ∷ 12 ∷ 7 ∷ 1 ∷ 0 ∷ []) (0 ∷ 0 ∷ 1 ∷ [])
    -- a Block inside a Local of its own table
    ∷ trial (Range 97 122 ∷ Def 0 ∷ Isa 0 ∷ Sequence 1 2 ∷ Block 0 3 ∷ Isa 0 ∷ Sequence 4 5 ∷ Sequence 1 6 ∷ Local 0 7 ∷ Sequence 1 8 ∷ []) (0 ∷ []) 9 (97 ∷ 98 ∷ 99 ∷ 98 ∷ 98 ∷ []) 1000000 256 256 (0 ∷ 5 ∷ 16 ∷ 8 ∷ 1 ∷ 0 ∷ []) (0 ∷ 0 ∷ 1 ∷ [])
    -- the same, but the name below the floor
    ∷ trial (Range 97 122 ∷ Def 0 ∷ Isa 0 ∷ Sequence 1 2 ∷ Block 0 3 ∷ Isa 0 ∷ Sequence 4 5 ∷ Sequence 1 6 ∷ Local 0 7 ∷ Sequence 1 8 ∷ []) (0 ∷ []) 9 (97 ∷ 98 ∷ 99 ∷ 98 ∷ 97 ∷ []) 1000000 256 256 (99 ∷ 0 ∷ 16 ∷ 8 ∷ 0 ∷ 0 ∷ []) ([])
    -- Is compares with the list before its pattern, which stores in the same table
    ∷ trial (Byte 97 ∷ Byte 98 ∷ Def 0 ∷ Sequence 1 2 ∷ Choice 0 3 ∷ Is 0 ∷ Sequence 2 5 ∷ []) (4 ∷ []) 6
    (98 ∷ 97 ∷ 98 ∷ 97 ∷ []) 1000000 256 256 (0 ∷ 4 ∷ 17 ∷ 7 ∷ 1 ∷ 0 ∷ []) (0 ∷ 0 ∷ 2 ∷ [])
    -- and not with what that stored
    ∷ trial (Byte 97 ∷ Byte 98 ∷ Def 0 ∷ Sequence 1 2 ∷ Choice 0 3 ∷ Isa 0 ∷ Sequence 2 5 ∷ []) (4 ∷ []) 6
    (97 ∷ 98 ∷ 97 ∷ []) 1000000 256 256 (99 ∷ 0 ∷ 12 ∷ 7 ∷ 0 ∷ 0 ∷ []) ([])
    -- a pattern of Is that stores takes room
    ∷ trial (Range 97 122 ∷ Def 1 ∷ Byte 33 ∷ Def 0 ∷ Choice 1 2 ∷ Is 0 ∷ Sequence 3 5 ∷ []) (4 ∷ 0 ∷ []) 6 (97 ∷ 97 ∷ []) 100 9 1
    (14 ∷ 0 ∷ 9 ∷ 5 ∷ 0 ∷ 1 ∷ []) ([])
    -- Is with an empty symbol
    ∷ trial (Range 97 122 ∷ Star 0 ∷ Def 0 ∷ Is 0 ∷ Sequence 2 3 ∷ []) (1 ∷ []) 4 ([]) 1000000 256 256 (0 ∷ 0 ∷ 7 ∷ 4 ∷ 1 ∷ 0 ∷ [])
    (0 ∷ 0 ∷ 0 ∷ [])
    -- a round of Match of an empty symbol is empty
    ∷ trial (Range 97 122 ∷ Star 0 ∷ Def 0 ∷ Match 0 ∷ Star 3 ∷ Sequence 2 4 ∷ []) (1 ∷ []) 5 (33 ∷ []) 1000000 256 256
    (15 ∷ 0 ∷ 6 ∷ 4 ∷ 0 ∷ 0 ∷ []) ([])
    -- a Not does not turn a refusal
    ∷ trial (Empty ∷ Star 0 ∷ Not 1 ∷ []) (0 ∷ []) 2 ([]) 1000000 256 256 (15 ∷ 0 ∷ 3 ∷ 3 ∷ 0 ∷ 0 ∷ []) ([])
    -- a Choice does not turn a refusal
    ∷ trial (Empty ∷ Star 0 ∷ Choice 1 0 ∷ []) (0 ∷ []) 2 ([]) 1000000 256 256 (15 ∷ 0 ∷ 3 ∷ 3 ∷ 0 ∷ 0 ∷ []) ([])
    -- a refusal in the second alternative
    ∷ trial (Byte 97 ∷ Call 1 ∷ Choice 0 1 ∷ []) (0 ∷ []) 2 (98 ∷ []) 100 4 0 (13 ∷ 0 ∷ 5 ∷ 4 ∷ 0 ∷ 0 ∷ []) ([])
    -- the depth limit inside a pattern
    ∷ trial (Byte 97 ∷ Call 0 ∷ Def 0 ∷ []) (1 ∷ []) 2 (97 ∷ []) 100 2 1 (13 ∷ 0 ∷ 2 ∷ 2 ∷ 0 ∷ 0 ∷ []) ([])
    -- the step limit inside a second round
    ∷ trial (Byte 97 ∷ Star 0 ∷ []) (0 ∷ []) 1 (97 ∷ 97 ∷ []) 3 9 0 (12 ∷ 0 ∷ 3 ∷ 2 ∷ 0 ∷ 1 ∷ []) ([])
    -- the empty round comes before the step limit of the next
    ∷ trial (Empty ∷ Star 0 ∷ []) (0 ∷ []) 1 ([]) 2 2 0 (15 ∷ 0 ∷ 2 ∷ 2 ∷ 0 ∷ 0 ∷ []) ([])
    -- room is looked at before the next step
    ∷ trial (Range 97 122 ∷ Def 0 ∷ Sequence 1 0 ∷ []) (0 ∷ []) 2 (97 ∷ 97 ∷ []) 3 3 0 (14 ∷ 0 ∷ 3 ∷ 3 ∷ 0 ∷ 0 ∷ []) ([])
    ∷ []

abbrev held : Result → List ℕ
held (ran (pass n τ) c) = flat τ
held (ran fail c) = []
held (refused n p c) = []

abbrev fields : Answer → List ℕ
fields a = a.kind ∷ a.consumed ∷ a.steps ∷ a.depth ∷ a.symbols ∷ a.place ∷ []

abbrev gives : Trial → List ℕ
gives t =
    fields (answer_of (from_start t.grammar t.input t.B t.D t.R)) ++ held
    (from_start t.grammar t.input t.B t.D t.R)

all_trials : map gives trials ≡ map (λ t. t.answer ++ t.symbols) trials
unfolding run rounds pass_if swap restored closed matched compared
all_trials = refl
