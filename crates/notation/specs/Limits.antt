-- 01's limits, as one test of a reading and its grammar.
use Rattle.std.specs.Prelude.{Bool, false, List, [], ◌∷◌, leb, length}
use Rattle.format.specs.Reading.{pick}
use Rattle.format.specs.Written.{encode}
use Rattle.grammar.specs.Grammar.{Grammar, size}
use Rattle.grammar.specs.Grammar as G
use Rattle.notation.specs.Tree.{Leaf, any, quoted, class, call, query, if, Production}
use Rattle.notation.specs.Naming.{per_leaf, everywhere, all}

-- 24: 01's limits. At most 8 tables, 8 conditions, 512 nodes, 64 bytes in a quoted text, 16,384 bytes in the image.
abbrev pub short : Leaf → List Bool
short any = []
short (quoted s) = leb (length s) 64 ∷ []
short (class p ps) = []
short (call n) = []
short (query q t) = []
short (if c w) = []

abbrev pub both : Bool → Bool → Bool
both a b = pick a b false

unfoldable pub fits : List Production → Grammar → Bool
fits ps g =
    both (leb (G.tables g) 8)
    (both (leb g.conditions 8)
    (both (leb (size g) 512) (both (all (λ b. b) (everywhere (per_leaf short) ps)) (leb (length (encode g)) 16384))))
