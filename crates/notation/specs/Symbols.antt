-- Symbols told by a number and by what they hold, as the code tells them.
use Rattle.std.specs.Prelude.{ℕ, Bool, true, false, List, [], ◌∷◌, eqb}
use Rattle.format.specs.Reading.{pick}
use Rattle.notation.specs.Tree.{Part, match, is, isa, exists, any, quoted, class, call, query, if, and, not, option, star, plus, sequence, choice, def, block, local, on}
use Rattle.notation.specs.Stream.{Symbol, named, stands, enters, leaves, front, back, joins}
use Rattle.notation.specs.Lexer.{same}

abbrev pub ends : List Part → List ℕ
ends [] = []
ends (p ∷ ps) = p.lo ∷ p.hi ∷ ends ps

abbrev pub bit : Bool → ℕ
bit true = 1
bit false = 0

abbrev pub kind : Symbol → ℕ
kind (named n) = 0
kind (stands any) = 1
kind (stands (quoted s)) = 2
kind (stands (class p ps)) = 3
kind (stands (call n)) = 4
kind (stands (query match t)) = 5
kind (stands (query is t)) = 6
kind (stands (query isa t)) = 7
kind (stands (query exists t)) = 8
kind (stands (if c w)) = 9
kind (enters (def t)) = 10
kind (enters (block t)) = 11
kind (enters (local t)) = 12
kind (enters (on c w)) = 13
kind leaves = 14
kind (front and) = 15
kind (front not) = 16
kind (back option) = 17
kind (back star) = 18
kind (back plus) = 19
kind (joins sequence) = 20
kind (joins choice) = 21

abbrev pub contents : Symbol → List ℕ
contents (named n) = n
contents (stands any) = []
contents (stands (quoted s)) = s
contents (stands (class p ps)) = ends (p ∷ ps)
contents (stands (call n)) = n
contents (stands (query q t)) = t
contents (stands (if c w)) = bit w ∷ c
contents (enters (def t)) = t
contents (enters (block t)) = t
contents (enters (local t)) = t
contents (enters (on c w)) = bit w ∷ c
contents leaves = []
contents (front p) = []
contents (back s) = []
contents (joins b) = []

abbrev pub same_symbol : Symbol → Symbol → Bool
same_symbol s t = pick (eqb (kind s) (kind t)) (same (contents s) (contents t)) false

unfoldable pub same_symbols : List Symbol → List Symbol → Bool
same_symbols [] [] = true
same_symbols [] (t ∷ ts) = false
same_symbols (s ∷ ss) [] = false
same_symbols (s ∷ ss) (t ∷ ts) = pick (same_symbol s t) (same_symbols ss ts) false
