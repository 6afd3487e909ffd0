-- The nodes of the tables' patterns, symbol by symbol: a table's pattern is that of the first of its defs to begin, and its node is the last
-- that was made when that def ends.
use Rattle.std.specs.Prelude.{ℕ, suc, ◌+◌, ◌-◌, Bool, true, false, List, [], ◌∷◌}
use Rattle.std.proofs.Math.Option.{Option, some, none}
use Rattle.format.specs.Reading.{pick}
use Rattle.notation.specs.Tree.{Name, Opener, def, block, local, on}
use Rattle.notation.specs.Lexer.{same}
use Rattle.notation.specs.Stream.{Symbol, named, stands, enters, leaves, front, back, joins}
use Rattle.notation.specs.Compile.{leaf_count, prefix_count, suffix_count}

-- What is known of a table: no def of it has begun; the first has, and is still open; its pattern's node.
pub data Known : Type 0 where
  none_yet begun : Known
  ends_at : (node : ℕ) → Known

abbrev pub is_new : Known → Bool
is_new none_yet = true
is_new begun = false
is_new (ends_at n) = false

abbrev pub node_of : Known → ℕ
node_of none_yet = 0
node_of begun = 0
node_of (ends_at n) = n

abbrev pub put : Name → Known → (Name → Known) → (Name → Known)
put t v f = λ u. pick (same t u) v (f u)

-- The table whose pattern an operator brings: that of a def which is the first of its table to begin.
abbrev pub brings : Opener → (Name → Known) → Option Name
brings (def t) f = pick (is_new (f t)) (some t) none
brings (block t) f = none
brings (local t) f = none
brings (on c w) f = none

abbrev pub note : Option Name → Known → (Name → Known) → (Name → Known)
note (some t) v f = put t v f
note none v f = f

-- What is known behind symbols: `k` is the next node's number, `ms` has for each operator that is open the table whose pattern it brings.
-- Symbols that no walk puts out tell nothing.
unfoldable pub known_behind : List Symbol → (k : ℕ) (ms : List (Option Name)) (f : Name → Known) → (Name → Known)
known_behind [] k ms f = f
known_behind (named n ∷ ss) k ms f = known_behind ss k [] f
known_behind (stands l ∷ ss) k ms f = known_behind ss (k + leaf_count l) ms f
known_behind (enters o ∷ ss) k ms f = known_behind ss k (brings o f ∷ ms) (note (brings o f) begun f)
known_behind (leaves ∷ ss) k [] f = f
known_behind (leaves ∷ ss) k (m ∷ ms) f = known_behind ss (suc k) ms (note m (ends_at (k - 1)) f)
known_behind (front p ∷ ss) k ms f = known_behind ss (k + prefix_count p) ms f
known_behind (back s ∷ ss) k ms f = known_behind ss (k + suffix_count s) ms f
known_behind (joins b ∷ ss) k ms f = known_behind ss (suc k) ms f

-- Before the first symbol.
abbrev pub nothing_known : Name → Known
nothing_known t = none_yet
