-- The patterns of a text's defs, where they stand: each with the tokens from its first on. A walk that begins there with nothing open puts out the
-- pattern's symbols and breaks at the `>` behind it.
use Rattle.std.specs.Prelude.{ℕ, ◌+◌, Bool, true, false, List, [], ◌∷◌, ◌++◌, map, length}
use Rattle.format.specs.Reading.{pick}
use Rattle.notation.specs.Tree.{Name}
use Rattle.notation.specs.Token.{Token}
use Rattle.notation.specs.Stream.{Symbol, named, stands, enters, leaves, front, back, joins, Stream, ◌▸◌, ended, broken}
use Rattle.notation.specs.Symbols.{same_symbol}
use Rattle.notation.specs.Uses.{says, nothing, defined_by}

-- A def's table and the tokens behind its opener, to the end of the text.
pub record Body : Type 0 where
  pub table : Name
  pub ahead : List Token

unfoldable pub bodies_in : List Token → List Body
bodies_in [] = []
bodies_in (t ∷ ts) = map (λ n. record { table = n; ahead = ts }) (says nothing nothing defined_by t) ++ bodies_in ts

-- What stands for one where there is none.
abbrev pub no_body : Body
no_body = record { table = []; ahead = [] }

-- The symbols are the same one by one, and both streams break at once.
unfoldable pub same_streams : Stream → Stream → Bool
same_streams (s ▸ r) (t ▸ q) = pick (same_symbol s t) (same_streams r q) false
same_streams (s ▸ r) ended = false
same_streams (s ▸ r) broken = false
same_streams ended q = false
same_streams broken (t ▸ q) = false
same_streams broken ended = false
same_streams broken broken = true

-- How many defs begin in a stream.
abbrev pub defines_on : Symbol → ℕ
defines_on (named n) = 0
defines_on (stands l) = 0
defines_on (enters o) = length (defined_by o)
defines_on leaves = 0
defines_on (front p) = 0
defines_on (back s) = 0
defines_on (joins b) = 0

unfoldable pub defs_on : Stream → ℕ
defs_on (s ▸ r) = defines_on s + defs_on r
defs_on ended = 0
defs_on broken = 0
