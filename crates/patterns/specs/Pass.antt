-- 23 in one pass over the definitions, in the order in which they begin: each is held to the first of its table, and those inside one that is
-- found alike are passed over. They stand inside that first one too, and were looked at there. So no two of the definitions that are compared with
-- an earlier one overlap.
use Rattle.std.specs.Prelude.{ℕ, zero, suc, List, [], ◌∷◌, eqb, length, drop}
use Rattle.std.proofs.Math.Option.{Option, some, none}
use Rattle.format.specs.Reading.{pick}
use Rattle.notation.specs.Naming.{per_operator, Definition, definition_in}
use Rattle.notation.specs.OnePattern.{first_at, matches}

-- How many definitions stand inside one. They are the next ones.
abbrev pub inside : Definition → ℕ
inside d = length (per_operator definition_in d.pattern)

-- The pass over the rest, which begins at i and of which the next n are passed over.
unfoldable pub pass : (ds rest : List Definition) (i n : ℕ) → Option ℕ
pass ds [] i n = none
pass ds (d ∷ rest) i (suc n) = pass ds rest (suc i) n
pass ds (d ∷ rest) i zero =
    pick (eqb (first_at ds d.table) i) (pass ds rest (suc i) 0) (pick (matches ds d) (pass ds rest (suc i) (inside d)) (some i))

-- The pass from the definition at i on.
abbrev pub pass_from : List Definition → ℕ → Option ℕ
pass_from ds i = pass ds (drop i ds) i 0
