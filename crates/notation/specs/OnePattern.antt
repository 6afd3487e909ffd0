-- 23, in the order in which the definitions begin: the first whose pattern is not that of the first definition of its table.
use Rattle.std.specs.Prelude.{ℕ, suc, Bool, List, [], ◌∷◌, map, get_or}
use Rattle.std.proofs.Math.Option.{Option, some, none}
use Rattle.format.specs.Reading.{pick}
use Rattle.notation.specs.Tree.{Name, leaf, any}
use Rattle.notation.specs.Naming.{Definition, alike}
use Rattle.notation.specs.Compile.{place}

-- What stands for a definition where there is none.
abbrev pub no_definition : Definition
no_definition = record { table = []; pattern = leaf any }

-- The place of a table's first definition.
abbrev pub first_at : List Definition → Name → ℕ
first_at ds t = place t (map (λ d. d.table) ds)

-- A definition is alike to the first of its table.
abbrev pub matches : List Definition → Definition → Bool
matches ds d = alike (get_or ds (first_at ds d.table) no_definition).pattern d.pattern

-- The place of the first that fails a test, counted from i.
unfoldable pub failing : {A : Type 0} → (A → Bool) → List A → (i : ℕ) → Option ℕ
failing f [] i = none
failing f (x ∷ xs) i = pick (f x) (failing f xs (suc i)) (some i)

-- The fault: the first definition that is not alike to the first of its table.
abbrev pub fault : List Definition → Option ℕ
fault ds = failing (matches ds) ds 0
