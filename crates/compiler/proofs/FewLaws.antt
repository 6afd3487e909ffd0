-- How many names and nodes a text has that has passed.
use Prim.Native.Nat.{ℕ, ◌≤◌, ◌<◌}
use mathlib.Core.Path.{◌≡◌, ap, sym, ◌∙◌}
use mathlib.Core.List.{List, []}
use native.Mathlib.Omega.{arith}
use lib.ListN.{length, length-map}
use Rattle.notation.specs.Tree.{Name, Production}
use Rattle.notation.specs.Lexer.{lexemes}
use Rattle.notation.specs.Naming.{names, tables, conditions}
use Rattle.notation.specs.Compile.{sorted, entry, patterns_all, compile}
use Rattle.notation.specs.BelowLaws.{size_is, one_each}
use Rattle.notation.specs.Uses.{head_of, def_of, switch_of}
use Rattle.index.specs.ListedLaws.{sorted_shorter}
use Rattle.index.specs.PlaceLaws.{names_length}
use Rattle.naming.specs.Gathered.{gathered}
use Rattle.naming.specs.GatheredLaws.{heads_gathered, tables_gathered, conditions_gathered}
use Rattle.writer.specs.Named.{names_of}
use Rattle.compiler.specs.Images.{Lists}
use Rattle.compiler.specs.Judges.{Passes}
use Rattle.compiler.proofs.RuledLaws.{held}

module _ {text : List ℕ} {ps : List Production} (p : Passes text ps) where
  pub few_productions : length ps ≤ 512
  few_productions = omega (arith, one_each ps, size_is ps, (held p).few_nodes)

  -- The names, in byte order, each once.
  names_few : length (sorted (names ps)) ≤ 512
  names_few = omega (arith, sorted_shorter (names ps), length-map ps (λ p. p.name), few_productions)

  tables_few : length (sorted (tables ps)) ≤ 8
  unfolding compile
  tables_few = omega (arith, (held p).few_tables, length-map (sorted (tables ps)) (λ t. entry t (patterns_all 0 ps)))

  switches_few : length (sorted (conditions ps)) ≤ 8
  unfolding compile
  switches_few = (held p).few_conditions

  -- So small arrays are enough for them.
  pub few_heads : length (gathered head_of [] (lexemes text)) < 513
  few_heads = rw (heads_gathered p.reading) (omega (arith, names_few))

  pub few_defs : length (gathered def_of [] (lexemes text)) < 9
  few_defs = rw (tables_gathered p.reading (held p).names_defined) (omega (arith, tables_few))

  pub few_switches : length (gathered switch_of [] (lexemes text)) < 9
  few_switches = rw (conditions_gathered p.reading) (omega (arith, switches_few))

-- ## As slices of places

-- There is a place for each name.
pub listed_length : (text at : List ℕ) {ns : List Name} → names_of text at ≡ ns → length at ≡ length ns
listed_length text at e = sym (names_length text at (length at) (omega arith)) ∙ ap length e

module _ {text heads defs switches : List ℕ} (l : Lists text heads defs switches) where
  pub listed_heads : length heads ≤ 512
  listed_heads = omega (arith, listed_length text heads l.heads_are, names_few l.passes)

  pub listed_tables : length defs ≤ 8
  listed_tables = omega (arith, listed_length text defs l.tables_are, tables_few l.passes)

  pub listed_switches : length switches ≤ 8
  listed_switches = omega (arith, listed_length text switches l.switches_are, switches_few l.passes)
