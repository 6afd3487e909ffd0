-- `finish` meets its promise. Assumes nothing.
use Prim.Native.Nat.{ℕ, ◌≤◌}
use mathlib.Core.List.{List}
use mathlib.Core.Path.{◌≡◌, refl, sym, ◌∙◌}
use lib.ListN.{length, take, replicate}
use lib.Seq.{length-take-le}
use Rattle.compiler.proofs.FewLaws.{listed_tables}
use Rattle.compiler.proofs.PartLaws.{part_within, part_count}
use Rattle.compiler.proofs.EmitLaws.{ready, makes}
use Rattle.compiler.proofs.image.finish.Goals as goal

-- The front of the array has a place for each table's pattern.
patterns_long : (tables : List ℕ) → length tables ≤ 8 → length {A = ℕ} (take (length tables) (replicate 8 0)) ≡ length tables
patterns_long tables few = length-take-le (length tables) (replicate 8 0) few

pub slice_bounds-patterns-end : goal.slice_bounds-patterns-end
slice_bounds-patterns-end c = listed_tables c.requires.1.lists

pub slice_bounds-emit-end-2 : goal.slice_bounds-emit-end-2
slice_bounds-emit-end-2 c = sym (patterns_long c.args.names.tables.now (listed_tables c.requires.1.lists))

pub emit-made-requires : goal.emit-made-requires
emit-made-requires c = record { ready = ready c.requires.1 c.requires.0; lengths = (refl, patterns_long c.args.names.tables.now (listed_tables c.requires.1.lists), refl) }

pub slice_bounds-patterns-end-2 : goal.slice_bounds-patterns-end-2
slice_bounds-patterns-end-2 c = part_within c.emit-made.new.patterns (replicate 8 0) (c.emit-made.auto.patterns ∙ patterns_long c.args.names.tables.now (listed_tables c.requires.1.lists))

pub slice_bounds-conclude-end-2 : goal.slice_bounds-conclude-end-2
slice_bounds-conclude-end-2 c = part_count c.emit-made.new.patterns (replicate 8 0) (c.emit-made.auto.patterns ∙ patterns_long c.args.names.tables.now (listed_tables c.requires.1.lists))

pub conclude-requires : goal.conclude-requires
conclude-requires c = (c.requires.0, makes c.requires.1 (replicate 8 0) (c.emit-made.auto.patterns ∙ patterns_long c.args.names.tables.now (listed_tables c.requires.1.lists)) c.emit-made.auto.ends c.emit-made.ensures)
