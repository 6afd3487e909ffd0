-- `one_pattern` meets its promise. The loop's invariant: the pass has come to the defs from here on. Assumes nothing.
use mathlib.Core.Path.{◌≡◌}
use lib.ListN.{length}
use Rattle.patterns.specs.Passed.{Passes}
use Rattle.patterns.proofs.OneLaws.{defs_left}
use Rattle.patterns.proofs.one.one_pattern.Given as goal

abbrev pub invariant-loop-t : goal.invariant-loop-t
invariant-loop-t l = (goal.iterator-loop-t).can_next l.t-iterator × (goal.iterator-loop-t).is_finite l.t-iterator × (l.t-iterator.text.now ≡ l.text)
    × Passes l.text l.latest l.pass.count l.pass.over (defs_left l.t-iterator) × (length l.left ≡ 65536) × (length l.right ≡ 65536)
