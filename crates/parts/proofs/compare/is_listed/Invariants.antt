-- `is_listed` meets its promise. The loop's invariant: the whole list has such a symbol exactly if what is left of it has one. Assumes nothing.
use Prim.Native.Nat.{◌-◌}
use mathlib.Core.Path.{◌≡◌}
use lib.ListN.{take, drop}
use Rattle.parts.specs.Seen.{found_in}
use Rattle.parts.proofs.compare.is_listed.Given as goal

abbrev pub invariant-loop-number : goal.invariant-loop-number
invariant-loop-number l = let bytes = take (l.to - l.at) (drop l.at l.input) in
    found_in l.input bytes l.table l.low l.slots l.held ≡ found_in l.input bytes l.table l.low l.slots l.number
