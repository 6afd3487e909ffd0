-- `add_parts` meets its promise. The loop's invariant: the parts that were passed were added. Assumes nothing.
use Rattle.std.proofs.Common.{[], ◌∷◌, map, append_assoc}
use mathlib.Core.List.{map-append}
use Rattle.notation.specs.Compile.{part_node}
use Rattle.chars.specs.Meant.{from_to}
use Rattle.writer.specs.PutLaws.{adds_on, adds_as}
use Rattle.writer.proofs.class.add_parts.Goals as goal

pub loop-p-preserved : goal.loop-p-preserved
loop-p-preserved c = let l = c.loop-p in let p = c.in-Some.p in (
  tt,
  rw (map-append from_to l.yielded (p ∷ []), append_assoc, ← c.in-Some.ensures.steps) l.invariant.1,
  adds_as (rw (map-append from_to l.yielded (p ∷ []), map-append part_node (map from_to l.yielded) (from_to p ∷ []))) (adds_on l.invariant.2 c.add_part-r.ensures),
)
