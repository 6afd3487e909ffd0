-- `run` meets its promise. Assumes nothing.
use Prim.Native.Nat.{ℕ}
use mathlib.Core.Path.{◌≡◌, refl, ap}
use mathlib.Core.List.{List, ◌++◌}
use mathlib.Core.Bool.{true}
use lib.ListN.{length, drop, replicate}
use Rattle.kinds.specs.declared.state.State.{State}
use Rattle.machine.specs.StartLaws.{has_passed}
use Rattle.yarnspire.specs.EndLaws.{start_asks, start_kept, start_ends}
use Rattle.yarnspire.proofs.run.run.Goals as goal

-- The image, and zeros behind it.
in_front : {image front : List ℕ} → front ≡ image
    → front ++ drop (length image) (replicate 16384 0) ≡ image ++ drop (length image) (replicate 16384 0)
in_front {image} e = ap (λ l. l ++ drop (length image) (replicate {A = ℕ} 16384 0)) e

abbrev outset : State
outset = record { truths = replicate 8 true; floors = replicate 8 0 }

pub inside-r-requires : goal.inside-r-requires
inside-r-requires c =
    start_asks c.requires (replicate 768 0) refl (has_passed c.passed-from.result c.passed-from.ensures) _ (in_front c.copy_from_slice.ensures.after)

pub ended-requires : goal.ended-requires
ended-requires c =
    start_kept c.requires (replicate 768 0) refl (has_passed c.passed-from.result c.passed-from.ensures) _ (in_front c.copy_from_slice.ensures.after)
    outset refl c.inside-r.ensures

pub returns : goal.returns
returns c = let q = c.ended.ensures in
    start_ends c.requires (replicate 768 0) refl (has_passed c.passed-from.result c.passed-from.ensures) _ (in_front c.copy_from_slice.ensures.after)
    outset refl c.inside-r.ensures q.0 q.1
