-- One more number among others.
use Rattle.std.proofs.Common.{ℕ, ◌+◌, ◌-◌, ◌≤◌, ◌<◌, ◌≡◌, List, ◌++◌, length, take, drop, get_or, set, arith, add-one, append_assoc}
use Rattle.std.proofs.Math.Seq.{length-take-le, set_at, take-suc}
use Rattle.std.specs.List.{copy_within}
use Rattle.index.specs.Listed.{put_in}

-- Those from its index on are copied one up, and it is put down there.
pub put_down : (at : List ℕ) (count index p : ℕ) → index ≤ count → count < length at
    → set (copy_within at index count (index + 1)) index p ≡ put_in at count index p
put_down at count index p h k =
    let e : index + 1 + (count - index) ≡ count + 1 = omega arith in
    let x = get_or at index 0 in
    let back = take (count - index) (drop index at) ++ drop (count + 1) at in
    let l : index < length at = omega arith in
    rw (e, add-one, take-suc at index 0) (simp append_assoc (set_at (take index at) x back p index (length-take-le index at (omega arith))))
