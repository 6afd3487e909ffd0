-- The front of an array that was lent and has come back.
use Prim.Native.Nat.{ℕ, ◌≤◌}
use mathlib.Core.Path.{◌≡◌, ap, sym, ◌∙◌}
use mathlib.Core.List.{List, ◌++◌}
use native.Mathlib.Omega.{arith}
use lib.ListN.{length, take, drop, length-append}
use lib.Seq.{take_at}
use Rattle.notation.specs.Tree.{Production}
use Rattle.notation.specs.Text.{ReadsAs}
use Rattle.naming.specs.Rooted.{Rooted}
use Rattle.naming.specs.declared.roots.Counted.{Counted}
use Rattle.compiler.specs.Images.{Lists, Numbers}

module _ (part whole : List ℕ) {n : ℕ} (long : length part ≡ n) where
  pub part_front : take n (part ++ drop n whole) ≡ part
  part_front = take_at part (drop n whole) n long

  pub part_within : n ≤ length (part ++ drop n whole)
  part_within = omega (arith, length-append part (drop n whole))

  pub part_count : n ≡ length (take n (part ++ drop n whole))
  part_count = sym (ap length part_front ∙ long)

-- The nodes of productions, so.
pub numbered :
    {text heads tables switches part : List ℕ} {r : Counted} (whole : List ℕ) (l : Lists text heads tables switches) → length part ≡ length heads
    → ((ps : List Production) → ReadsAs text ps → Rooted text heads part r ps)
    → Numbers text heads (take (length heads) (part ++ drop (length heads) whole)) tables switches r.start
numbered {part = part} whole l e f =
    let o = f l.productions l.passes.reading in
    rw (part_front part whole e) (record { lists = l; each = o.each; first = o.start })
