-- The numbers of an image's heading are small: none is over 512.
use Prim.Native.Nat.{ℕ, ◌≤◌, ◌<◌}
use mathlib.Core.List.{List, [], ◌∷◌, map}
use native.Mathlib.Omega.{arith}
use Rattle.grammar.specs.Grammar.{size}
use Rattle.notation.specs.Tree.{Name, Production}
use Rattle.notation.specs.Naming.{tables}
use Rattle.notation.specs.Compile.{entry, roots, sorted, patterns_all, compile}
use Rattle.notation.specs.BelowLaws.{size_is, entry_below, first_below, roots_below, patterns_below}
use Rattle.writer.specs.Put.{AllSmall}

map_small : (f : Name → ℕ) (ts : List Name) → ((t : Name) → f t < 513) → AllSmall (map f ts)
map_small f [] h = tt
map_small f (t ∷ ts) h = (omega (arith, h t), map_small f ts h)

module _ (ps : List Production) (few : size (compile ps) ≤ 512) where
  pub start_small : (compile ps).start < 16384
  unfolding compile
  start_small = omega (arith, first_below 513 (omega arith) (roots 0 ps) (roots_below 513 0 ps (omega (arith, size_is ps))))

  pub patterns_small : AllSmall (compile ps).patterns
  unfolding compile
  patterns_small =
      map_small (λ t. entry t (patterns_all 0 ps)) (sorted (tables ps))
      (λ t. entry_below 513 (omega arith) (patterns_all 0 ps) t (patterns_below 513 0 ps (omega (arith, size_is ps))))
