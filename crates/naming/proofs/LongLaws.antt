-- Quoted texts past their limit.
use Prim.Native.Nat.{ℕ}
use mathlib.Core.Path.{◌≡◌, refl, sym}
use mathlib.Core.Bool.{Bool, true, false}
use mathlib.Core.List.{List, [], ◌∷◌}
use lib.Dec.{leb, ltb}
use lib.ListN.{length, drop}
use borrow.Author.Tests.{lt-ltb, le-ltb, leb-true, leb-false}
use Rattle.format.specs.Reading.{pick}
use Rattle.notation.specs.Tree.{Part}
use Rattle.notation.specs.At.{quoted_of, parts_of, class_of}
use Rattle.notation.specs.Token.{leaf}
use Rattle.notation.specs.Naming.{all}
use Rattle.notation.specs.Places.{long}
use Rattle.lexer.specs.declared.token.Token.{Token}
use Rattle.lexer.specs.declared.token.Kind.{Kind}
use Rattle.lexer.specs.declared.token.Leaf.TheVariants as Leaf
use Rattle.lexer.specs.Meant.{leaf_at, opener_at, meant_by, meant}

module _ (text : List ℕ) (t : Token) where
  pub long_here : t.kind ≡ Kind.Leaf Leaf.Quoted → long (meant text t) ≡ ltb 64 (length (quoted_of (drop t.start text)))
  unfolding meant_by leaf_at all
  long_here e = rw e (go (leb (length x) 64) refl)
    where
      x : List ℕ
      x = quoted_of (drop t.start text)

      go : (b : Bool) → leb (length x) 64 ≡ b → pick (pick (leb (length x) 64) true false) false true ≡ ltb 64 (length x)
      go true q = rw q (sym (le-ltb 64 (length x) (leb-true (length x) 64 q)))
      go false q = rw q (sym (lt-ltb 64 (length x) (leb-false (length x) 64 q)))

  class_short : (ps : List Part) → long (leaf (class_of ps)) ≡ false
  unfolding class_of all
  class_short [] = refl
  class_short (p ∷ ps) = refl

  others : (k : Kind) → (k ≡ Kind.Leaf Leaf.Quoted → ⊥) → long (meant_by text t k) ≡ false
  unfolding meant_by leaf_at opener_at all
  others (Kind.Leaf Leaf.Quoted) n = absurd (n refl)
  others (Kind.Leaf Leaf.Class) n = class_short (parts_of (drop t.start text))
  others (Kind.Leaf l) n = refl
  others (Kind.Opens o) n = refl
  others k n = refl

  pub short_other : (t.kind ≡ Kind.Leaf Leaf.Quoted → ⊥) → long (meant text t) ≡ false
  short_other = others t.kind
