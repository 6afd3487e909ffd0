-- Where a name stands among others.
use Rattle.std.specs.Prelude.{suc, ◌≡◌, refl, Bool, true, false, List, [], ◌∷◌, length}
use Rattle.std.proofs.Common.{ap}
use Rattle.notation.specs.Tree.{Name}
use Rattle.notation.specs.Lexer.{same}
use Rattle.notation.specs.LexicalText.{no_way}
use Rattle.notation.specs.Naming.{member}
use Rattle.notation.specs.Compile.{place}

-- A name that is none of them stands behind all.
pub place_none : (n : Name) (ns : List Name) → member n ns ≡ false → place n ns ≡ length ns
unfolding place member
place_none n [] e = refl
place_none n (m ∷ ns) e = go (same n m) refl (λ h. place_none n ns h)
  where
    go : (b : Bool) → same n m ≡ b → (member n ns ≡ false → place n ns ≡ length ns) → place n (m ∷ ns) ≡ length (m ∷ ns)
    go true q i = let z : true ≡ false = rw q at e in no_way (cc)
    go false q i = rw q (ap suc (i (rw q at e)))
