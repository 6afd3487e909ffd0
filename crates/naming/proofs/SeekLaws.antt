-- What a search among names comes to.
use Rattle.std.proofs.Common.{ℕ, ◌≡◌, refl, sym, true, List, Result, Ok, Err}
use Rattle.std.specs.Result.{is_ok, IsOk}
use Rattle.notation.specs.LexicalText.{no_way}
use Rattle.notation.specs.Tree.{Name}
use Rattle.notation.specs.Naming.{member}
use Rattle.notation.specs.Compile.{place}
use Rattle.index.specs.Listed.{Ascending, Stands, Seeks}
use Rattle.index.specs.ListedLaws.{stands_member, stands_place, belongs_member}

-- It says whether the name is one of them; and if it is one, it is found.
module _ (n : Name) (ns : List Name) where
  pub seeks_member : (r : Result ℕ ℕ) → Seeks n ns r → is_ok r ≡ member n ns
  seeks_member (Ok i) S = sym (stands_member n ns i S)
  seeks_member (Err i) B = sym (belongs_member n ns i B)

  pub seeks_ok : member n ns ≡ true → (r : Result ℕ ℕ) → Seeks n ns r → IsOk r
  seeks_ok m (Ok i) S = refl
  seeks_ok m (Err i) B = let z = belongs_member n ns i B in no_way (cc)

  module _ {r : Result ℕ ℕ} {i : ℕ} (S : Seeks n ns r) (e : r ≡ Ok i) where
    stands : Stands n ns i
    stands = rw e at S

    pub seeks_place : Ascending ns → i ≡ place n ns
    seeks_place a = sym (stands_place n ns i stands a)
