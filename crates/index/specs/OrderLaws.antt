-- The order of names is the library's order of bytes.
use Rattle.std.specs.Prelude.{◌≡◌, refl, [], ◌∷◌}
use Rattle.std.proofs.Common.{ap, sym, ◌∙◌}
use Rattle.std.specs.Ordering.{nat_cmp}
use Rattle.std.specs.Cmp.{nat_cmp_is}
use Rattle.std.specs.Cmp.Lexicographic.{slice_cmp}
use Rattle.std.specs.declared.cmp.Ordering.{Ordering}
use Rattle.std.specs.declared.cmp.Ordering.TheVariants.{Less, Equal, Greater}
use Rattle.notation.specs.Tree.{Name}
use Rattle.notation.specs.Compile.{Order, lower, equal, higher, order}
use Rattle.notation.specs.OrderLaws.{by_rest, by_lower, by_higher, Decided, first_lower, first_same, first_higher, decided}
use Rattle.index.specs.Listed.{order_of}

pub order_is : (n m : Name) → order n m ≡ order_of (slice_cmp nat_cmp n m)
unfolding order
order_is [] [] = refl
order_is [] (y ∷ ys) = refl
order_is (x ∷ xs) [] = refl
order_is (x ∷ xs) (y ∷ ys) = go (decided x xs y ys) (order_is xs ys)
  where
    go : Decided x xs y ys → order xs ys ≡ order_of (slice_cmp nat_cmp xs ys) → order (x ∷ xs) (y ∷ ys) ≡ order_of (slice_cmp nat_cmp (x ∷ xs) (y ∷ ys))
    go (first_lower h) i = by_lower x xs y ys h ∙ rw (← nat_cmp_is x y Less h) refl
    go (first_same q) i = by_rest x xs y ys q ∙ i ∙ rw (← nat_cmp_is x y Equal q) refl
    go (first_higher h) i = by_higher x xs y ys h ∙ rw (← nat_cmp_is x y Greater h) refl

-- So an answer of the code that stands for their order is the library's.
abbrev answer_of : Order → Ordering
answer_of lower = Less
answer_of equal = Equal
answer_of higher = Greater

answers : (o : Ordering) → answer_of (order_of o) ≡ o
answers Less = refl
answers Equal = refl
answers Greater = refl

pub answer_is : {o : Ordering} (n m : Name) → order_of o ≡ order n m → o ≡ slice_cmp nat_cmp n m
answer_is {o} n m e = sym (answers o) ∙ ap answer_of (e ∙ order_is n m) ∙ answers (slice_cmp nat_cmp n m)

module _ {o : Ordering} where
  pub is_lower : o ≡ Less → order_of o ≡ lower
  is_lower e = ap order_of e

  pub is_equal : o ≡ Equal → order_of o ≡ equal
  is_equal e = ap order_of e

  pub is_higher : (o ≡ Less → ⊥) → (o ≡ Equal → ⊥) → order_of o ≡ higher
  is_higher = go o
    where
      go : (o : Ordering) → (o ≡ Less → ⊥) → (o ≡ Equal → ⊥) → order_of o ≡ higher
      go Less e f = absurd (e refl)
      go Equal e f = absurd (f refl)
      go Greater e f = refl
