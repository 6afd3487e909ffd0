-- Names in byte order, each once: where a name stands or belongs among them, and how many there are.
use Prim.Native.Nat.{ℕ, zero, suc, ◌≤◌, ◌<◌}
use Rattle.std.specs.Prelude.{◌≡◌, Bool, length, take, drop, get_or}
use Rattle.std.proofs.Math.Path.{refl, ap}
use Rattle.std.proofs.Common.{◌∙◌, arith}
use Rattle.std.proofs.Math.Bool.{true, false}
use mathlib.Core.List.{List, [], ◌∷◌, ◌++◌}
use Rattle.format.specs.Reading.{pick}
use Rattle.notation.specs.Tree.{Name}
use Rattle.notation.specs.Lexer.{same}
use Rattle.notation.specs.SymbolsLaws.{same_refl}
use Rattle.notation.specs.Naming.{member}
use Rattle.notation.specs.Compile.{Order, lower, equal, higher, order, insert, sorted, place}
use Rattle.notation.specs.OrderLaws.{order_same, lower_turned, higher_turned, lower_lower, same_equal, not_same_higher, below_lower, below_member, insert_lower, insert_equal, insert_higher}
use Rattle.index.specs.Listed.{Below, Above, Ascending, Stands, Belongs}

-- ## A list in order against a name that is lower or higher than the one at a place

pub below_at : (n : Name) (ns : List Name) (i : ℕ) → i < length ns → Below n ns → order n (get_or ns i []) ≡ lower
below_at n [] i h b = absurd (omega arith)
below_at n (m ∷ ms) zero h b = b.0
below_at n (m ∷ ms) (suc i) h b = below_at n ms i (omega arith) b.1

pub lower_from : (n : Name) (ns : List Name) (i : ℕ) → i < length ns → Ascending ns → order n (get_or ns i []) ≡ lower → Below n (drop i ns)
lower_from n [] i h a e = absurd (omega arith)
lower_from n (m ∷ ms) zero h a e = (e, below_lower n m ms e a.0)
lower_from n (m ∷ ms) (suc i) h a e = lower_from n ms i (omega arith) a.1 e

pub higher_to :
    (n : Name) (ns : List Name) (i : ℕ) → i < length ns → Ascending ns → order n (get_or ns i []) ≡ higher → Above n (take (suc i) ns)
higher_to n [] i h a e = absurd (omega arith)
higher_to n (m ∷ ms) zero h a e = (e, tt)
higher_to n (m ∷ ms) (suc i) h a e =
    let k = get_or ms i [] in
    let b : order m n ≡ lower = lower_lower m k n (below_at m ms i (omega arith) a.0) (higher_turned n k e) in
    (lower_turned m n b, higher_to n ms i (omega arith) a.1 e)

-- ## A name that is not there, at the place where it belongs

module _ (n : Name) where
  goes_in : (ns : List Name) (i : ℕ) → Above n (take i ns) → Below n (drop i ns) → insert n ns ≡ take i ns ++ n ∷ drop i ns
  unfolding insert
  goes_in [] zero a b = refl
  goes_in [] (suc i) a b = refl
  goes_in (m ∷ ms) zero a b = insert_lower n m ms b.0
  goes_in (m ∷ ms) (suc i) a b = insert_higher n m ms a.0 ∙ ap (λ r. m ∷ r) (goes_in ms i a.1 b)

  is_none : (ns : List Name) (i : ℕ) → Above n (take i ns) → Below n (drop i ns) → member n ns ≡ false
  unfolding member
  is_none [] i a b = refl
  is_none (m ∷ ms) zero a b = below_member n (m ∷ ms) b
  is_none (m ∷ ms) (suc i) a b = rw (not_same_higher n m a.0) (is_none ms i a.1 b)

  comes_at : (ns : List Name) (i : ℕ) → i ≤ length ns → Above n (take i ns) → place n (take i ns ++ n ∷ drop i ns) ≡ i
  unfolding place
  comes_at [] zero h a = rw (same_refl n)
  comes_at [] (suc i) h a = absurd (omega arith)
  comes_at (m ∷ ms) zero h a = rw (same_refl n)
  comes_at (m ∷ ms) (suc i) h a = rw (not_same_higher n m a.0) (ap suc (comes_at ms i (omega arith) a.1))

  module _ (ns : List Name) (i : ℕ) (b : Belongs n ns i) where
    pub belongs_insert : insert n ns ≡ take i ns ++ n ∷ drop i ns
    belongs_insert = goes_in ns i b.before b.behind

    pub belongs_member : member n ns ≡ false
    belongs_member = is_none ns i b.before b.behind

    pub belongs_place : place n (insert n ns) ≡ i
    belongs_place = ap (place n) belongs_insert ∙ comes_at ns i b.within b.before

-- ## A name that stands at a place

module _ (n : Name) where
  is_equal : (m : Name) → m ≡ n → order n m ≡ equal
  is_equal m e = rw e (order_same n)

  later_higher : (m : Name) (ms : List Name) (i : ℕ) → i < length ms → Below m ms → get_or ms i [] ≡ n → order n m ≡ higher
  later_higher m ms i h b e = lower_turned m n (rw e at (below_at m ms i h b))

  goes_nowhere : (ns : List Name) (i : ℕ) → i < length ns → get_or ns i [] ≡ n → Ascending ns → insert n ns ≡ ns
  goes_nowhere [] i h e a = absurd (omega arith)
  goes_nowhere (m ∷ ms) zero h e a = insert_equal n m ms (is_equal m e)
  goes_nowhere (m ∷ ms) (suc i) h e a =
      insert_higher n m ms (later_higher m ms i (omega arith) a.0 e)
      ∙ ap (λ r. m ∷ r) (goes_nowhere ms i (omega arith) e a.1)

  is_one : (ns : List Name) (i : ℕ) → i < length ns → get_or ns i [] ≡ n → member n ns ≡ true
  unfolding member
  is_one [] i h e = absurd (omega arith)
  is_one (m ∷ ms) zero h e = rw (same_equal n m (is_equal m e))
  is_one (m ∷ ms) (suc i) h e = go (same n m) (is_one ms i (omega arith) e)
    where
      go : (t : Bool) → member n ms ≡ true → pick t true (member n ms) ≡ true
      go true f = refl
      go false f = f

  is_at : (ns : List Name) (i : ℕ) → i < length ns → get_or ns i [] ≡ n → Ascending ns → place n ns ≡ i
  unfolding place
  is_at [] i h e a = absurd (omega arith)
  is_at (m ∷ ms) zero h e a = rw (same_equal n m (is_equal m e))
  is_at (m ∷ ms) (suc i) h e a =
      rw (not_same_higher n m (later_higher m ms i (omega arith) a.0 e)) (ap suc (is_at ms i (omega arith) e a.1))

  module _ (ns : List Name) (i : ℕ) (s : Stands n ns i) where
    pub stands_member : member n ns ≡ true
    stands_member = is_one ns i s.inside s.named

    pub stands_insert : Ascending ns → insert n ns ≡ ns
    stands_insert = goes_nowhere ns i s.inside s.named

    pub stands_place : Ascending ns → place n ns ≡ i
    stands_place = is_at ns i s.inside s.named

-- ## How many

insert_shorter : (n : Name) (ns : List Name) → length (insert n ns) ≤ suc (length ns)
unfolding insert
insert_shorter n [] = omega arith
insert_shorter n (m ∷ ms) = go (order n m) refl (insert_shorter n ms)
  where
    go : (o : Order) → order n m ≡ o → length (insert n ms) ≤ suc (length ms) → length (insert n (m ∷ ms)) ≤ suc (suc (length ms))
    go lower q i = rw (insert_lower n m ms q) (omega arith)
    go equal q i = rw (insert_equal n m ms q) (omega arith)
    go higher q i = rw (insert_higher n m ms q) (omega arith)

pub sorted_shorter : (ns : List Name) → length (sorted ns) ≤ length ns
unfolding sorted
sorted_shorter [] = omega arith
sorted_shorter (n ∷ ns) = omega (arith, insert_shorter n (sorted ns), sorted_shorter ns)
