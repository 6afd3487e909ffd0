-- A search by halves among names in order.
use Rattle.std.proofs.Common.{ℕ, ◌+◌, ◌≤◌, ◌<◌, ◌≡◌, ap, sym, ◌∙◌, List, [], length, take, drop, get_or, arith, add-one}
use Rattle.std.proofs.Math.ListN.{drop_of_length-le}
use Rattle.std.specs.declared.cmp.Ordering.{Ordering}
use Rattle.notation.specs.Tree.{Name}
use Rattle.notation.specs.At.{name_at}
use Rattle.notation.specs.Compile.{lower, equal, higher, order}
use Rattle.notation.specs.OrderLaws.{equal_iff_same}
use Rattle.index.specs.Listed.{names_at, order_of, Below, Above, Ascending, Stands, Belongs}
use Rattle.index.specs.ListedLaws.{lower_from, higher_to}
use Rattle.index.specs.PlaceLaws.{names_at_lem}

-- What is left to look at: the name is higher than each one before low, and lower than each one from high on.
pub record Left (n : Name) (ns : List Name) (low high : ℕ) : Type 0 where
  pub ordered : low ≤ high
  pub within : high ≤ length ns
  pub before : Above n (take low ns)
  pub behind : Below n (drop high ns)

module _ (n : Name) (ns : List Name) where
  pub left_all : {high : ℕ} → high ≡ length ns → Left n ns 0 high
  left_all {high} e =
      let h : length ns ≤ high = omega arith in
      record { ordered = omega arith; within = omega arith; before = tt; behind = rw (drop_of_length-le ns h) tt }

  pub left_none : {low high : ℕ} → high ≤ low → Left n ns low high → Belongs n ns low
  left_none {low} {high} h l =
      let e : high ≡ low = omega (arith, l.ordered) in record { within = omega (arith, l.within); before = l.before; behind = rw e at l.behind }

  module _ {low high : ℕ} (l : Left n ns low high) (a : Ascending ns) (i : ℕ) (h : low ≤ i) (k : i < high) where
    pub left_below : order n (get_or ns i []) ≡ lower → Left n ns low i
    left_below e = record {
      ordered = h;
      within = omega (arith, l.within);
      before = l.before;
      behind = lower_from n ns i (omega (arith, l.within)) a e;
    }

    pub left_above : order n (get_or ns i []) ≡ higher → Left n ns (i + 1) high
    left_above e = record {
      ordered = omega arith;
      within = l.within;
      before = rw add-one (higher_to n ns i (omega (arith, l.within)) a e);
      behind = l.behind;
    }

    pub left_here : order n (get_or ns i []) ≡ equal → Stands n ns i
    left_here e = record { inside = omega (arith, l.within); named = sym ((equal_iff_same n (get_or ns i [])).0 e) }

-- How the name at p stands to the one at an index, by the answer about its place.
pub compared : {o : Ordering} (text at : List ℕ) (p i w : ℕ) (k : Ordering) → o ≡ k → i < length at → w ≡ get_or at i 0 → order_of o ≡ order (name_at text p) (name_at text w)
    → order (name_at text p) (get_or (names_at text at (length at)) i []) ≡ order_of k
compared text at p i w k is below e f =
    ap (order (name_at text p)) (names_at_lem text at (length at) (omega arith) i below ∙ ap (name_at text) (sym e)) ∙ sym f ∙ ap order_of is
