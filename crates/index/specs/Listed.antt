-- Names of a text, kept as places in an array: in byte order of the names, each name once.
use Rattle.std.specs.Prelude.{ℕ, ◌+◌, ◌-◌, ◌≤◌, ◌<◌, ◌≡◌, not, List, [], ◌∷◌, ◌++◌, map, length, take, drop, get_or, Result, Ok, Err}
use Rattle.std.specs.declared.cmp.Ordering.{Ordering}
use Rattle.std.specs.declared.cmp.Ordering.TheVariants.{Less, Equal, Greater}
use Rattle.format.specs.Reading.{pick}
use Rattle.notation.specs.Tree.{Name}
use Rattle.notation.specs.At.{name_at}
use Rattle.notation.specs.Naming.{member}
use Rattle.notation.specs.Compile.{Order, lower, equal, higher, order, insert, place}
pub use Rattle.notation.specs.OrderLaws.{Below, Ascending}
use Rattle.index.specs.declared.list.Kept.{Kept}

-- The names at the first n places of an array.
abbrev pub names_at : (text at : List ℕ) (n : ℕ) → List Name
names_at text at n = map (name_at text) (take n at)

-- The order that an answer of the code stands for.
abbrev pub order_of : Ordering → Order
order_of Less = lower
order_of Equal = equal
order_of Greater = higher

-- A name is higher than each of these.
abbrev pub Above : Name → List Name → Type 0
Above n [] = Unit
Above n (m ∷ ms) = (order n m ≡ higher) × Above n ms

-- A name stands at i.
pub record Stands (n : Name) (ns : List Name) (i : ℕ) : Type 0 where
  pub inside : i < length ns
  pub named : get_or ns i [] ≡ n

-- A name is none of these and belongs at i: it is higher than each before, and lower than each from there on.
pub record Belongs (n : Name) (ns : List Name) (i : ℕ) : Type 0 where
  pub within : i ≤ length ns
  pub before : Above n (take i ns)
  pub behind : Below n (drop i ns)

-- What a search for a name among names comes to: where it stands, or where it belongs.
abbrev pub Seeks : Name → List Name → Result ℕ ℕ → Type 0
Seeks n ns (Ok i) = Stands n ns i
Seeks n ns (Err i) = Belongs n ns i

-- An array of which the first `count` numbers count, with p put among them at an index: those from the index on have moved one up, and what
-- comes behind them is as it was, but for the one that made room.
abbrev pub put_in : (at : List ℕ) (count index p : ℕ) → List ℕ
put_in at count index p = take index at ++ p ∷ (take (count - index) (drop index at) ++ drop (count + 1) at)

-- What keeping the name at p comes to: the names after it, whether it is fresh, where it stands, and the whole array.
pub record Keeps (text at : List ℕ) (count p : ℕ) (now : List ℕ) (r : Kept) : Type 0 where
  pub names : names_at text now r.count ≡ insert (name_at text p) (names_at text at count)
  pub fresh : r.fresh ≡ not (member (name_at text p) (names_at text at count))
  pub many : r.count ≡ pick r.fresh (count + 1) count
  pub fewest : count ≤ r.count
  pub most : r.count ≤ count + 1
  pub index : r.index ≡ place (name_at text p) (insert (name_at text p) (names_at text at count))
  pub inside : r.index < r.count
  pub whole : now ≡ pick r.fresh (put_in at count r.index p) at
  pub rest : drop r.count now ≡ drop r.count at
  pub long : length now ≡ length at
