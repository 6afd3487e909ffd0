-- Byte order is a strict total order on names: two are equal in it exactly if they are the same, it turns round with its names, and it is transitive.
-- `insert` and `sorted` keep it, and what is sorted goes by the members alone.
use Rattle.std.specs.Prelude.{ℕ, ◌<◌, ◌≡◌, refl, Bool, true, false, ◌↔◌, List, [], ◌∷◌, ◌++◌, eqb, ltb}
use Rattle.std.proofs.Common.{ap, sym, ◌∙◌, arith}
use borrow.Author.Tests.{eq-eqb, ne_eqb, eqb-true, eqb-false, lt-ltb, le-ltb, ltb-true, ltb-false}
use Rattle.notation.specs.Tree.{Name}
use Rattle.notation.specs.Lexer.{same}
use Rattle.notation.specs.LexicalText.{no_way}
use Rattle.notation.specs.LexicalToken.{same_true}
use Rattle.notation.specs.SymbolsLaws.{same_refl}
use Rattle.notation.specs.Naming.{member, distinct}
use Rattle.notation.specs.Compile.{Order, lower, equal, higher, order, insert, sorted}
use Rattle.notation.specs.CompileLaws.{member-here}
use Rattle.notation.specs.MemberLaws.{either, member-append, SameMembers}

-- ## The first byte decides, or the rest does

module _ (x : ℕ) (xs : Name) (y : ℕ) (ys : Name) where
  pub by_rest : x ≡ y → order (x ∷ xs) (y ∷ ys) ≡ order xs ys
  unfolding order
  by_rest e = rw (eq-eqb x y e)

  pub by_lower : x < y → order (x ∷ xs) (y ∷ ys) ≡ lower
  unfolding order
  by_lower h = rw (ne_eqb x y (λ z. omega arith), lt-ltb x y h)

  pub by_higher : y < x → order (x ∷ xs) (y ∷ ys) ≡ higher
  unfolding order
  by_higher h = rw (ne_eqb x y (λ z. omega arith), le-ltb x y (omega arith))

  -- Which of the three it is.
  pub data Decided : Type 0 where
    first_lower : x < y → Decided
    first_same : x ≡ y → Decided
    first_higher : y < x → Decided

  pub decided : Decided
  decided = go (eqb x y) (ltb x y) refl refl
    where
      go : (b c : Bool) → eqb x y ≡ b → ltb x y ≡ c → Decided
      go true c q r = first_same (eqb-true x y q)
      go false true q r = first_lower (ltb-true x y r)
      go false false q r = first_higher (let d = eqb-false x y q in let h = ltb-false x y r in omega arith)

-- ## Equal exactly if the same

pub order_same : (n : Name) → order n n ≡ equal
unfolding order
order_same [] = refl
order_same (x ∷ xs) = by_rest x xs x xs refl ∙ order_same xs

equal_same : (n m : Name) → order n m ≡ equal → n ≡ m
unfolding order
equal_same [] [] e = refl
equal_same [] (y ∷ ys) e = no_way (cc)
equal_same (x ∷ xs) [] e = no_way (cc)
equal_same (x ∷ xs) (y ∷ ys) e = go (decided x xs y ys) (λ h. equal_same xs ys h)
  where
    go : Decided x xs y ys → (order xs ys ≡ equal → xs ≡ ys) → x ∷ xs ≡ y ∷ ys
    go (first_lower h) f = let z = by_lower x xs y ys h in no_way (cc)
    go (first_same q) f = let w = f (sym (by_rest x xs y ys q) ∙ e) in cc
    go (first_higher h) f = let z = by_higher x xs y ys h in no_way (cc)

pub equal_iff_same : (n m : Name) → (order n m ≡ equal) ↔ (n ≡ m)
equal_iff_same n m = (equal_same n m, λ e. rw e (order_same m))

-- ## Turned round

abbrev pub turned : Order → Order
turned lower = higher
turned equal = equal
turned higher = lower

pub order_turned : (n m : Name) → order m n ≡ turned (order n m)
unfolding order
order_turned [] [] = refl
order_turned [] (y ∷ ys) = refl
order_turned (x ∷ xs) [] = refl
order_turned (x ∷ xs) (y ∷ ys) = go (decided x xs y ys) (order_turned xs ys)
  where
    go : Decided x xs y ys → order ys xs ≡ turned (order xs ys) → order (y ∷ ys) (x ∷ xs) ≡ turned (order (x ∷ xs) (y ∷ ys))
    go (first_lower h) i = by_higher y ys x xs h ∙ sym (ap turned (by_lower x xs y ys h))
    go (first_same q) i = by_rest y ys x xs (sym q) ∙ i ∙ sym (ap turned (by_rest x xs y ys q))
    go (first_higher h) i = by_lower y ys x xs h ∙ sym (ap turned (by_higher x xs y ys h))

module _ (n m : Name) where
  pub lower_turned : order n m ≡ lower → order m n ≡ higher
  lower_turned e = order_turned n m ∙ ap turned e

  pub higher_turned : order n m ≡ higher → order m n ≡ lower
  higher_turned e = order_turned n m ∙ ap turned e

-- ## Transitive

pub lower_lower : (n m k : Name) → order n m ≡ lower → order m k ≡ lower → order n k ≡ lower
unfolding order
lower_lower n [] [] e f = no_way (cc)
lower_lower [] [] (z ∷ zs) e f = no_way (cc)
lower_lower (x ∷ xs) [] (z ∷ zs) e f = no_way (cc)
lower_lower n (y ∷ ys) [] e f = no_way (cc)
lower_lower [] (y ∷ ys) (z ∷ zs) e f = refl
lower_lower (x ∷ xs) (y ∷ ys) (z ∷ zs) e f = go (decided x xs y ys) (decided y ys z zs) (λ g h. lower_lower xs ys zs g h)
  where
    go : Decided x xs y ys → Decided y ys z zs → (order xs ys ≡ lower → order ys zs ≡ lower → order xs zs ≡ lower)
        → order (x ∷ xs) (z ∷ zs) ≡ lower
    go (first_higher h) d i = let w = by_higher x xs y ys h in no_way (cc)
    go (first_lower h) (first_higher k) i = let w = by_higher y ys z zs k in no_way (cc)
    go (first_same h) (first_higher k) i = let w = by_higher y ys z zs k in no_way (cc)
    go (first_lower h) (first_lower k) i = by_lower x xs z zs (omega arith)
    go (first_lower h) (first_same k) i = by_lower x xs z zs (omega arith)
    go (first_same h) (first_lower k) i = by_lower x xs z zs (omega arith)
    go (first_same h) (first_same k) i =
        by_rest x xs z zs (h ∙ k) ∙ i (sym (by_rest x xs y ys h) ∙ e) (sym (by_rest y ys z zs k) ∙ f)

-- ## Against `same`

module _ (n m : Name) where
  pub same_equal : order n m ≡ equal → same n m ≡ true
  same_equal e = rw (equal_same n m e) (same_refl m)

  not_same : (order n m ≡ equal → ⊥) → same n m ≡ false
  not_same d = go (same n m) refl
    where
      go : (b : Bool) → same n m ≡ b → b ≡ false
      go true q = absurd (d ((equal_iff_same n m).1 (same_true n m q)))
      go false q = refl

  pub not_same_lower : order n m ≡ lower → same n m ≡ false
  not_same_lower e = not_same (λ f. no_way (cc))

  pub not_same_higher : order n m ≡ higher → same n m ≡ false
  not_same_higher e = not_same (λ f. no_way (cc))

-- ## Names in order

-- A name is lower than each of these.
abbrev pub Below : Name → List Name → Type 0
Below n [] = Unit
Below n (m ∷ ms) = (order n m ≡ lower) × Below n ms

-- Each name is lower than every later one.
abbrev pub Ascending : List Name → Type 0
Ascending [] = Unit
Ascending (n ∷ ns) = Below n ns × Ascending ns

pub below_lower : (n m : Name) (ms : List Name) → order n m ≡ lower → Below m ms → Below n ms
below_lower n m [] e b = tt
below_lower n m (k ∷ ks) e b = (lower_lower n m k e b.0, below_lower n m ks e b.1)

pub below_member : (n : Name) (ns : List Name) → Below n ns → member n ns ≡ false
unfolding member
below_member n [] b = refl
below_member n (m ∷ ms) b = rw (not_same_lower n m b.0) (below_member n ms b.1)

-- ## What `insert` does at the front

module _ (n m : Name) (ms : List Name) where
  pub insert_lower : order n m ≡ lower → insert n (m ∷ ms) ≡ n ∷ m ∷ ms
  unfolding insert
  insert_lower e = rw (e, insert)

  pub insert_equal : order n m ≡ equal → insert n (m ∷ ms) ≡ m ∷ ms
  unfolding insert
  insert_equal e = rw (e, insert)

  pub insert_higher : order n m ≡ higher → insert n (m ∷ ms) ≡ m ∷ insert n ms
  unfolding insert
  insert_higher e = rw (e, insert)

-- ## `insert` and `sorted` keep the order

below_insert : (k n : Name) (ns : List Name) → order k n ≡ lower → Below k ns → Below k (insert n ns)
unfolding insert
below_insert k n [] e b = (e, tt)
below_insert k n (m ∷ ms) e b = go (order n m) refl (below_insert k n ms e b.1)
  where
    go : (o : Order) → order n m ≡ o → Below k (insert n ms) → Below k (insert n (m ∷ ms))
    go lower q i = rw (insert_lower n m ms q) (e, b)
    go equal q i = rw (insert_equal n m ms q) b
    go higher q i = rw (insert_higher n m ms q) (b.0, i)

pub insert_ascending : (n : Name) (ns : List Name) → Ascending ns → Ascending (insert n ns)
unfolding insert
insert_ascending n [] a = (tt, tt)
insert_ascending n (m ∷ ms) a = go (order n m) refl (insert_ascending n ms a.1)
  where
    go : (o : Order) → order n m ≡ o → Ascending (insert n ms) → Ascending (insert n (m ∷ ms))
    go lower q i = rw (insert_lower n m ms q) ((q, below_lower n m ms q a.0), a)
    go equal q i = rw (insert_equal n m ms q) a
    go higher q i = rw (insert_higher n m ms q) (below_insert m n ms (higher_turned n m q) a.0, i)

pub sorted_ascending : (ns : List Name) → Ascending (sorted ns)
unfolding sorted
sorted_ascending [] = tt
sorted_ascending (n ∷ ns) = insert_ascending n (sorted ns) (sorted_ascending ns)

-- ## What is sorted has the same members

either_twice : (a b : Bool) → either a (either a b) ≡ either a b
either_twice true b = refl
either_twice false b = refl

either_turned : (a b c : Bool) → either a (either b c) ≡ either b (either a c)
either_turned true true c = refl
either_turned true false c = refl
either_turned false b c = refl

pub member-insert : (t n : Name) (ms : List Name) → member t (insert n ms) ≡ either (same t n) (member t ms)
unfolding insert member
member-insert t n [] = refl
member-insert t n (m ∷ ms) = go (order n m) refl (member-insert t n ms)
  where
    go : (o : Order) → order n m ≡ o → member t (insert n ms) ≡ either (same t n) (member t ms)
        → member t (insert n (m ∷ ms)) ≡ either (same t n) (member t (m ∷ ms))
    go lower q i = rw (insert_lower n m ms q)
    go equal q i = rw (insert_equal n m ms q, (equal_iff_same n m).0 q) (sym (either_twice (same t m) (member t ms)))
    go higher q i = rw (insert_higher n m ms q, i) (either_turned (same t m) (same t n) (member t ms))

pub sorted_member : (t : Name) (ns : List Name) → member t (sorted ns) ≡ member t ns
unfolding sorted member
sorted_member t [] = refl
sorted_member t (n ∷ ns) = member-insert t n (sorted ns) ∙ ap (λ b. either (same t n) b) (sorted_member t ns)

-- And each of them once.
pub ascending_distinct : (ns : List Name) → Ascending ns → distinct ns ≡ true
unfolding distinct
ascending_distinct [] a = refl
ascending_distinct (n ∷ ns) a = rw (below_member n ns a.0) (ascending_distinct ns a.1)

pub sorted_distinct : (ns : List Name) → distinct (sorted ns) ≡ true
sorted_distinct ns = ascending_distinct (sorted ns) (sorted_ascending ns)

-- ## A list in order is told by its members

-- Behind its first name.
members_on : (m n : Name) (ms ns : List Name) → Below n ms → Below n ns → member m (n ∷ ms) ≡ member m (n ∷ ns) → member m ms ≡ member m ns
unfolding member
members_on m n ms ns a b e = go (same m n) refl
  where
    go : (t : Bool) → same m n ≡ t → member m ms ≡ member m ns
    go true q = rw (same_true m n q) (below_member n ms a ∙ sym (below_member n ns b))
    go false q = rw q at e

pub told_by_members : (ms ns : List Name) → Ascending ms → Ascending ns → SameMembers ms ns → ms ≡ ns
unfolding member
told_by_members [] [] a b e = refl
told_by_members [] (n ∷ ns) a b e = let z = e n in let w = member-here n ns in no_way (cc)
told_by_members (m ∷ ms) [] a b e = let z = e m in let w = member-here m ms in no_way (cc)
told_by_members (m ∷ ms) (n ∷ ns) a b e = go (order m n) refl (told_by_members ms ns a.1 b.1)
  where
    go : (o : Order) → order m n ≡ o → (((k : Name) → member k ms ≡ member k ns) → ms ≡ ns) → m ∷ ms ≡ n ∷ ns
    go lower q f =
        let z = e m in let w = member-here m ms in
        let v = below_member m (n ∷ ns) (q, below_lower m n ns q b.0) in no_way (cc)
    go equal q f =
        let s = (equal_iff_same m n).0 q in
        let r = f (λ k. members_on k m ms ns a.0 (rw s b.0) (e k ∙ ap (λ x. member k (x ∷ ns)) (sym s))) in cc
    go higher q f =
        let t = higher_turned m n q in
        let z = e n in let w = member-here n ns in
        let v = below_member n (m ∷ ms) (t, below_lower n m ms t a.0) in no_way (cc)

-- WHAT IS SORTED GOES BY THE MEMBERS ALONE.
pub sorted_members : (xs ys : List Name) → SameMembers xs ys → sorted xs ≡ sorted ys
sorted_members xs ys h =
    told_by_members (sorted xs) (sorted ys) (sorted_ascending xs) (sorted_ascending ys)
    (λ n. sorted_member n xs ∙ h n ∙ sym (sorted_member n ys))

-- So a name that is added at the end is put in.
pub sorted_added : (n : Name) (ns : List Name) → sorted (ns ++ (n ∷ [])) ≡ insert n (sorted ns)
unfolding sorted member
sorted_added n ns = sorted_members (ns ++ (n ∷ [])) (n ∷ ns) (λ m. member-append m ns (n ∷ []) ∙ turn (member m ns) (same m n))
  where
    turn : (a b : Bool) → either a (either b false) ≡ either b a
    turn true true = refl
    turn true false = refl
    turn false true = refl
    turn false false = refl
