-- What was put down in two goes was put down in one; how long numbers are.
use Rattle.std.specs.Prelude.{ℕ, zero, suc, ◌+◌, ◌*◌, ◌/◌, ◌%◌, ◌≤◌, ◌<◌, ◌≡◌, refl, Bool, true, false, List, [], ◌∷◌, ◌++◌, ltb, length, take, get_or, set}
use Rattle.std.proofs.Common.{ap, sym, ◌∙◌, append_assoc, append-nil, arith, add-one, div-add-mod', length-append, length-set, take-suc, take-suc-set, ltb-true, ltb-false, lt-ltb, le-ltb, take_all}
use Rattle.format.specs.Reading.{pick}
use Rattle.format.specs.Number.{two_groups, groups}
use Rattle.format.specs.Written.{written, numbers, encode_node}
use Rattle.grammar.specs.Expr.{Expr, Text}
use Rattle.writer.specs.declared.node.Made.{Made}
use Rattle.writer.specs.Put.{Wrote, AllSmall, Room, Adds}

-- ## Bytes

pub wrote_none : (was : List ℕ) (at : ℕ) → Wrote was at was at []
wrote_none was at = record { front = sym (append-nil (take at was)); place = omega arith; long = refl }

pub wrote_byte : (was : List ℕ) (at b : ℕ) → at < length was → Wrote was at (set was at b) (at + 1) (b ∷ [])
wrote_byte was at b h = record { front = rw (add-one at) (take-suc-set was at b h); place = refl; long = length-set was at b }

pub wrote_on :
    {was mid now : List ℕ} {at i next : ℕ} {xs ys : List ℕ} → Wrote was at mid i xs → Wrote mid i now next ys → Wrote was at now next (xs ++ ys)
wrote_on {was} {mid} {now} {at} {i} {next} {xs} {ys} f g = record {
  front = g.front ∙ ap (λ l. l ++ ys) f.front ∙ append_assoc (take at was) xs ys;
  place = omega (arith, f.place, g.place, length-append xs ys);
  long = g.long ∙ f.long;
}

pub wrote_as : {was now : List ℕ} {at next : ℕ} {xs ys : List ℕ} → xs ≡ ys → Wrote was at now next xs → Wrote was at now next ys
wrote_as e w = rw e at w

pub written_on : {A : Type 0} (w : A → List ℕ) (xs ys : List A) → written w (xs ++ ys) ≡ written w xs ++ written w ys
written_on w [] ys = refl
written_on w (x ∷ xs) ys = ap (λ l. w x ++ l) (written_on w xs ys) ∙ sym (append_assoc (w x) (written w xs) (written w ys))

-- ## Numbers

two_most : (n : ℕ) → length (two_groups n) ≤ 2
two_most n = go (ltb n 128)
  where
    go : (b : Bool) → length (pick b (n ∷ []) ((n % 128 + 128) ∷ n / 128 ∷ [])) ≤ 2
    go true = omega arith
    go false = omega arith

pub groups_most : (n : ℕ) → length (groups n) ≤ 3
groups_most n = go (ltb n 128)
  where
    go : (b : Bool) → length (pick b (n ∷ []) ((n % 128 + 128) ∷ two_groups (n / 128))) ≤ 3
    go true = omega arith
    go false = omega (arith, two_most (n / 128))

module _ (n : ℕ) where
  two_small : n < 128 → two_groups n ≡ n ∷ []
  two_small h = rw (lt-ltb n 128 h)

  groups_small : n < 128 → groups n ≡ n ∷ []
  groups_small h = rw (lt-ltb n 128 h)

  groups_large : 128 ≤ n → groups n ≡ (n % 128 + 128) ∷ two_groups (n / 128)
  groups_large h = rw (le-ltb n 128 h)

pub numbers_most : (ns : List ℕ) → length (numbers ns) ≤ 3 * length ns
numbers_most [] = omega arith
numbers_most (n ∷ ns) = omega (arith, length-append (groups n) (numbers ns), groups_most n, numbers_most ns)

-- A tag and a number of one group take two bytes.
pub one_group : (n : ℕ) → n < 128 → length (numbers (4 ∷ n ∷ [])) ≡ 2
one_group n h = rw (groups_small n h)

-- ## A number, group by group

-- In a last group and at most k before it, which hold the numbers below a bound.
abbrev groups_in : (k n : ℕ) → List ℕ
groups_in zero n = n ∷ []
groups_in (suc k) n = pick (ltb n 128) (n ∷ []) ((n % 128 + 128) ∷ groups_in k (n / 128))

abbrev bound : ℕ → ℕ
bound zero = 128
bound (suc k) = 128 * bound k

groups_some : (k n : ℕ) → 1 ≤ length (groups_in k n)
groups_some zero n = omega arith
groups_some (suc k) n = go (ltb n 128)
  where
    go : (b : Bool) → 1 ≤ length (pick b (n ∷ []) ((n % 128 + 128) ∷ groups_in k (n / 128)))
    go true = omega arith
    go false = omega arith

groups_last : (k n : ℕ) → n < 128 → groups_in k n ≡ n ∷ []
groups_last zero n h = refl
groups_last (suc k) n h = rw (lt-ltb n 128 h)

-- On the way: some groups of n were put down, and those of what is left are the others.
pub record Putting (was : List ℕ) (at n : ℕ) (now : List ℕ) (next left : ℕ) : Type 0 where
  pub more : ℕ
  pub passed : List ℕ
  pub wrote : Wrote was at now next passed
  pub rest : passed ++ groups_in more left ≡ groups n
  pub small : left < bound more

pub putting_first : (was : List ℕ) (at n : ℕ) → n < 65536 → Putting was at n was at n
putting_first was at n h = record { more = 2; passed = []; wrote = wrote_none was at; rest = refl; small = omega arith }

module _ {was mid : List ℕ} {at n next left : ℕ} (p : Putting was at n mid next left) where
  pub putting_inside : at + length (groups n) ≤ length was → next < length mid
  putting_inside h =
      omega (
        arith,
        p.wrote.place,
        p.wrote.long,
        ap length p.rest,
        length-append p.passed (groups_in p.more left),
        groups_some p.more left,
      )

  pub putting_more : next < length mid → 128 ≤ left → Putting was at n (set mid next (left % 128 + 128)) (next + 1) (left / 128)
  putting_more i h = go p.more p.rest p.small
    where
      go : (k : ℕ) → p.passed ++ groups_in k left ≡ groups n → left < bound k → Putting was at n (set mid next (left % 128 + 128)) (next + 1) (left / 128)
      go zero r s = absurd (omega arith)
      go (suc k) r s = record {
        more = k;
        passed = p.passed ++ ((left % 128 + 128) ∷ []);
        wrote = wrote_on p.wrote (wrote_byte mid next (left % 128 + 128) i);
        rest = append_assoc p.passed ((left % 128 + 128) ∷ []) (groups_in k (left / 128)) ∙ (rw (le-ltb left 128 h) at r);
        small = omega (arith, div-add-mod' left 128);
      }

  pub putting_last : next < length mid → left < 128 → Wrote was at (set mid next left) (next + 1) (groups n)
  putting_last i h =
      wrote_as (ap (λ l. p.passed ++ l) (sym (groups_last p.more left h)) ∙ p.rest) (wrote_on p.wrote (wrote_byte mid next left i))

-- ## Nodes

pub node_added :
    {was now : List ℕ} {m : Made} {next : ℕ} (ns : List ℕ) → length ns ≤ 22 → Room was m 1 → Wrote was m.length now next (numbers ns)
    → (x : Expr) → encode_node x ≡ numbers ns → Adds was m now (record { nodes = m.nodes + 1; length = next }) (x ∷ [])
node_added ns h r w x e = record {
  wrote = wrote_as (sym e ∙ sym (append-nil (encode_node x))) w;
  many = refl;
  low = omega (arith, numbers_most ns, w.place, r.low);
}

pub text_added :
    {was now : List ℕ} {m : Made} {next : ℕ} (s : List ℕ) → length s ≤ 64 → Room was m 1
    → Wrote was m.length now next (numbers (4 ∷ length s ∷ []) ++ s) → Adds was m now (record { nodes = m.nodes + 1; length = next }) (Text s ∷ [])
text_added s h r w = record {
  wrote = wrote_as (sym (append-nil (encode_node (Text s)))) w;
  many = refl;
  low = omega (arith, w.place, length-append (numbers (4 ∷ length s ∷ [])) s, one_group (length s) (omega arith), r.low);
}

pub adds_as : {was now : List ℕ} {m r : Made} {xs ys : List Expr} → xs ≡ ys → Adds was m now r xs → Adds was m now r ys
adds_as e a = rw e at a

pub adds_none : {was : List ℕ} {m : Made} {n : ℕ} → Room was m n → Adds was m was m []
adds_none {was} {m} r = record { wrote = wrote_none was m.length; many = omega arith; low = r.low }

pub adds_on : {was mid now : List ℕ} {m i r : Made} {xs ys : List Expr} → Adds was m mid i xs → Adds mid i now r ys → Adds was m now r (xs ++ ys)
adds_on {xs = xs} {ys = ys} f g = record {
  wrote = wrote_as (sym (written_on encode_node xs ys)) (wrote_on f.wrote g.wrote);
  many = omega (arith, f.many, g.many, length-append xs ys);
  low = g.low;
}

pub room_as : {out : List ℕ} {m : Made} {n k : ℕ} → n ≡ k → Room out m n → Room out m k
room_as e r = rw e at r

-- Where there was room for more nodes than were added, there is room for the others.
pub room_left : {was now : List ℕ} {m r : Made} {xs : List Expr} {n : ℕ} (k : ℕ) → Room was m n → Adds was m now r xs → length xs + k ≤ n → Room now r k
room_left k o a h = record { long = a.wrote.long ∙ o.long; low = a.low; few = omega (arith, o.few, a.many) }

-- ## Rows of numbers

-- Before a number of a row there is room for it, where there is for the whole row.
pub numbers_up_to : (ns : List ℕ) (i : ℕ) → i < length ns → length (numbers (take i ns)) + length (groups (get_or ns i 0)) ≤ length (numbers ns)
numbers_up_to [] i h = absurd (omega arith)
numbers_up_to (n ∷ ns) zero h = omega (arith, length-append (groups n) (numbers ns))
numbers_up_to (n ∷ ns) (suc i) h =
    omega (arith, length-append (groups n) (numbers (take i ns)), length-append (groups n) (numbers ns), numbers_up_to ns i (omega arith))

pub row_more :
    {was mid now : List ℕ} {at next end : ℕ} (row : List ℕ) (i : ℕ) → i < length row → Wrote was at mid next (numbers (take i row))
    → Wrote mid next now end (groups (get_or row i 0)) → Wrote was at now end (numbers (take (i + 1) row))
row_more row i h l w =
    wrote_as
    (rw (add-one i, take-suc row i 0 h, written_on groups (take i row) (get_or row i 0 ∷ []), append-nil (groups (get_or row i 0))))
    (wrote_on l w)

-- Numbers of two groups take two bytes each.
pub groups_two : (n : ℕ) → n < 16384 → length (groups n) ≤ 2
groups_two n h = go (ltb n 128) refl
  where
    go : (b : Bool) → ltb n 128 ≡ b → length (groups n) ≤ 2
    go true e = rw (groups_small n (ltb-true n 128 e)) (omega arith)
    go false e =
        let q : n / 128 < 128 = omega (arith, div-add-mod' n 128) in
        rw (groups_large n (ltb-false n 128 e), two_small (n / 128) q) (omega arith)

pub small_most : (ns : List ℕ) → AllSmall ns → length (numbers ns) ≤ 2 * length ns
small_most [] s = omega arith
small_most (n ∷ ns) s = omega (arith, length-append (groups n) (numbers ns), groups_two n s.0, small_most ns s.1)

-- One number, and one row behind another.
pub wrote_last : {was now : List ℕ} {at next : ℕ} (n : ℕ) → Wrote was at now next (groups n) → Wrote was at now next (numbers (n ∷ []))
wrote_last n w = wrote_as (sym (append-nil (groups n))) w

pub wrote_both :
    {was mid now : List ℕ} {at i next : ℕ} (xs ys : List ℕ) → Wrote was at mid i (numbers xs) → Wrote mid i now next (numbers ys)
    → Wrote was at now next (numbers (xs ++ ys))
wrote_both xs ys f g = wrote_as (sym (written_on groups xs ys)) (wrote_on f g)

pub room_less : {out : List ℕ} {m : Made} {n j : ℕ} (k : ℕ) → n ≡ j → k ≤ j → Room out m n → Room out m k
room_less k e h r = record { long = r.long; low = r.low; few = omega (arith, r.few) }

pub small_at : (ns : List ℕ) (i : ℕ) → i < length ns → AllSmall ns → get_or ns i 0 < 16384
small_at [] i h s = absurd (omega arith)
small_at (n ∷ ns) zero h s = s.0
small_at (n ∷ ns) (suc i) h s = small_at ns i (omega arith) s.1

-- The first i numbers of a row were put down behind the first `at` bytes, each in two bytes at most.
pub record Laid (was : List ℕ) (at : ℕ) (row : List ℕ) (i : ℕ) (now : List ℕ) (next : ℕ) : Type 0 where
  pub within : i ≤ length row
  pub wrote : Wrote was at now next (numbers (take i row))
  pub low : next ≤ at + 2 * i

pub laid_none : (was : List ℕ) (at : ℕ) (row : List ℕ) → Laid was at row 0 was at
laid_none was at row = record { within = omega arith; wrote = wrote_none was at; low = omega arith }

pub laid_more :
    {was mid now row : List ℕ} {at i next end : ℕ} → Laid was at row i mid next → i < length row → get_or row i 0 < 16384
    → Wrote mid next now end (groups (get_or row i 0)) → Laid was at row (i + 1) now end
laid_more {row = row} {i = i} l h s w = record {
  within = omega arith;
  wrote = wrote_as
      (rw (add-one i, take-suc row i 0 h, written_on groups (take i row) (get_or row i 0 ∷ []), append-nil (groups (get_or row i 0))))
      (wrote_on l.wrote w);
  low = omega (arith, l.low, w.place, groups_two (get_or row i 0) s);
}

pub laid_all :
    {was now row : List ℕ} {at i next : ℕ} → Laid was at row i now next → length row ≤ i → Wrote was at now next (numbers row)
laid_all {row = row} {i = i} l h = wrote_as (ap numbers (take_all i row h)) l.wrote
