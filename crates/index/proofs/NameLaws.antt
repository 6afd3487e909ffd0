-- The name in front of some bytes.
use Rattle.std.proofs.Common.{ℕ, zero, suc, ◌+◌, ◌≤◌, min, ◌≡◌, refl, ap, sym, ◌∙◌, Bool, cond, true, false, not, ◌||◌, ◌==◌, List, [], ◌∷◌, length, drop, Some, None, arith}
use native.Mathlib.Numerals.{one-add}
use Rattle.std.specs.Bool.{then_some}
use Rattle.std.specs.List.{find, take_while, position_or_len, slice_get, zip}
use Rattle.std.specs.Option.{option_cmp}
use Rattle.std.specs.Ordering.{nat_cmp}
use Rattle.std.specs.Cmp.Lexicographic.{slice_cmp}
use Rattle.std.specs.declared.option.Option.{Option}
use Rattle.std.proofs.lemmas.Bool.Decides.{nat_tests}
use Rattle.std.proofs.lemmas.List.Folds.{find_at}
use Rattle.std.proofs.lemmas.Option.{some_pair_parts}
use Rattle.std.proofs.lemmas.Slice.Zip.{length-zip}
use Rattle.std.proofs.lemmas.List.Sums.{prefix_len-le-length, take_while-cons}
use Rattle.notation.specs.Bytes.{name_byte}
use Rattle.notation.specs.Lexer.{name_front}

pub front_is : (s : List ℕ) → name_front s ≡ take_while name_byte s
unfolding name_front
front_is [] = refl
front_is (b ∷ s) = go (name_byte b) refl (front_is s)
  where
    go : (k : Bool) → name_byte b ≡ k → name_front s ≡ take_while name_byte s → name_front (b ∷ s) ≡ take_while name_byte (b ∷ s)
    go true e i =
        let front : name_front (b ∷ s) ≡ b ∷ name_front s = rw (e, name_front) refl in
        front ∙ ap (λ r. b ∷ r) i ∙ sym (take_while-cons name_byte b s ∙ ap (λ k. cond k (b ∷ take_while name_byte s) []) e)
    go false e i =
        let front : name_front (b ∷ s) ≡ [] = rw (e, name_front) refl in
        front ∙ sym (take_while-cons name_byte b s ∙ ap (λ k. cond k (b ∷ take_while name_byte s) []) e)

-- ## The order of two names by one place

taken : (b : ℕ) (s : List ℕ) {k : Bool} → name_byte b ≡ k → take_while name_byte (b ∷ s) ≡ cond k (b ∷ take_while name_byte s) []
taken b s e = take_while-cons name_byte b s ∙ ap (λ k. cond k (b ∷ take_while name_byte s) []) e

-- The byte of a name at a place, if one stands there.
abbrev pub byte_at : List ℕ → ℕ → Option ℕ
byte_at s i = slice_get (take_while name_byte (drop i s)) 0

byte_next : (b : ℕ) (s : List ℕ) (i : ℕ) → byte_at (b ∷ s) (1 + i) ≡ byte_at s i
byte_next b s i = rw (one-add i) refl

byte_none : (s : List ℕ) (i : ℕ) → slice_get s i ≡ None → byte_at s i ≡ None
byte_none [] zero h = refl
byte_none [] (suc i) h = refl
byte_none (b ∷ s) zero h = absurd (cc)
byte_none (b ∷ s) (suc i) h = byte_none s i h

byte_some : (s : List ℕ) (i b : ℕ) → slice_get s i ≡ Some b → byte_at s i ≡ then_some (name_byte b) b
byte_some [] i b h = absurd (cc)
byte_some (c ∷ s) zero b h = let e : c ≡ b = cc in rw e (go (name_byte b) refl)
  where
    go : (k : Bool) → name_byte b ≡ k → byte_at (b ∷ s) 0 ≡ then_some (name_byte b) b
    go true e = ap (λ l. slice_get l 0) (taken b s e) ∙ sym (ap (λ k. then_some k b) e)
    go false e = ap (λ l. slice_get l 0) (taken b s e) ∙ sym (ap (λ k. then_some k b) e)
byte_some (c ∷ s) (suc i) b h = byte_some s i b h

-- So is what is read at the place, where it is a name's byte.
pub byte_is : (s : List ℕ) (i : ℕ) {r : Option ℕ} → (o : Option ℕ) → o ≡ slice_get s i → (o ≡ None → r ≡ None) → ((b : ℕ) → o ≡ Some b → r ≡ then_some (name_byte b) b) → r ≡ byte_at s i
byte_is s i None e f g = f refl ∙ sym (byte_none s i (sym e))
byte_is s i (Some b) e f g = g b refl ∙ sym (byte_some s i b (sym e))

-- Two names whose order is that of their first bytes.
abbrev ByFirst : List ℕ → List ℕ → Type 0
ByFirst n m = option_cmp nat_cmp (slice_get n 0) (slice_get m 0) ≡ slice_cmp nat_cmp n m

none_first : (m : List ℕ) → ByFirst [] m
none_first [] = refl
none_first (y ∷ ys) = refl

first_none : (n : List ℕ) → ByFirst n []
first_none [] = refl
first_none (x ∷ xs) = refl

first_differ : (x y : ℕ) (xs ys : List ℕ) → (x == y) ≡ false → ByFirst (x ∷ xs) (y ∷ ys)
first_differ x y xs ys e = grind (arith, nat_tests)

rest_decides : (x y : ℕ) {n m xs ys : List ℕ} → n ≡ x ∷ xs → m ≡ y ∷ ys → (x == y) ≡ true → slice_cmp nat_cmp n m ≡ slice_cmp nat_cmp xs ys
rest_decides x y f g e = rw (f, g) (grind (arith, nat_tests))

by_first : {n n' m m' : List ℕ} → n ≡ n' → m ≡ m' → ByFirst n' m' → ByFirst n m
by_first e f h = rw (e, f) h

-- Two bytes at one place of two texts end the comparing of names: they differ, or the first is no byte of a name.
abbrev pub ends : ℕ × ℕ → Bool
ends p = not (p.0 == p.1) || not (name_byte p.0)

end_place : (x y : ℕ) (xs ys : List ℕ) {t : Bool} → ends (x, y) ≡ t → position_or_len ends (zip (x ∷ xs) (y ∷ ys)) ≡ cond (not t) (1 + position_or_len ends (zip xs ys)) 0
end_place x y xs ys e = ap (λ t. cond (not t) (1 + position_or_len ends (zip xs ys)) 0) e

-- The order at a place is that of the names.
abbrev ByPlace : List ℕ → List ℕ → ℕ → Type 0
ByPlace a b i = option_cmp nat_cmp (byte_at a i) (byte_at b i) ≡ slice_cmp nat_cmp (take_while name_byte a) (take_while name_byte b)

-- The order of two names is that of the bytes at the first place where the two texts differ or the first has no name's byte.
pub order_at_end : (a b : List ℕ) → ByPlace a b (position_or_len ends (zip a b))
order_at_end [] b = none_first (take_while name_byte b)
order_at_end (x ∷ xs) [] = first_none (take_while name_byte (x ∷ xs))
order_at_end (x ∷ xs) (y ∷ ys) = go (x == y) (name_byte x) (name_byte y) refl refl refl (order_at_end xs ys)
  where
    either : (q : Bool) → (not q || true) ≡ true
    either true = refl
    either false = refl

    there : ends (x, y) ≡ true → ByFirst (take_while name_byte (x ∷ xs)) (take_while name_byte (y ∷ ys)) → ByPlace (x ∷ xs) (y ∷ ys) (position_or_len ends (zip (x ∷ xs) (y ∷ ys)))
    there e h = rw (end_place x y xs ys e) h

    go : (q k l : Bool) → (x == y) ≡ q → name_byte x ≡ k → name_byte y ≡ l → ByPlace xs ys (position_or_len ends (zip xs ys))
        → ByPlace (x ∷ xs) (y ∷ ys) (position_or_len ends (zip (x ∷ xs) (y ∷ ys)))
    go q false l d e f h = there (rw e (either (x == y))) (by_first (taken x xs e) refl (none_first (take_while name_byte (y ∷ ys))))
    go false true false d e f h = there (rw d refl) (by_first refl (taken y ys f) (first_none (take_while name_byte (x ∷ xs))))
    go false true true d e f h = there (rw d refl) (by_first (taken x xs e) (taken y ys f) (first_differ x y (take_while name_byte xs) (take_while name_byte ys) d))
    go true true false d e f h =
        let q : x ≡ y = grind (arith, nat_tests) in
        let b : name_byte x ≡ name_byte y = ap name_byte q in
        absurd (cc)
    go true true true d e f h =
        let i = position_or_len ends (zip xs ys) in
        let on : ends (x, y) ≡ false = rw (d, e) refl in
        rw (end_place x y xs ys on, byte_next x xs i, byte_next y ys i) (h ∙ sym (rest_decides x y (taken x xs e) (taken y ys f) d))

-- ## The place that is found

pairs_at : (a b : List ℕ) (i x y : ℕ) → slice_get (zip a b) i ≡ Some (x, y) → (slice_get a i ≡ Some x) × (slice_get b i ≡ Some y)
pairs_at [] b i x y h = absurd (cc)
pairs_at (c ∷ a) [] i x y h = absurd (cc)
pairs_at (c ∷ a) (d ∷ b) zero x y h = let e = some_pair_parts c x d y h in (ap Some e.0, ap Some e.1)
pairs_at (c ∷ a) (d ∷ b) (suc i) x y h = pairs_at a b i x y h

none_past : (ps : List (ℕ × ℕ)) (i : ℕ) → slice_get ps i ≡ None → length ps ≤ i
none_past [] i h = omega arith
none_past (p ∷ ps) zero h = absurd (cc)
none_past (p ∷ ps) (suc i) h = let k : length ps ≤ i = none_past ps i h in omega arith

module _ (a b : List ℕ) where
  -- By the two bytes that are found.
  pub by_found : (x y : ℕ) → find ends (zip a b) ≡ Some (x, y)
      → option_cmp nat_cmp (then_some (name_byte x) x) (then_some (name_byte y) y) ≡ slice_cmp nat_cmp (take_while name_byte a) (take_while name_byte b)
  by_found x y e =
      let i = position_or_len ends (zip a b) in
      let both = pairs_at a b i x y (sym (find_at ends (zip a b)) ∙ e) in
      rw (← byte_some a i x both.0, ← byte_some b i y both.1) (order_at_end a b)

  -- By the bytes behind the shorter, where none are found.
  pub by_shorter : (m : ℕ) → find ends (zip a b) ≡ None → m ≡ min (length a) (length b) → ByPlace a b m
  by_shorter m e f =
      let past = none_past (zip a b) (position_or_len ends (zip a b)) (sym (find_at ends (zip a b)) ∙ e) in
      let h = prefix_len-le-length (λ p. not (ends p)) (zip a b) in
      let long = length-zip a b in
      let here : position_or_len ends (zip a b) ≡ m = omega arith in
      rw here at (order_at_end a b)
