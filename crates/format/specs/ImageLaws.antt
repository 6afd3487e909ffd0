-- Laws of reading that both directions of the round trip use.
use Rattle.std.specs.Prelude.{ℕ, zero, suc, ◌+◌, ◌≤◌, ◌<◌, ◌≡◌, refl, Bool, true, false, List, [], ◌∷◌, ◌++◌, leb, ltb, eqb, take, length, get_or}
use Rattle.std.proofs.Common.{ap, sym, ◌∙◌, append_assoc, append-nil, arith, ltb-true, leb-true}
use Rattle.grammar.specs.Sound.{Bytes}
use Rattle.format.specs.Reading.{Reading, got, fault, pick, ◌then◌}
use Rattle.format.specs.ReadingLaws.{All, holds, stops, of_got, pick_all}
use Rattle.format.specs.Number.{groups, number_at}
use Rattle.format.specs.Written.{numbers, bit}
use Rattle.format.specs.Image.{inside, bounded}

infixr 20 ◌&◌
-- Each element of a list, with its number counted from i.
pub data EachFrom {A : Type 0} (S : ℕ → A → Type 0) : ℕ → List A → Type 0 where
  nil : {i : ℕ} → EachFrom S i []
  ◌&◌ : {i : ℕ} {x : A} {xs : List A} → S i x → EachFrom S (suc i) xs → EachFrom S i (x ∷ xs)

pub plus_zero : (i : ℕ) → i + 0 ≡ i
plus_zero i = omega arith

pub zero_plus : (i : ℕ) → 0 + i ≡ i
zero_plus i = omega arith

plus_suc : (i n : ℕ) → i + suc n ≡ suc i + n
plus_suc i n = omega arith

module _ {A : Type 0} (S : ℕ → A → Type 0) (d : A) where
  pub each_at : (l : List A) (i n : ℕ) → EachFrom S i l → n < length l → S (i + n) (get_or l n d)
  each_at [] i n nil h = absurd (omega arith)
  each_at (x ∷ xs) i zero (s & rest) h = rw (plus_zero i) s
  each_at (x ∷ xs) i (suc n) (s & rest) h = rw (plus_suc i n) (each_at xs (suc i) n rest (omega arith))

  pub each_of : (l : List A) (i : ℕ) → ((n : ℕ) → n < length l → S (i + n) (get_or l n d)) → EachFrom S i l
  each_of [] i f = nil
  each_of (x ∷ xs) i f =
      rw (plus_zero i) at (f 0 (omega arith)) & each_of xs (suc i) (λ n h. rw (plus_suc i n) at (f (suc n) (omega arith)))

pub numbers_snoc : (ns : List ℕ) (n : ℕ) → numbers (ns ++ (n ∷ [])) ≡ numbers ns ++ groups n
numbers_snoc [] n = append-nil (groups n)
numbers_snoc (m ∷ ns) n = ap (λ l. groups m ++ l) (numbers_snoc ns n) ∙ sym (append_assoc (groups m) (numbers ns) (groups n))

pub inside_low : (low stop n : ℕ) → inside low stop n ≡ true → low ≤ n
inside_low low stop n e = leb-true low n (go (leb low n) e)
  where
    go : (t : Bool) → pick t (ltb n stop) false ≡ true → t ≡ true
    go true e = refl
    go false e = e

pub inside_high : (low stop n : ℕ) → inside low stop n ≡ true → n < stop
inside_high low stop n e = ltb-true n stop (go (leb low n) e)
  where
    go : (t : Bool) → pick t (ltb n stop) false ≡ true → ltb n stop ≡ true
    go true e = e
    go false e = cc

pub bytes_take : (k : ℕ) (l : List ℕ) → Bytes l → Bytes (take k l)
bytes_take zero l ok i = omega arith
bytes_take (suc k) [] ok i = ok i
bytes_take (suc k) (x ∷ l) ok zero = ok 0
bytes_take (suc k) (x ∷ l) ok (suc i) = bytes_take k l (λ j. ok (suc j)) i

-- A truth that was read, written again.
pub bit_back : (n : ℕ) → n < 2 → bit (eqb n 1) ≡ n
bit_back zero h = refl
bit_back (suc zero) h = refl
bit_back (suc (suc n)) h = absurd (omega arith)

-- A number that was read is below what it must be below.
pub number_all : (image : List ℕ) (why low stop at : ℕ) → All (λ n next. n < stop) (λ n place. Unit {0}) (bounded image why low stop at)
number_all image why low stop at = go (number_at image at)
  where
    go :
        (r : Reading ℕ) → All (λ n next. n < stop) (λ n place. Unit {0})
        (r then λ n next. pick (inside low stop n) (got n next) (fault why at))
    go (got n next) = pick_all (inside low stop n) (λ t. holds (inside_high low stop n t)) (λ _. stops tt)
    go (fault n place) = stops tt

pub number_below : (image : List ℕ) (why low stop at : ℕ) {n next : ℕ} → got n next ≡ bounded image why low stop at → n < stop
number_below image why low stop at e = of_got (rw (← e) at (number_all image why low stop at))
