-- Laws of the array that the walk fills.
use Prim.Native.Nat.{ℕ, zero, suc, ◌+◌, ◌-◌, ◌≤◌, ◌<◌}
use Rattle.std.specs.Prelude.{◌≡◌, refl, List, ◌∷◌, length, get_or, set, Result, Err}
use Rattle.std.proofs.Common.{ap, ◌∙◌, add-one, length-set, get_or-set_same, get_or-set_other}
use Rattle.std.proofs.Math.Path.{sym}
use native.Mathlib.Omega.{arith}
use Rattle.format.specs.Reading.{Reading, got, fault, ◌then◌}
use Rattle.format.specs.ReadingLaws.{onward, then_assoc}
use Rattle.format.specs.Image.{times}
use Rattle.reader.specs.declared.reader.Reader.{Reader}
use Rattle.reader.specs.declared.refusal.Refusal.{Refusal}
use Rattle.reader.specs.Meant.{behind}
use Rattle.image.specs.Filled.{unless, filling, put_down, Fills, Puts}

-- ## A loop that puts readings down

module _ (p : ℕ → ℕ → Reading ℕ) (to N : ℕ) where
  -- What one reading makes of the rest.
  rest : (i k : ℕ) → ℕ → ℕ → Reading (Unit {0})
  rest i k x at = (times p (suc i) k at then λ xs at. got (x ∷ xs) at) then put_down

  one_read : (i k at : ℕ) {r : Reading ℕ} → r ≡ p i at → (r then rest i k) ≡ (times p i (suc k) at then put_down)
  unfolding rest
  one_read i k at {r} e =
      onward (rest i k) e ∙ sym (then_assoc (p i at) (λ x at. times p (suc i) k at then λ xs at. got (x ∷ xs) at) put_down)

  one_down :
      (i k at : ℕ) (l : List ℕ) {r : Reading ℕ} → r ≡ p i at
      → unless r l (λ w next. filling p to (suc i) k next (set l (to + i) w)) ≡ filling p to i (suc k) at l
  one_down i k at l e = ap (λ r. unless r l (λ w next. filling p to (suc i) k next (set l (to + i) w))) e

  -- N readings, the first at `start`, are put down from `to` on. After i of them: what is still to be read gives what the whole
  -- gives, and what is still to be put down gives the array that the whole gives.
  pub record Filling (start : ℕ) (before now : List ℕ) (i at : ℕ) : Type 0 where
    pub on : i ≤ N
    pub result : (times p i (N - i) at then put_down) ≡ (times p 0 N start then put_down)
    pub array : filling p to i (N - i) at now ≡ filling p to 0 N start before

  pub filling_starts : (start : ℕ) (l : List ℕ) → Filling start l l 0 start
  filling_starts start l = let e : N - 0 ≡ N = omega arith in record { on = omega arith; result = rw e; array = rw e }

  module _ {start : ℕ} {before now : List ℕ} {i at : ℕ} (f : Filling start before now i at) where
    -- One more is read and put down.
    pub filling_more : i < N → {w next : ℕ} → got w next ≡ p i at → Filling start before (set now (to + i) w) (i + 1) next
    unfolding rest
    filling_more h {w} {next} e =
        let left : N - i ≡ suc (N - suc i) = omega arith in
        record {
          on = omega arith;
          result = rw (add-one i) (sym (then_assoc (times p (suc i) (N - suc i) next) (λ xs at. got (w ∷ xs) at) put_down)
              ∙ one_read i (N - suc i) at e ∙ rw left at f.result);
          array = rw (add-one i) (one_down i (N - suc i) at now e ∙ rw left at f.array);
        }

    -- One cannot be read.
    pub filling_stops :
        i < N → {n place : ℕ} → fault n place ≡ p i at
        → (fault n place ≡ (times p 0 N start then put_down)) × (now ≡ filling p to 0 N start before)
    unfolding rest
    filling_stops h e =
        let left : N - i ≡ suc (N - suc i) = omega arith in
        (one_read i (N - suc i) at e ∙ rw left at f.result, one_down i (N - suc i) at now e ∙ rw left at f.array)

    -- All are read.
    pub filling_ends : N ≤ i → (got tt at ≡ (times p 0 N start then put_down)) × (now ≡ filling p to 0 N start before)
    filling_ends h =
        let left : N - i ≡ 0 = omega arith in
        (rw left at f.result, rw left at f.array)

-- What the loop promises, with and without where the reader stands after a refusal.
module _ {p : ℕ → ℕ → Reading ℕ} {to k : ℕ} {from after : Reader} {before now : List ℕ} where
  pub puts : {r : Result (Unit {0}) Refusal} → Fills p to k from after before now r → Puts p to k from after before now r
  puts f = record { result = f.result; image = f.image; array = f.array }

  -- A refusal says where the reader stands, if it is left where it stood.
  pub fills_fault : {e : Refusal} → Puts p to k from after before now (Err e) → Fills p to k from from before now (Err e)
  fills_fault f = record { result = f.result; stands = ap (λ x. behind x from.at) f.result; image = refl; array = f.array }

-- ## What the array holds

module _ (p : ℕ → ℕ → Reading ℕ) (to : ℕ) where
  plus_suc : (i m : ℕ) → i + suc m ≡ suc i + m
  plus_suc i m = omega arith

  -- A place where nothing is put down is left as it was.
  pub filling_other :
      (i k at j : ℕ) (l : List ℕ) → ((m : ℕ) → m < k → j ≡ to + (i + m) → ⊥) → get_or (filling p to i k at l) j 0 ≡ get_or l j 0
  filling_other i zero at j l out = refl
  filling_other i (suc k) at j l out =
      go (p i at) λ w next. filling_other (suc i) k next j (set l (to + i) w) (λ m h e. out (suc m) (omega arith) (rw (plus_suc i m) e))
    where
      here : j ≡ to + i → ⊥
      here e = out 0 (omega arith) (omega arith)

      go : (r : Reading ℕ) → ((w next : ℕ) → get_or (filling p to (suc i) k next (set l (to + i) w)) j 0 ≡ get_or (set l (to + i) w) j 0)
          → get_or (unless r l (λ w next. filling p to (suc i) k next (set l (to + i) w))) j 0 ≡ get_or l j 0
      go (got w next) later = later w next ∙ get_or-set_other l (to + i) j w 0 here
      go (fault n place) later = refl

  -- Where all could be read, each stands at its place.
  abbrev Stand : (i k at : ℕ) → Type 0
  Stand i k at =
      (n : ℕ) (l ws : List ℕ) (end : ℕ) → times p i k at ≡ got ws end → n < k → to + (i + k) ≤ length l
      → get_or (filling p to i k at l) (to + (i + n)) 0 ≡ get_or ws n 0

  pub filling_at : (i k at : ℕ) → Stand i k at
  filling_at i zero at n l ws end e h long = absurd (omega arith)
  filling_at i (suc k) at n l ws end e h long = one (p i at) e λ next. filling_at (suc i) k next
    where
      at_first : (w next : ℕ) → get_or (filling p to (suc i) k next (set l (to + i) w)) (to + (i + 0)) 0 ≡ w
      at_first w next =
          let here : to + (i + 0) ≡ to + i = omega arith in
          rw here (filling_other (suc i) k next (to + i) (set l (to + i) w) (λ m h e. omega arith)
          ∙ get_or-set_same l (to + i) w 0 (omega arith))

      which :
          (m w next : ℕ) (xs : List ℕ) (end : ℕ) → m < suc k → times p (suc i) k next ≡ got xs end → Stand (suc i) k next
          → get_or (filling p to (suc i) k next (set l (to + i) w)) (to + (i + m)) 0 ≡ get_or (w ∷ xs) m 0
      which zero w next xs end h q later = at_first w next
      which (suc m) w next xs end h q later =
          rw (plus_suc i m) (later m (set l (to + i) w) xs end q (omega arith) (rw (length-set l (to + i) w) (omega arith)))

      more :
          (w next : ℕ) (t : Reading (List ℕ)) → times p (suc i) k next ≡ t → (t then λ xs at. got (w ∷ xs) at) ≡ got ws end
          → Stand (suc i) k next
          → get_or (filling p to (suc i) k next (set l (to + i) w)) (to + (i + n)) 0 ≡ get_or ws n 0
      more w next (got xs end') q e later = let same : w ∷ xs ≡ ws = cc in which n w next xs end' h q later ∙ ap (λ l. get_or l n 0) same
      more w next (fault m place) q e later = let z : ◌≡◌ {A = ℕ} 0 1 = cc in absurd (omega arith)

      one :
          (r : Reading ℕ) → (r then λ x at. times p (suc i) k at then λ xs at. got (x ∷ xs) at) ≡ got ws end
          → ((next : ℕ) → Stand (suc i) k next)
          → get_or (unless r l (λ w next. filling p to (suc i) k next (set l (to + i) w))) (to + (i + n)) 0 ≡ get_or ws n 0
      one (got w next) e later = more w next (times p (suc i) k next) refl e (later next)
      one (fault m place) e later = let z : ◌≡◌ {A = ℕ} 0 1 = cc in absurd (omega arith)

  pub filling_length : (i k at : ℕ) (l : List ℕ) → length (filling p to i k at l) ≡ length l
  filling_length i zero at l = refl
  filling_length i (suc k) at l = go (p i at) λ w next. filling_length (suc i) k next (set l (to + i) w)
    where
      go : (r : Reading ℕ) → ((w next : ℕ) → length (filling p to (suc i) k next (set l (to + i) w)) ≡ length (set l (to + i) w))
          → length (unless r l (λ w next. filling p to (suc i) k next (set l (to + i) w))) ≡ length l
      go (got w next) later = later w next ∙ length-set l (to + i) w
      go (fault n place) later = refl
