-- What was read as a number is how that number is written, and what is written is read back.
use Rattle.std.specs.Prelude.{ℕ, suc, ◌+◌, ◌-◌, ◌*◌, ◌/◌, ◌%◌, ◌<◌, ◌≤◌, ◌≡◌, refl, Bool, true, false, List, [], ◌∷◌, ◌++◌, ltb, eqb, length}
use Rattle.std.proofs.Common.{ap, sym, ◌∙◌, arith, div-add-mod', mod-lt, ltb-true, ltb-false, lt-ltb, le-ltb, ne_eqb}
use Rattle.std.proofs.lemmas.Bool.{eqb-false}
use Rattle.grammar.specs.Sound.{Bytes}
use Rattle.format.specs.Reading.{got, fault, pick}
use Rattle.format.specs.ReadingLaws.{All, holds, stops, pick_all}
use Rattle.format.specs.Number.{two_groups, groups, third, second, first}

-- A refusal before the end of an image that is not too long: one of 2 to 7. A cut is placed at the image's end, a wrong edition at 0, and every
-- refusal but a cut at a byte of the image.
pub record Refusal (end number place : ℕ) : Type 0 where
  pub least : 2 ≤ number
  pub most : number ≤ 7
  pub cut : number ≡ 2 → place ≡ end
  pub edition : number ≡ 4 → place ≡ 0
  pub inside : (number ≡ 2 → ⊥) → place < end

-- The number n is written at the front of l, and `next` is the place after it.
pub record Wrote (l : List ℕ) (at n next : ℕ) : Type 0 where
  pub rest : List ℕ
  pub split : l ≡ groups n ++ rest
  pub place : next ≡ at + length (groups n)
  pub small : n < 2097152

pos : {n : ℕ} → (n ≡ 0 → ⊥) → 0 < n
pos {n} h = omega arith

-- The quotient and the rest of a lowest group r under higher ones q.
div_of : (q r : ℕ) → r < 128 → (r + q * 128) / 128 ≡ q
div_of q r h = omega (arith, div-add-mod' (r + q * 128) 128, mod-lt (r + q * 128) {m = 128} (omega arith))

mod_of : (q r : ℕ) → r < 128 → (r + q * 128) % 128 ≡ r
mod_of q r h = omega (arith, div-add-mod' (r + q * 128) 128, mod-lt (r + q * 128) {m = 128} (omega arith))

three_of : (b c d : ℕ) → b < 128 → c < 128 → 0 < d → d < 128 → groups (b + c * 128 + d * 16384) ≡ (b + 128) ∷ (c + 128) ∷ d ∷ []
three_of b c d hb hc hd hd' =
    let e : b + c * 128 + d * 16384 ≡ b + (c + d * 128) * 128 = omega arith in
    rw e (rw (
      le-ltb (b + (c + d * 128) * 128) 128 (omega arith),
      mod_of (c + d * 128) b hb,
      div_of (c + d * 128) b hb,
      le-ltb (c + d * 128) 128 (omega arith),
      mod_of d c hc,
      div_of d c hc,
    ))

two_of : (b c : ℕ) → b < 128 → 0 < c → c < 128 → groups (b + c * 128) ≡ (b + 128) ∷ c ∷ []
two_of b c hb hc hc' = rw (le-ltb (b + c * 128) 128 (omega arith), mod_of c b hb, div_of c b hb, lt-ltb c 128 hc')

one_of : (b : ℕ) → b < 128 → groups b ≡ b ∷ []
one_of b h = rw (lt-ltb b 128 h)

wrote : {l : List ℕ} {at n next : ℕ} (u t : List ℕ) → groups n ≡ u → l ≡ u ++ t → next ≡ at + length u → n < 2097152 → Wrote l at n next
wrote {at =
    at} u t e s p h = record { rest = t; split = s ∙ ap (λ v. v ++ t) (sym e); place = p ∙ ap (λ v. at + length v) (sym e); small = h }

back_up : (b : ℕ) → 128 ≤ b → b - 128 + 128 ≡ b
back_up b h = omega arith

-- A number is written in one byte or more.
pub groups_some : (n : ℕ) → 1 ≤ length (groups n)
groups_some n = some (ltb n 128) (ltb (n / 128) 128)
  where
    some :
        (s t : Bool) → 1 ≤ length (pick s (n ∷ []) ((n % 128 + 128) ∷ pick t (n / 128 ∷ []) ((n / 128 % 128 + 128) ∷ n / 128 / 128 ∷ [])))
    some true t = omega arith
    some false t = omega arith

module _ (end at : ℕ) where
  cut_here : {A : Type 0} {P : A → ℕ → Type 0} → All P (Refusal end) (fault 2 end)
  cut_here = stops {n = 2} {place = end} (omega arith)

  module _ (inn : at < end) where
    badly : {A : Type 0} {P : A → ℕ → Type 0} → All P (Refusal end) (fault 3 at)
    badly = stops {n = 3} {place = at} (omega arith)

    third_all :
        (b c : ℕ) (l : List ℕ) → 128 ≤ b → b ≤ 255 → 128 ≤ c → c ≤ 255 → Bytes l
        → All (Wrote (b ∷ c ∷ l) at) (Refusal end) (third end at (b - 128 + (c - 128) * 128) l)
    third_all b c [] hb hb' hc hc' ok = cut_here
    third_all b c (d ∷ t) hb hb' hc hc' ok = pick_all (eqb d 0) (λ _. badly) (λ z. pick_all (ltb d 128)
        (λ e. holds (wrote (b ∷ c ∷ d ∷ []) t
        (three_of (b - 128) (c - 128) d (omega arith) (omega arith) (pos (eqb-false d 0 z)) (ltb-true d 128 e)
        ∙ rw (back_up b hb, back_up c hc)) refl refl (omega (arith, ltb-true d 128 e))))
        (λ _. badly))

    second_all : (b : ℕ) (l : List ℕ) → 128 ≤ b → b ≤ 255 → Bytes l → All (Wrote (b ∷ l) at) (Refusal end) (second end at (b - 128) l)
    second_all b [] hb hb' ok = cut_here
    second_all b (c ∷ t) hb hb' ok = pick_all (eqb c 0) (λ _. badly) (λ z. pick_all (ltb c 128)
        (λ e. holds (wrote (b ∷ c ∷ []) t
        (two_of (b - 128) c (omega arith) (pos (eqb-false c 0 z)) (ltb-true c 128 e) ∙ rw (back_up b hb)) refl refl
        (omega (arith, ltb-true c 128 e))))
        (λ e. third_all b c t hb hb' (ltb-false c 128 e) (ok 0) (λ i. ok (suc i))))

  -- What was read as a number is how that number is written; else the refusal is 2, at the end, or 3, at the number.
  pub first_all : (l : List ℕ) → at + length l ≡ end → Bytes l → All (Wrote l at) (Refusal end) (first end at l)
  first_all [] long ok = cut_here
  first_all (b ∷ t) long ok = pick_all (ltb b 128)
      (λ e. holds (wrote (b ∷ []) t (one_of b (ltb-true b 128 e)) refl refl (omega (arith, ltb-true b 128 e))))
      (λ e. second_all (omega arith) b t (ltb-false b 128 e) (ok 0) (λ i. ok (suc i)))

module _ (end at : ℕ) where
  read_two : (b c n : ℕ) (t : List ℕ) → 128 ≤ b → 0 < c → c < 128 → b - 128 + c * 128 ≡ n → first end at (b ∷ c ∷ t) ≡ got n (at + 2)
  read_two b c n t hb hc hc' e = rw (le-ltb b 128 hb, ne_eqb c 0 (λ z. omega arith), lt-ltb c 128 hc') (ap (λ m. got m (at + 2)) e)

  read_three :
      (b c d n : ℕ) (t : List ℕ) → 128 ≤ b → 128 ≤ c → 0 < d → d < 128 → b - 128 + (c - 128) * 128 + d * 16384 ≡ n
      → first end at (b ∷ c ∷ d ∷ t) ≡ got n (at + 3)
  read_three b c d n t hb hc hd hd' e =
      rw (le-ltb b 128 hb, ne_eqb c 0 (λ z. omega arith), le-ltb c 128 hc, ne_eqb d 0 (λ z. omega arith), lt-ltb d 128 hd')
      (ap (λ m. got m (at + 3)) e)

  -- What is written is read back, whatever follows it.
  pub first_back : (n : ℕ) (t : List ℕ) → n < 2097152 → first end at (groups n ++ t) ≡ got n (at + length (groups n))
  first_back n t h = one (ltb n 128) refl
    where
      sum : n / 128 * 128 + n % 128 ≡ n
      sum = div-add-mod' n 128

      sum' : n / 128 / 128 * 128 + n / 128 % 128 ≡ n / 128
      sum' = div-add-mod' (n / 128) 128

      low : n % 128 < 128
      low = mod-lt n (omega arith)

      low' : n / 128 % 128 < 128
      low' = mod-lt (n / 128) (omega arith)

      two :
          (s : Bool) → ltb (n / 128) 128 ≡ s → 128 ≤ n
          → first end at (((n % 128 + 128) ∷ two_groups (n / 128)) ++ t) ≡ got n (at + length ((n % 128 + 128) ∷ two_groups (n / 128)))
      two true e g =
          rw e (read_two (n % 128 + 128) (n / 128) n t (omega arith) (omega (arith, sum, low)) (ltb-true _ _ e) (omega (arith, sum)))
      two false e g =
          rw e (read_three (n % 128 + 128) (n / 128 % 128 + 128) (n / 128 / 128) n t (omega arith) (omega arith)
          (omega (arith, sum', low', ltb-false (n / 128) 128 e)) (omega (arith, sum, sum')) (omega (arith, sum, sum')))

      one : (s : Bool) → ltb n 128 ≡ s → first end at (groups n ++ t) ≡ got n (at + length (groups n))
      one true e = rw (e, e)
      one false e = rw e (two (ltb (n / 128) 128) refl (ltb-false n 128 e))
