-- What an expression starts from, in one number and in its parts.
use Rattle.std.specs.Prelude.{ℕ, zero, suc, ◌+◌, ◌-◌, ◌≤◌, ◌≡◌, refl, Bool, List, [], ◌∷◌, eqb, length, take, drop, get_or}
use Rattle.std.specs.List.{starts_with}
use Rattle.std.proofs.Common.{ap, ◌∙◌, arith, take-take}
use Rattle.std.proofs.Math.Path.{sym}
use Rattle.std.proofs.Math.ListN.{length-take}
use Rattle.format.specs.Reading.{pick}
use Rattle.parts.specs.declared.outcome.Outcome.TheVariants.{Passed, Failed}
use Rattle.parts.specs.declared.outcome.Packed.{Packed}
use Rattle.parts.specs.Packed.{at_of, held_of, steps_of, depth_of, opened_of}
use Rattle.meaning.specs.Outcome.{begins}
use Rattle.parts.proofs.FrontLaws.{starts_begins}
use Rattle.parts.specs.PackedLaws.{has_parts}
use Rattle.kinds.specs.Turned.{given_of}
use Rattle.machine.specs.Told.{Told}
use Rattle.machine.specs.Ready.{image_of, Ready, Done}

-- A number has these parts.
pub record Has (from : Packed) (at held steps depth : ℕ) : Type 0 where
  pub place : at ≡ at_of from
  pub names : held ≡ held_of from
  pub spent : steps ≡ steps_of from
  pub deepest : depth ≡ depth_of from

module _ {from : Packed} {at held steps depth : ℕ} (h : Has from at held steps depth) where
  pub in_parts : {code image input slots : List ℕ} {left : ℕ} → Ready code image input slots left (at_of from) (held_of from) (steps_of from) (depth_of from)
      → Ready code image input slots left at held steps depth
  in_parts s = rw (h.place, h.names, h.spent, h.deepest) s

  pub in_one : {code image input slots : List ℕ} {left : ℕ} → Ready code image input slots left at held steps depth
      → Ready code image input slots left (at_of from) (held_of from) (steps_of from) (depth_of from)
  in_one r = rw (sym h.place, sym h.names, sym h.spent, sym h.deepest) r

  -- What is said of the one is said of the other.
  module _ (F : (at held steps depth : ℕ) → Told) {before after : List ℕ} {r : Packed} where
    pub as_parts : Done (held_of from) before after r (F (at_of from) (held_of from) (steps_of from) (depth_of from))
        → Done held before after r (F at held steps depth)
    as_parts d = rw (h.place, h.names, h.spent, h.deepest) d

    pub as_one : Done held before after r (F at held steps depth)
        → Done (held_of from) before after r (F (at_of from) (held_of from) (steps_of from) (depth_of from))
    as_one d = rw (sym h.place, sym h.names, sym h.spent, sym h.deepest) d

-- A passed outcome, as the number that is started from next.
pub has_passed_as : (r : Packed) {a h a' h' s d : ℕ} → opened_of r ≡ Passed a h s d → a ≡ a' → h ≡ h' → Has r a' h' s d
has_passed_as r e i j =
    let p = has_parts r e in record { place = sym i ∙ p.0; names = sym j ∙ p.1; spent = p.2; deepest = p.3 }

pub has_passed : (r : Packed) {a h s d : ℕ} → opened_of r ≡ Passed a h s d → Has r a h s d
has_passed r e = has_passed_as r e refl refl

-- One byte further, in its parts.
pub onward_given : (now : Packed) {at held steps depth : ℕ} (ok : Bool) (q : Packed) → Has now at held steps depth
    → opened_of q ≡ pick ok (Passed (at_of now + 1) (held_of now) (steps_of now) (depth_of now)) (Failed (steps_of now) (depth_of now))
    → opened_of q ≡ given_of ok (at + 1) held steps depth
onward_given now ok q h e = rw (h.place, h.names, h.spent, h.deepest) e

-- What lies in the front of a list lies in the list.
front_part : (l : List ℕ) (n i m : ℕ) → i + m ≤ length (take n l) → take m (drop i (take n l)) ≡ take m (drop i l)
front_part l n zero m h = take-take m n l (omega (arith, h, length-take n l))
front_part [] zero (suc i) m h = refl
front_part [] (suc n) (suc i) m h = refl
front_part (x ∷ l) zero (suc i) m h = absurd (omega (arith, h))
front_part (x ∷ l) (suc n) (suc i) m h = front_part l n i m (omega (arith, h))

-- The bytes of a Text are the same in the image and in the bytes that are lent, and lie in both.
module _ (code bytes : List ℕ) (place count : ℕ) (h : place + count ≤ length (image_of code bytes)) where
  pub lent_text : take count (drop place bytes) ≡ take count (drop place (image_of code bytes))
  unfolding image_of
  lent_text = sym (front_part bytes (get_or code 523 0) place count h)

  pub text_lent : place + count ≤ length bytes
  unfolding image_of
  text_lent = omega (arith, h, length-take (get_or code 523 0) bytes)

  -- The test of std on a Text's bytes is the definition's on the image's.
  pub text_begins : (input : List ℕ) (at : ℕ) {ok : Bool}
      → ok ≡ starts_with eqb (take (length input - at) (drop at input)) (take (place + count - place) (drop place bytes))
      → ok ≡ begins (take count (drop place (image_of code bytes))) (drop at input)
  text_begins input at e =
      let n : place + count - place ≡ count = omega arith in
      e ∙ starts_begins (take (place + count - place) (drop place bytes)) input at ∙ ap (λ n. begins (take n (drop place bytes)) (drop at input)) n
      ∙ ap (λ l. begins l (drop at input)) lent_text
