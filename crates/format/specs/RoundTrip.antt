-- The format as it is written and as it is read are one format. An image is good exactly if it is the writing of a sound
-- grammar and short enough; so a good image has one meaning, and every sound grammar that fits has one image. Here is what that says of an
-- image, and the round trip of a number; `exact` and `refusal` are proved in proofs/RoundTrip.antt.
use Rattle.std.specs.Prelude.{ℕ, ◌+◌, ◌≤◌, ◌<◌, ◌≡◌, refl, ◌↔◌, List, ◌++◌, drop, take, length}
use Rattle.std.proofs.Common.{ap, ◌∙◌, arith, length-drop, get_or-drop}
use Rattle.grammar.specs.Grammar.{Grammar}
use Rattle.grammar.specs.Sound.{Bytes, Sound}
use Rattle.format.specs.Reading.{got}
use Rattle.format.specs.ReadingLaws.{of_got}
use Rattle.format.specs.Number.{groups, number_at}
use Rattle.format.specs.NumberLaws.{first_all, first_back}
use Rattle.format.specs.Written.{encode}
use Rattle.format.specs.Image.{Checked, good, refused}
use Rattle.format.specs.ImageLaws.{zero_plus}
use Rattle.format.specs.OnlyWritten.{front_on}

-- An image is this grammar's: the grammar is sound, its writing is the image, and the image is at most 16,384 bytes.
pub record Stands (image : List ℕ) (g : Grammar) : Type 0 where
  pub sound : Sound g
  pub writing : encode g ≡ image
  pub short : length image ≤ 16384

-- A refusal is one of 1 to 8, never 0. It is 1 exactly if the image is too long, and then placed at 0; a cut is placed at the
-- image's end, a wrong edition at 0, every refusal but a cut at a byte of the image, and bytes that are left over behind the
-- writing of a sound grammar.
pub record Refuses (image : List ℕ) (n place : ℕ) : Type 0 where
  pub least : 1 ≤ n
  pub most : n ≤ 8
  pub long : (n ≡ 1) ↔ (16384 < length image)
  pub first : n ≡ 1 → place ≡ 0
  pub cut : n ≡ 2 → place ≡ length image
  pub edition : n ≡ 4 → place ≡ 0
  pub inside : (n ≡ 2 → ⊥) → place < length image
  pub left_over : n ≡ 8 → (g : Grammar) × Sound g × (encode g ≡ take place image)
  pub small : place ≤ 16384

-- What is said of an image: it stands for a grammar, or it is refused.
pub data Said (image : List ℕ) : Checked → Type 0 where
  stands : {g : Grammar} → Stands image g → Said image (good g)
  refuses : {n place : ℕ} → Refuses image n place → Said image (refused n place)

-- ## The numbers by themselves

-- What is written is read back.
pub number_read : (n : ℕ) (t : List ℕ) → n < 2097152 → number_at (groups n ++ t) 0 ≡ got n (length (groups n))
number_read n t h = first_back (length (groups n ++ t)) 0 n t h ∙ ap (λ k. got n k) (zero_plus (length (groups n)))

-- What was read is how that number is written, and no other way.
pub number_written :
    (b : List ℕ) (at n next : ℕ) → Bytes b → at ≤ length b → number_at b at ≡ got n next
    → (take next b ≡ take at b ++ groups n) × (n < 2097152)
number_written b at n next bytes l e =
    let w = of_got (rw e at
    (first_all (length b) at (drop at b) (rw (length-drop at b) (omega (arith, l))) (λ i. rw (get_or-drop at b i 0) (bytes (at + i))))) in
    (rw w.place (front_on b (groups n) w.rest (record { front = refl; within = l }) w.split).front, w.small)
