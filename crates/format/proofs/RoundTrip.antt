-- The round trip: what is said of an image as it is read (`Said`) holds, and so an image is good exactly if it is the writing of a sound grammar
-- and short enough.
use Rattle.std.specs.Prelude.{ℕ, ◌≤◌, ◌<◌, ◌≡◌, refl, Bool, true, false, ◌↔◌, List, ltb, eqb, length}
use Rattle.std.proofs.Common.{ap, sym, ◌∙◌, arith, length-drop, take_all, ltb-true, ltb-false, le-ltb, eqb-true}
use Rattle.std.proofs.lemmas.Bool.{eqb-false}
use Rattle.grammar.specs.Grammar.{Grammar}
use Rattle.grammar.specs.Sound.{Bytes}
use Rattle.format.specs.Reading.{Reading, pick, ◌then◌}
use Rattle.format.specs.ReadingLaws.{All, holds, stops}
use Rattle.format.specs.NumberLaws.{Refusal}
use Rattle.format.specs.Image.{head_at, body_at, good, refused, ended, read_image}
use Rattle.format.specs.OnlyWritten.{Whole}
use Rattle.format.proofs.OnlyWritten.{body_all}
use Rattle.format.proofs.ReadBack.{body_back}
use Rattle.format.specs.RoundTrip.{Stands, Refuses, Said, stands, refuses}

module _ (image : List ℕ) (bytes : Bytes image) where
  at_end :
      (short : length image ≤ 16384) {g : Grammar} {at : ℕ} → Whole image bytes g at → (t : Bool) → ltb at (length image) ≡ t
      → Said image (pick t (refused 8 at) (good g))
  at_end short {g} {at} w true e =
      let some : at < length image = ltb-true at (length image) e in
      refuses {n = 8} {place = at} (record {
        least = omega arith;
        most = omega arith;
        long = (omega arith, omega arith);
        first = omega arith;
        cut = omega arith;
        edition = omega arith;
        inside = λ z. some;
        left_over = λ z. (g, w.sound, sym w.on.front);
        small = omega arith;
      })
  at_end short {g} {at} w false e = stands (record {
    sound = w.sound;
    writing = sym w.on.front ∙ take_all at image (ltb-false at (length image) e);
    short = short;
  })

  -- A refusal before the end.
  earlier : {n place : ℕ} → length image ≤ 16384 → Refusal (length image) n place → Refuses image n place
  earlier {n} {place} short r = record {
    least = omega (arith, r.least);
    most = omega (arith, r.most);
    long = (λ z. omega (arith, r.least), λ z. omega arith);
    first = λ z. omega (arith, r.least);
    cut = r.cut;
    edition = r.edition;
    inside = r.inside;
    left_over = λ z. absurd (omega (arith, r.most));
    small = near (eqb n 2) refl;
  }
    where
      near : (t : Bool) → eqb n 2 ≡ t → place ≤ 16384
      near true e = omega (arith, r.cut (eqb-true n 2 e))
      near false e = omega (arith, r.inside (eqb-false n 2 e))

  too_long : 16384 < length image → Refuses image 1 0
  too_long h = record {
    least = omega arith;
    most = omega arith;
    long = (λ z. h, λ z. refl);
    first = λ z. refl;
    cut = λ z. omega arith;
    edition = λ z. refl;
    inside = λ z. omega arith;
    left_over = λ z. absurd (omega arith);
    small = omega arith;
  }

  pub said : Said image (read_image image)
  said = whole (ltb 16384 (length image)) refl
    where
      go :
          length image ≤ 16384 → {r : Reading Grammar} → All (Whole image bytes) (Refusal (length image)) r
          → Said image (ended image r)
      go short (holds {x = g} {next = at} w) = at_end short w (ltb at (length image)) refl
      go short (stops h) = refuses (earlier short h)

      whole :
          (t : Bool) → ltb 16384 (length image) ≡ t
          → Said image (pick t (refused 1 0) (ended image (head_at image then body_at image)))
      whole true e = refuses (too_long (ltb-true 16384 (length image) e))
      whole false e = go (ltb-false 16384 (length image) e) (body_all image bytes)

of_good : {image : List ℕ} {g : Grammar} → Said image (good g) → Stands image g
of_good (stands h) = h

of_refused : {image : List ℕ} {n place : ℕ} → Said image (refused n place) → Refuses image n place
of_refused (refuses h) = h

read_back : (image : List ℕ) (g : Grammar) → Stands image g → read_image image ≡ good g
read_back image g s =
    let b = body_back image g s.sound s.writing in
    rw (le-ltb 16384 (length image) s.short, b.is)
    (rw (le-ltb b.next (length image) (omega (arith, simp length-drop at (ap length b.after)))))

-- THE ROUND TRIP. `read_image` says good with g exactly if g is sound, `encode g` is the image, and it is at most 16,384 bytes.
pub exact : (image : List ℕ) → Bytes image → (g : Grammar) → (read_image image ≡ good g) ↔ Stands image g
exact image bytes g = ((λ e. of_good (rw e at (said image bytes))), read_back image g)

pub refusal : (image : List ℕ) → Bytes image → (n place : ℕ) → read_image image ≡ refused n place → Refuses image n place
refusal image bytes n place e = of_refused (rw e at (said image bytes))
