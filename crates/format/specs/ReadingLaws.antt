-- Laws of readings: what holds of every part of a reading holds of the whole.
use Rattle.std.specs.Prelude.{ℕ, ◌≡◌, refl, Bool, true, false}
use Rattle.std.proofs.Common.{ap}
use Rattle.format.specs.Reading.{Reading, got, fault, pick, ◌then◌}

infixr 20 ◌▹◌
infixr 20 ◌▹'◌
-- P holds of the value and the place after it, or Q of the refusal's number and place.
pub data All {A : Type 0} (P : A → ℕ → Type 0) (Q : ℕ → ℕ → Type 0) : Reading A → Type 0 where
  holds : {x : A} {next : ℕ} → P x next → All P Q (got x next)
  stops : {n place : ℕ} → Q n place → All P Q (fault n place)

pub ◌▹◌ : {A B : Type 0} {P : A → ℕ → Type 0} {R : B → ℕ → Type 0} {Q : ℕ → ℕ → Type 0} {r : Reading A} {k : A → ℕ → Reading B}
    → All P Q r → ((x : A) (at : ℕ) → P x at → All R Q (k x at)) → All R Q (r then k)
◌▹◌ (holds h) f = f _ _ h
◌▹◌ (stops h) f = stops h

pub ◌▹'◌ :
    {A : Type 0} {P R : A → ℕ → Type 0} {Q : ℕ → ℕ → Type 0} {r : Reading A} → All P Q r → ((x : A) (at : ℕ) → P x at → R x at)
    → All R Q r
◌▹'◌ (holds h) f = holds (f _ _ h)
◌▹'◌ (stops h) f = stops h

pub pick_all :
    {A : Type 0} {P : A → ℕ → Type 0} {Q : ℕ → ℕ → Type 0} (t : Bool) {x y : Reading A} → (t ≡ true → All P Q x) → (t ≡ false → All P Q y)
    → All P Q (pick t x y)
pick_all true f g = f refl
pick_all false f g = g refl

pub of_got : {A : Type 0} {P : A → ℕ → Type 0} {Q : ℕ → ℕ → Type 0} {x : A} {next : ℕ} → All P Q (got x next) → P x next
of_got (holds h) = h

pub of_fault : {A : Type 0} {P : A → ℕ → Type 0} {Q : ℕ → ℕ → Type 0} {n place : ℕ} → All P Q (fault n place) → Q n place
of_fault (stops h) = h

-- Equal readings, taken on, stay equal.
pub onward : {A B : Type 0} (k : A → ℕ → Reading B) {r s : Reading A} → r ≡ s → (r then k) ≡ (s then k)
onward k e = ap (λ r. r then k) e

-- Reading on after two readings is reading on after the second, after the first.
pub then_assoc :
    {A B C : Type 0} (r : Reading A) (f : A → ℕ → Reading B) (k : B → ℕ → Reading C)
    → ((r then f) then k) ≡ (r then λ x at. f x at then k)
then_assoc (got x at) f k = refl
then_assoc (fault n place) f k = refl

-- Two ways of reading on that agree on every value and place that can be read are one.
pub then_ext :
    {A B : Type 0} {P : A → ℕ → Type 0} {Q : ℕ → ℕ → Type 0} {r : Reading A} (f g : A → ℕ → Reading B) → All P Q r
    → ((x : A) (at : ℕ) → P x at → f x at ≡ g x at) → (r then f) ≡ (r then g)
then_ext f g (holds {x = x} {next = at} h) same = same x at h
then_ext f g (stops h) same = refl
