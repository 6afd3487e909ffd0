-- Two outcomes that a promise permits are equal.
use Rattle.std.specs.Prelude.{ℕ, ◌-◌, ◌≡◌, List, [], ◌∷◌, get_or, Result, Ok, Err, ◌≤◌}
use Rattle.std.proofs.Common.{ap, refl, sym, ◌∙◌, arith}
use Rattle.std.specs.Borrow.{Bor}
use Rattle.reader.specs.declared.number.Number.{Number}
use Rattle.reader.specs.declared.refusal.Fault.{Fault}
use Rattle.reader.specs.declared.refusal.Fault.TheVariants.{TooLong, Cut, BadNumber, Edition, Counts, Tag, Range, Trailing}
use Rattle.reader.specs.declared.refusal.Refusal.{Refusal}
use Rattle.reader.specs.declared.reader.Reader.{Reader}
use Rattle.format.specs.Reading.{Reading}
use Rattle.format.specs.Number.{number_at}
use Rattle.reader.specs.Meant.{number_of, told, reading, moved, behind, Reads}

-- The faults in the order of their numbers.
abbrev faults : List Fault
faults = TooLong ∷ Cut ∷ BadNumber ∷ Edition ∷ Counts ∷ Tag ∷ Range ∷ Trailing ∷ []

-- The fault that has a number; a number over 8 is no fault's.
abbrev fault_of : ℕ → Fault
fault_of number = get_or faults (number - 1) Trailing

back : (f : Fault) → fault_of (number_of f) ≡ f
back TooLong = refl
back Cut = refl
back BadNumber = refl
back Edition = refl
back Counts = refl
back Tag = refl
back Range = refl
back Trailing = refl

-- No two faults have one number.
pub one_fault : (f g : Fault) → number_of f ≡ number_of g → f ≡ g
one_fault f g e = sym (back f) ∙ ap fault_of e ∙ back g

pub one_refusal : (f g : Refusal) → number_of f.fault ≡ number_of g.fault → f.place ≡ g.place → f ≡ g
one_refusal f g e p = let same : f.fault ≡ g.fault = one_fault f.fault g.fault e in λ i. record { fault = same i; place = p i }

-- `number`
pub one_number : (f : Fault) (r r' : ℕ) → r ≡ number_of f → r' ≡ number_of f → r ≡ r'
one_number f r r' e h = e ∙ sym h

-- `number_at` and the groups below it: each promises `reading r ≡ x`.
pub one_reading : (r s : Result Number Refusal) {x : Reading ℕ} → reading r ≡ x → reading s ≡ x → r ≡ s
one_reading r s e f = same r s (e ∙ sym f)
  where
    same : (r s : Result Number Refusal) → reading r ≡ reading s → r ≡ s
    same (Ok m) (Ok n) e =
        let value : m.value ≡ n.value = cc in let next : m.next ≡ n.next = cc in λ i. Ok (record { value = value i; next = next i })
    same (Ok m) (Err f) e = let z : ◌≡◌ {A = ℕ} 0 1 = cc in absurd (omega arith)
    same (Err f) (Ok n) e = let z : ◌≡◌ {A = ℕ} 0 1 = cc in absurd (omega arith)
    same (Err f) (Err g) e =
        let number : number_of f.fault ≡ number_of g.fault = cc in let place : f.place ≡ g.place = cc in
        ap Err (one_refusal f g number place)

-- What a reader hands out: each such function promises `told r at ≡ x`, `at` being where the reader then stands.
pub one_told : {A : Type 0} (r s : Result A Refusal) (at at' : ℕ) {x : Reading A} → told r at ≡ x → told s at' ≡ x → r ≡ s
one_told {A} r s at at' e f = same r s (e ∙ sym f)
  where
    same : (r s : Result A Refusal) → told r at ≡ told s at' → r ≡ s
    same (Ok a) (Ok b) e = let value : a ≡ b = cc in ap Ok value
    same (Ok a) (Err f) e = let z : ◌≡◌ {A = ℕ} 0 1 = cc in absurd (omega arith)
    same (Err f) (Ok b) e = let z : ◌≡◌ {A = ℕ} 0 1 = cc in absurd (omega arith)
    same (Err f) (Err g) e =
        let number : number_of f.fault ≡ number_of g.fault = cc in let place : f.place ≡ g.place = cc in
        ap Err (one_refusal f g number place)

-- A reader is its image and its place.
pub same_reader : {r s : Reader} → r.image ≡ s.image → r.at ≡ s.at → r ≡ s
same_reader image at = λ i. record { image = image i; at = at i }

-- A function that reads by a reader promises `Reads`: what it gives, and the reader after it, after a refusal too.
pub one_read :
    {A : Type 0} {p : ℕ → Reading A} {before after after' : Reader} {r r' : Result A Refusal} → Reads p before after r → Reads p before after' r'
    → (r ≡ r') × (after ≡ after')
one_read {after = after} {after' = after'} {r = r} {r' = r'} f g =
    (one_told r r' after.at after'.at f.result g.result, same_reader (f.image ∙ sym g.image) (f.stands ∙ sym g.stands))

-- `over`: the reader that is made, with the slice that it holds.
pub one_reader :
    (image : Bor (List ℕ)) (at : ℕ) (r r' : Reader) → (r.image ≡ image) × (r.at ≡ at) → (r'.image ≡ image) × (r'.at ≡ at) → r ≡ r'
one_reader image at r r' e f = same_reader (e.0 ∙ sym f.0) (e.1 ∙ sym f.1)

-- `next`: what it hands out, and the reader after it, after a refusal too.
pub one_next :
    (r : Reader) {n n' : Result ℕ Refusal} {after after' : Reader} → (told n after.at ≡ number_at r.image.now r.at) × (after ≡ moved r)
    → (told n' after'.at ≡ number_at r.image.now r.at) × (after' ≡ moved r) → (n ≡ n') × (after ≡ after')
one_next r {n} {n'} {after} {after'} e f = (one_told n n' after.at after'.at e.0 f.0, e.1 ∙ sym f.1)

-- `stands`
pub one_place : (r : Reader) (n n' : ℕ) → n ≡ r.at → n' ≡ r.at → n ≡ n'
one_place r n n' e f = e ∙ sym f

-- Where a reader stands after a reading.
pub one_after : (read : Result Number Refusal) (at n n' : ℕ) → n ≡ behind (reading read) at → n' ≡ behind (reading read) at → n ≡ n'
one_after read at n n' e f = e ∙ sym f

-- A byte as a wider number.
pub one_wide : (b r r' : ℕ) → (r ≡ b) × (r ≤ 255) → (r' ≡ b) × (r' ≤ 255) → r ≡ r'
one_wide b r r' e f = e.0 ∙ sym f.0
