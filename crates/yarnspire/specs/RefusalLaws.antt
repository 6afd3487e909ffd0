-- Each refusal has its own number, and it is one of the list.
use Rattle.std.specs.Prelude.{◌≤◌, ◌≡◌, refl}
use Rattle.std.proofs.Common.{ap, arith}
use Rattle.reader.specs.declared.refusal.Fault.{Fault}
use Rattle.reader.specs.declared.refusal.Fault.TheVariants.{TooLong, Cut, BadNumber, Edition, Counts, Tag, Range, Trailing}
use Rattle.reader.specs.Meant.{number_of}
use Rattle.reader.specs.Unique.{one_fault}
use Rattle.parts.specs.PackedLaws.{number_range, number_once}
use Rattle.yarnspire.specs.declared.answer.Refusal.{Refusal}
use Rattle.yarnspire.specs.declared.answer.Refusal.TheVariants.{Image, Input, Limits, Slots, Run}
use Rattle.yarnspire.specs.declared.answer.Answer.{Answer}
use Rattle.yarnspire.specs.declared.answer.Answer.TheVariants.{Accepted, Failed, Refused}
use Rattle.yarnspire.specs.Answer.{refusal_number, Listed}

-- A fault of the image is 1 to 8.
pub fault_range : (f : Fault) → (1 ≤ number_of f) × (number_of f ≤ 8)
fault_range TooLong = (omega arith, omega arith)
fault_range Cut = (omega arith, omega arith)
fault_range BadNumber = (omega arith, omega arith)
fault_range Edition = (omega arith, omega arith)
fault_range Counts = (omega arith, omega arith)
fault_range Tag = (omega arith, omega arith)
fault_range Range = (omega arith, omega arith)
fault_range Trailing = (omega arith, omega arith)

pub refusal_range : (w : Refusal) → (1 ≤ refusal_number w) × (refusal_number w ≤ 15)
refusal_range (Image f) = let r = fault_range f in (r.0, omega (arith, r.1))
refusal_range Input = (omega arith, omega arith)
refusal_range Limits = (omega arith, omega arith)
refusal_range Slots = (omega arith, omega arith)
refusal_range (Run s) = let r = number_range s in (omega (arith, r.0), r.1)

pub listed : (a : Answer) → Listed a
listed (Accepted n s d h) = tt
listed (Failed s d) = tt
listed (Refused w p s d) = refusal_range w

-- Which it is: each kind of refusal has a part of the list of its own.
pub one_why : (w w' : Refusal) → refusal_number w ≡ refusal_number w' → w ≡ w'
one_why (Image f) (Image g) e = ap Image (one_fault f g e)
one_why (Image f) Input e = absurd (omega (arith, e, (fault_range f).1))
one_why (Image f) Limits e = absurd (omega (arith, e, (fault_range f).1))
one_why (Image f) Slots e = absurd (omega (arith, e, (fault_range f).1))
one_why (Image f) (Run s) e = absurd (omega (arith, e, (fault_range f).1, (number_range s).0))
one_why Input (Image f) e = absurd (omega (arith, e, (fault_range f).1))
one_why Input Input e = refl
one_why Input Limits e = absurd (omega (arith, e))
one_why Input Slots e = absurd (omega (arith, e))
one_why Input (Run s) e = absurd (omega (arith, e, (number_range s).0))
one_why Limits (Image f) e = absurd (omega (arith, e, (fault_range f).1))
one_why Limits Input e = absurd (omega (arith, e))
one_why Limits Limits e = refl
one_why Limits Slots e = absurd (omega (arith, e))
one_why Limits (Run s) e = absurd (omega (arith, e, (number_range s).0))
one_why Slots (Image f) e = absurd (omega (arith, e, (fault_range f).1))
one_why Slots Input e = absurd (omega (arith, e))
one_why Slots Limits e = absurd (omega (arith, e))
one_why Slots Slots e = refl
one_why Slots (Run s) e = absurd (omega (arith, e, (number_range s).0))
one_why (Run s) (Image f) e = absurd (omega (arith, e, (fault_range f).1, (number_range s).0))
one_why (Run s) Input e = absurd (omega (arith, e, (number_range s).0))
one_why (Run s) Limits e = absurd (omega (arith, e, (number_range s).0))
one_why (Run s) Slots e = absurd (omega (arith, e, (number_range s).0))
one_why (Run s) (Run s') e = ap Run (number_once s s' e)
