-- Slips by their numbers in 02.
use Rattle.std.specs.Prelude.{ℕ, ◌≡◌, eqb}
use Rattle.std.proofs.Common.{refl, ap, ap₂, sym, ◌∙◌}
use Rattle.format.specs.Reading.{pick}
use Rattle.compiler.specs.declared.refusal.Slip.{Slip}
use Rattle.compiler.specs.declared.refusal.Slip.TheVariants.{Unread, Undefined, Twice, Unlike, OverLimit, NoRoom}
use Rattle.compiler.specs.declared.refusal.Refusal.{Refusal}
use Rattle.walker.specs.declared.walk.Unread as U

abbrev pub number_of : Slip → ℕ
number_of Unread = 20
number_of Undefined = 21
number_of Twice = 22
number_of Unlike = 23
number_of OverLimit = 24
number_of NoRoom = 25

-- The slip of a number, `Unread` for all that are none.
abbrev slip_of : ℕ → Slip
slip_of n =
    pick (eqb n 21) Undefined (pick (eqb n 22) Twice (pick (eqb n 23) Unlike (pick (eqb n 24) OverLimit (pick (eqb n 25) NoRoom Unread))))

slip_back : (s : Slip) → slip_of (number_of s) ≡ s
slip_back Unread = refl
slip_back Undefined = refl
slip_back Twice = refl
slip_back Unlike = refl
slip_back OverLimit = refl
slip_back NoRoom = refl

-- ONE SLIP FOR A NUMBER: the table is one to one.
pub one_slip : (s t : Slip) → number_of s ≡ number_of t → s ≡ t
one_slip s t e = sym (slip_back s) ∙ ap slip_of e ∙ slip_back t

-- So a refusal is told by its number and its place.
pub one_refusal : (r s : Refusal) → number_of r.slip ≡ number_of s.slip → r.place ≡ s.place → r ≡ s
one_refusal r s e h = ap₂ (λ x p. let f : Refusal = record { slip = x; place = p } in f) (one_slip r.slip s.slip e) h

-- A text that is not of the notation, by where its reading stops.
abbrev pub unread : U.Unread → Refusal
unread u = record { slip = Unread; place = u.at }
