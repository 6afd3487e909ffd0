-- Laws of what the kinds make of an outcome.
use Rattle.std.specs.Prelude.{ℕ, ◌+◌, ◌-◌, ◌*◌, ◌≤◌, ◌<◌, ◌≡◌, refl, Bool, List, length, drop}
use Rattle.std.proofs.Common.{ap, sym, ◌∙◌, subst, arith, length-take, length-drop, lt-ltb, le-ltb}
use Rattle.format.specs.Reading.{pick}
use Rattle.meaning.specs.State.{Symbol}
use Rattle.meaning.specs.Outcome.{text}
use Rattle.meaning.specs.Inside.{Part}
use Rattle.parts.specs.declared.outcome.Stop.{Stop}
use Rattle.parts.specs.declared.outcome.Stop.TheVariants.{Room}
use Rattle.parts.specs.declared.outcome.Outcome.{Outcome}
use Rattle.parts.specs.declared.outcome.Outcome.TheVariants.{Passed, Failed, Refused}
use Rattle.parts.specs.Slots.{putting, Closes}
use Rattle.kinds.specs.Turned.{Bounds, Lent, negated_of, restored_of, compared_of, defined_of, defined_in, ClosedOf}

-- An outcome that is not passed; one that is not failed.
pub data Stops : Outcome → Type 0 where
  at_failed : {s d : ℕ} → Stops (Failed s d)
  at_refused : {n : Stop} {p s d : ℕ} → Stops (Refused n p s d)

pub data Stays : Outcome → Type 0 where
  on_passed : {a h s d : ℕ} → Stays (Passed a h s d)
  on_refused : {n : Stop} {p s d : ℕ} → Stays (Refused n p s d)

-- Which an outcome is.
pub stops : (o : Outcome) → ((a h s d : ℕ) → o ≡ Passed a h s d → ⊥) → Stops o
stops (Passed a h s d) f = absurd (f a h s d refl)
stops (Failed s d) f = at_failed
stops (Refused n p s d) f = at_refused

pub stays : (o : Outcome) → ((s d : ℕ) → o ≡ Failed s d → ⊥) → Stays o
stays (Passed a h s d) f = on_passed
stays (Failed s d) f = absurd (f s d refl)
stays (Refused n p s d) f = on_refused

-- What is not passed is handed on as it is.
pub restored_stops : {o : Outcome} (held : ℕ) → Stops o → o ≡ restored_of held o
restored_stops held at_failed = refl
restored_stops held at_refused = refl

pub negated_stops : {o : Outcome} (at held : ℕ) → Stops o → Stays o → o ≡ negated_of at held o
negated_stops at held (at_failed {s = s} {d = d}) x = elim x [ ]
negated_stops at held at_refused on_refused = refl

pub compared_stops : {o : Outcome} (test : ℕ → Bool) (held : ℕ) → Stops o → o ≡ compared_of test held o
compared_stops test held at_failed = refl
compared_stops test held at_refused = refl

pub defined_stops : {o : Outcome} (room table at held : ℕ) (slots : List ℕ) → Stops o
    → (o ≡ defined_of room table at held o) × (slots ≡ defined_in room table at held o slots)
defined_stops room table at held slots at_failed = (refl, refl)
defined_stops room table at held slots at_refused = (refl, refl)

pub closed_stops : {o : Outcome} (table held : ℕ) (slots : List ℕ) → Stops o → ClosedOf table held o slots slots o
closed_stops table held slots at_failed = (refl, refl)
closed_stops table held slots at_refused = (refl, refl)

-- Bounds that ask less.
pub wider : (n at held room m b k r : ℕ) (o : Outcome) → n ≤ m → b ≤ at → k ≤ held → room ≤ r → Bounds n at held room o → Bounds m b k r o
wider n at held room m b k r (Passed a h s d) l i j e f =
    (omega (arith, f.0), omega (arith, f.1), omega (arith, f.2), omega (arith, f.3), f.4, f.5)
wider n at held room m b k r (Failed s d) l i j e f = f
wider n at held room m b k r (Refused c p s d) l i j e f = f

pub lent_by : (n at held room : ℕ) (slots : List ℕ) (o : Outcome) → room * 3 ≤ length slots → Bounds n at held room o → Lent slots o
lent_by n at held room slots (Passed a h s d) l f = omega (arith, f.3)
lent_by n at held room slots (Failed s d) l f = tt
lent_by n at held room slots (Refused k p s d) l f = tt

-- A name is stored if there is room, and else refused.
module _ (room table at held : ℕ) (slots : List ℕ) {o : Outcome} (a h s d : ℕ) (e : o ≡ Passed a h s d) where
  pub defined_stores : held < room → {q : Outcome} → q ≡ Passed a (held + 1) s d → {after : List ℕ} → after ≡ putting slots held table at a
      → (q ≡ defined_of room table at held o) × (after ≡ defined_in room table at held o slots)
  defined_stores l f g = (
    f ∙ sym (ap (defined_of room table at held) e ∙ ap (λ b. pick b (Passed a (held + 1) s d) (Refused Room at s d)) (lt-ltb held room l)),
    g ∙ sym (ap (λ o. defined_in room table at held o slots) e ∙ ap (λ b. pick b (putting slots held table at a) slots) (lt-ltb held room l)),
  )

  pub defined_full : room ≤ held → {q : Outcome} → q ≡ Refused Room at s d → {after : List ℕ} → after ≡ slots
      → (q ≡ defined_of room table at held o) × (after ≡ defined_in room table at held o slots)
  defined_full l f g = (
    f ∙ sym (ap (defined_of room table at held) e ∙ ap (λ b. pick b (Passed a (held + 1) s d) (Refused Room at s d)) (le-ltb held room l)),
    g ∙ sym (ap (λ o. defined_in room table at held o slots) e ∙ ap (λ b. pick b (putting slots held table at a) slots) (le-ltb held room l)),
  )

-- A scope that is closed.
pub closed_slides : (table held : ℕ) (before after : List ℕ) {o q : Outcome} (a h k s d : ℕ) → o ≡ Passed a h s d → q ≡ Passed a k s d
    → Closes table held h before after k → ClosedOf table held o before after q
closed_slides table held before after {q = q} a h k s d e f g = subst (λ o. ClosedOf table held o before after q) (sym e) (k, f, g)

-- The bytes of a symbol are as many as it says.
pub text_length : (x : List ℕ) (s : Symbol) → Part (length x) s → length (text x s) ≡ s.to - s.from
text_length x s h =
    length-take (s.to - s.from) (drop s.from x) ∙ rw (length-drop s.from x) (omega (arith, h.inside))
