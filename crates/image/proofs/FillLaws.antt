-- A loop that puts readings down, by the code's own values.
use Rattle.std.proofs.Common.{ℕ, ◌+◌, ◌<◌, ◌≡◌, refl, ap, sym, subst, ◌∙◌, List, set, Result, Ok, Err, IsErrAnd}
use Rattle.reader.specs.declared.reader.Reader.{Reader}
use Rattle.reader.specs.declared.refusal.Refusal.{Refusal}
use Rattle.reader.specs.Meant.{Reads, Gives}
use Rattle.reader.specs.MeantLaws.{gives}
use Rattle.format.specs.Reading.{Reading}
use Rattle.image.specs.Filled.{Fills, Puts}
use Rattle.image.specs.FilledLaws.{Filling, filling_more, filling_stops, fills_fault}

-- What holds of a refusal holds of the result that a `?` hands on.
pub err_is : {T E : Type 0} (P : Result T E → Type 0) {r : Result T E} {e : E} → IsErrAnd r (λ x. x ≡ e) → P (Err e) → P r
err_is P {r = Ok _} q p = elim q [ ]
err_is P {r = Err x} q p = subst (λ e. P (Err e)) (sym q) p

module _ (p : List ℕ → ℕ → ℕ → Reading ℕ) (to N : ℕ) {from middle : Reader} {before now : List ℕ} {i : ℕ}
    (f : Filling (p from.image.now) to N from.at before now i middle.at × (middle.image ≡ from.image)) where
  -- One more is read and put down.
  pub one_more :
      {after : Reader} {w : ℕ} (j : ℕ) → j ≡ to + i → i < N → Reads (p middle.image.now i) middle after (Ok w)
      → Filling (p from.image.now) to N from.at before (set now j w) (i + 1) after.at × (after.image ≡ from.image)
  one_more j is h r =
      (rw is (filling_more (p from.image.now) to N f.0 h (r.result ∙ ap (λ image. p image.now i middle.at) f.1)), r.image ∙ f.1)

  -- One cannot be read.
  pub one_refused :
      {after : Reader} {e : Refusal} {r : Result (Unit {0}) Refusal} → IsErrAnd r (λ x. x ≡ e) → i < N → Gives (p middle.image.now i) middle after (Err e)
      → Puts (p from.image.now) to N from after before now r
  one_refused {after} q h r =
      let s = filling_stops (p from.image.now) to N f.0 h (r.result ∙ ap (λ image. p image.now i middle.at) f.1) in
      err_is (Puts (p from.image.now) to N from after before now) q (record { result = s.0; image = r.image ∙ f.1; array = s.1 })

  -- The reader that was lent is left where it stood.
  pub one_stops :
      {after : Reader} {e : Refusal} {r : Result (Unit {0}) Refusal} → IsErrAnd r (λ x. x ≡ e) → i < N → Reads (p middle.image.now i) middle after (Err e)
      → Fills (p from.image.now) to N from from before now r
  one_stops {e = e} q h r = err_is (Fills (p from.image.now) to N from from before now) q (fills_fault (one_refused {r = Err e} refl h (gives r)))
