-- An image that `load` finds good is good by `check`.
use Rattle.std.proofs.Common.{arith}
use Rattle.std.specs.Prelude.{ℕ, ◌≡◌, refl, Result, Ok}
use Rattle.reader.specs.declared.refusal.Refusal.{Refusal}
use Rattle.image.specs.declared.head.Head.{Head}
use Rattle.image.specs.Meant.{fine, loaded, answered, verdict}
use Rattle.format.specs.Image.{Checked, good, refused}

pub says_good : (x : Checked) {r : Result Head Refusal} {h : Head} → r ≡ Ok h → loaded r ≡ answered x → fine tt ≡ verdict x
says_good (good g) e l = refl
says_good (refused n p) e l = let z : ◌≡◌ {A = ℕ} 0 1 = cc in absurd (omega arith)
