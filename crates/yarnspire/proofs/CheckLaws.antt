-- What is said of an image: what the walk over it found is enough.
use Rattle.std.specs.Prelude.{ℕ, ◌≡◌, Result, List, get_or}
use Rattle.std.proofs.Common.{arith}
use mir.Syntax.{w8}
use mir.Val.{Fits}
use Rattle.format.specs.Image.{read_image}
use Rattle.image.specs.Meant.{checked, verdict}
use Rattle.reader.specs.declared.refusal.Refusal.{Refusal}
use Rattle.yarnspire.specs.Promise.{Checks}
use Rattle.yarnspire.specs.PromiseLaws.{checks}

pub said : (image : List ℕ) → ((i : ℕ) → Fits w8 (get_or image i 0)) → (r : Result (Unit {0}) Refusal) → checked r ≡ verdict (read_image image) → Checks image r
said image bytes r e = checks image (λ i. omega (arith, bytes i)) e
