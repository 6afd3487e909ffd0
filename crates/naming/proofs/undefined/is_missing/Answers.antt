-- `is_missing` meets its promise. Assumes nothing.
use Rattle.std.proofs.Common.{ℕ, ◌≡◌, ap, ◌∙◌, Bool, not, Result, Ok, Err}
use Rattle.std.specs.Result.{is_ok, is_err}
use Rattle.naming.proofs.SeekLaws.{seeks_member}
use Rattle.naming.proofs.undefined.is_missing.Goals as goal

errs : (r : Result ℕ ℕ) {b : Bool} → b ≡ is_err r → b ≡ not (is_ok r)
errs (Ok i) e = e
errs (Err i) e = e

pub returns : goal.returns
returns c = errs c.seek.result c.is_err.ensures.value ∙ ap not (seeks_member _ _ _ c.seek.ensures)
