-- Laws of the slots as a call leaves them.
use Rattle.std.specs.Prelude.{ℕ, ◌-◌, ◌*◌, ◌≤◌, ◌≡◌, refl, List, [], ◌∷◌, ◌++◌, length, drop, replicate}
use Rattle.std.proofs.Common.{ap, ◌∙◌, sym, append_assoc, arith, length-append, length-drop, drop_at}
use Rattle.std.proofs.lemmas.List.{length-replicate}
use Rattle.meaning.specs.State.{State}
use Rattle.meaning.specs.Recognise.{flat, filled}

pub flat_length : (τ : State) → length (flat τ) ≡ 3 * length τ
flat_length [] = refl
flat_length (s ∷ τ) = omega (arith, flat_length τ)

module _ (R : ℕ) (τ : State) (slots : List ℕ) (h : length τ ≤ R) where
  front : length (flat τ ++ replicate (3 * R - 3 * length τ) 0) ≡ 3 * R
  front =
      length-append (flat τ) (replicate (3 * R - 3 * length τ) 0)
      ∙ rw (flat_length τ, length-replicate {A = ℕ} (3 * R - 3 * length τ) 0) (omega arith)

  -- Numbers past 3R are as they were.
  pub past_same : drop (3 * R) (filled R τ slots) ≡ drop (3 * R) slots
  past_same =
      ap (drop (3 * R)) (sym (append_assoc (flat τ) (replicate (3 * R - 3 * length τ) 0) (drop (3 * R) slots)))
      ∙ drop_at (flat τ ++ replicate (3 * R - 3 * length τ) 0) (drop (3 * R) slots) (3 * R) front

  -- The buffer keeps its length.
  pub filled_length : 3 * R ≤ length slots → length (filled R τ slots) ≡ length slots
  filled_length l =
      ap length (sym (append_assoc (flat τ) (replicate (3 * R - 3 * length τ) 0) (drop (3 * R) slots)))
      ∙ length-append (flat τ ++ replicate (3 * R - 3 * length τ) 0) (drop (3 * R) slots)
      ∙ rw (front, length-drop (3 * R) slots) (omega arith)
