-- A written byte at a place of a text.
use Rattle.std.proofs.Common.{ℕ, ◌+◌, ◌≤◌, ◌<◌, ◌≡◌, ap, sym, ◌∙◌, List, [], ◌∷◌, arith, add-one, length, drop, get_or}
use Rattle.std.specs.Prelude.{Option, Some, None}
use lib.ListN.{drop_of_length-le}
use lib.Seq.{drop-cons, drop-drop}
use Rattle.notation.specs.Lexer.{Piece}
use Rattle.chars.specs.declared.written.Read.{Read}
use Rattle.chars.specs.Meant.{Reads}

module _ (text : List ℕ) (at : ℕ) where
  pub over : length text ≤ at → drop at text ≡ []
  over h = drop_of_length-le text h

  pub front : at < length text → drop at text ≡ get_or text at 0 ∷ drop (at + 1) text
  front h = drop-cons text at 0 h ∙ ap (λ n. get_or text at 0 ∷ drop n text) (sym (add-one at))

  pub behind : drop 1 (drop at text) ≡ drop (at + 1) text
  behind = drop-drop 1 at text

-- What was read further on.
pub reads_on : {A V : Type 0} (of : V → A) {w v : Piece A} (text : List ℕ) {at from : ℕ} → w ≡ v → at ≤ from → (r : Option (Read V)) → Reads of v text from r → Reads of w text at r
reads_on of text e h None s = e ∙ s
reads_on of text e h (Some r) s = record { is = e ∙ s.is; onward = omega (arith, s.onward); within = s.within }
