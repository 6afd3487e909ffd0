-- A row at a place of a text: what was read there, and what is still to come.
use Rattle.std.proofs.Common.{ℕ, ◌+◌, ◌≤◌, ◌<◌, ◌≡◌, refl, ap, ◌∙◌, Bool, true, false, List, [], ◌∷◌, leb, arith, length, drop, get_or}
use Rattle.std.proofs.Math.Option.{Option, some, none}
use borrow.Author.Tests.{leb-true, leb-false}
use Rattle.notation.specs.Lexer.{Piece, piece, no, ◌then◌, ◌∷ᵖ◌, fresh, quote, begin, parts}
use Rattle.notation.specs.LexicalText.{no_way}
use Rattle.notation.specs.At.{value, quoted_of, parts_of}
use Rattle.chars.specs.CharLaws.{Row}
use Rattle.chars.specs.Meant.{Stands}
use Rattle.chars.proofs.WrittenLaws.{over, front}

module _ {A : Type 0} {one : List ℕ → Piece A} {stop : ℕ} {row : List ℕ → Piece (List A)} (law : Row one stop row) (text : List ℕ) (i : ℕ) where
  pub row_over : length text ≤ i → row (drop i text) ≡ no
  row_over h = ap row (over text i h) ∙ law.over

  module _ (h : i < length text) where
    pub row_ends : get_or text i 0 ≡ stop → row (drop i text) ≡ piece [] (drop (i + 1) text)
    row_ends e = ap row (front text i h) ∙ law.ends (get_or text i 0) (drop (i + 1) text) e

    module _ (k : get_or text i 0 ≡ stop → ⊥) where
      row_next : row (drop i text) ≡ (one (drop i text) then λ x t. x ∷ᵖ row t)
      row_next = rw (front text i h) (law.on (get_or text i 0) (drop (i + 1) text) k)

      pub row_fails : one (drop i text) ≡ no → row (drop i text) ≡ no
      unfolding ◌then◌
      row_fails e = row_next ∙ rw e

      pub row_on : {x : A} {n : ℕ} → Stands (one (drop i text)) x text i n → row (drop i text) ≡ (x ∷ᵖ row (drop n text))
      unfolding ◌then◌
      row_on r = row_next ∙ rw r.is

-- ## On the way through a row, which ends where the rest of it does

-- The bytes behind a piece.
abbrev behind : {A : Type 0} → Piece A → Option (List ℕ)
behind (piece x r) = some r
behind no = none

behind_cons : {A : Type 0} (x : A) (o : Piece (List A)) → behind (x ∷ᵖ o) ≡ behind o
unfolding ◌∷ᵖ◌
behind_cons x (piece xs r) = refl
behind_cons x no = refl

is_none : {A : Type 0} (o : Piece (List A)) → behind o ≡ none → o ≡ no
is_none (piece x r) e = no_way (cc)
is_none no e = refl

pub record Passed {A : Type 0} (row : List ℕ → Piece (List A)) (text : List ℕ) (from i : ℕ) : Type 0 where
  pub on : from ≤ i
  pub rest : behind (row (drop from text)) ≡ behind (row (drop i text))

module _ {A : Type 0} {one : List ℕ → Piece A} {stop : ℕ} {row : List ℕ → Piece (List A)} (law : Row one stop row) {text : List ℕ} {from i : ℕ} (p : Passed row text from i) where
  module _ (h : i < length text) where
    module _ (k : get_or text i 0 ≡ stop → ⊥) where
      pub passed_fails : one (drop i text) ≡ no → row (drop from text) ≡ no
      passed_fails z = is_none (row (drop from text)) (p.rest ∙ ap behind (row_fails law text i h k z))

      pub passed_on : {x : A} {n : ℕ} → Stands (one (drop i text)) x text i n → Passed row text from n
      passed_on {x} {n} r = record {
        on = omega (arith, p.on, r.onward);
        rest = p.rest ∙ ap behind (row_on law text i h k r) ∙ behind_cons x (row (drop n text));
      }

-- ## Where a row stands whole

module _ {A : Type 0} {one : List ℕ → Piece A} {stop : ℕ} {row : List ℕ → Piece (List A)} (law : Row one stop row) (text : List ℕ) (i : ℕ) (whole : row (drop i text) ≡ no → ⊥) where
  pub whole_inside : i < length text
  whole_inside = go (leb (length text) i) refl
    where
      go : (b : Bool) → leb (length text) i ≡ b → i < length text
      go true e = absurd (whole (row_over law text i (leb-true (length text) i e)))
      go false e = leb-false (length text) i e

  module _ (k : get_or text i 0 ≡ stop → ⊥) where
    pub whole_reads : one (drop i text) ≡ no → ⊥
    whole_reads e = whole (row_fails law text i whole_inside k e)

    module _ {x : A} {n : ℕ} (r : Stands (one (drop i text)) x text i n) where
      pub whole_on : row (drop n text) ≡ no → ⊥
      unfolding ◌∷ᵖ◌
      whole_on e = whole (row_on law text i whole_inside k r ∙ rw e)

      pub whole_value : value (row (drop i text)) ≡ x ∷ value (row (drop n text))
      unfolding ◌∷ᵖ◌
      whole_value = ap value (row_on law text i whole_inside k r) ∙ cons (row (drop n text)) whole_on
        where
          cons : (o : Piece (List A)) → (o ≡ no → ⊥) → value (x ∷ᵖ o) ≡ x ∷ value o
          cons (piece xs r) n = refl
          cons no n = absurd (n refl)

-- ## The rows that stand at a place

module _ (text : List ℕ) (p : ℕ) (h : p < length text) where
  pub quoted_is : value (quote (get_or text p 0) fresh (drop (p + 1) text)) ≡ quoted_of (drop p text)
  unfolding quoted_of
  quoted_is = rw (front text p h)

  pub parts_are : value (parts begin fresh (drop (p + 1) text)) ≡ parts_of (drop p text)
  unfolding parts_of
  parts_are = rw (front text p h)
