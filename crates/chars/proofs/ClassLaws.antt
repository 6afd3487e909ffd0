-- A part of a class, by the byte that it begins with; and where a class ends.
use Rattle.std.proofs.Common.{ℕ, ◌+◌, ◌≤◌, ◌<◌, ◌≡◌, ◌∙◌, true, false, ◌⊎◌, inl, inr, List, ◌∷◌, arith, length, drop, get_or}
use Rattle.std.specs.Prelude.{Option, Some, None}
use borrow.Author.Tests.{eq-eqb, ne_eqb}
use Rattle.notation.specs.Tree as Tree
use Rattle.notation.specs.Token.{leaf}
use Rattle.notation.specs.Lexer.{Piece, piece, no, ◌then◌, ◌∷ᵖ◌, fresh, range, begin, parts, classed, class_here}
use Rattle.notation.specs.LexicalText.{no_way}
use Rattle.notation.specs.At.{class_of}
use Rattle.chars.specs.Char.{char_of, ranges, up_to, part_from, part_of}
use Rattle.chars.specs.CharLaws.{class_row}
use Rattle.chars.specs.Meant.{PartsEnd, ClassEnds}
use Rattle.chars.proofs.WrittenLaws.{over, front}

module _ (s : List ℕ) where
  pub part_none : char_of s ≡ no → part_of s ≡ no
  unfolding part_of ◌then◌
  part_none e = rw e

  module _ (lo : ℕ) (r : List ℕ) (e : char_of s ≡ piece lo r) where
    pub part_ranges : ranges r ≡ true → part_of s ≡ up_to lo (char_of (drop 1 r))
    unfolding part_of part_from ◌then◌
    part_ranges k = rw (e, k)

    pub part_alone : ranges r ≡ false → part_of s ≡ piece (range lo lo) r
    unfolding part_of part_from ◌then◌
    part_alone k = rw (e, k)

-- ## A class's end

-- Parts that begin with one make a class.
makes_class : (w : Piece Tree.Part) (o : Piece (List Tree.Part)) (f : List ℕ → Piece (List Tree.Part)) {xs : List Tree.Part} {r : List ℕ}
    → o ≡ (w then λ p t. p ∷ᵖ f t) → o ≡ piece xs r → classed o ≡ piece (leaf (class_of xs)) r
unfolding ◌then◌ ◌∷ᵖ◌ classed class_of
makes_class no o f e h = no_way (cc)
makes_class (piece p t) o f {xs} {r} e h = go (f t) e
  where
    go : (u : Piece (List Tree.Part)) → o ≡ (p ∷ᵖ u) → classed o ≡ piece (leaf (class_of xs)) r
    go no e = no_way (cc)
    go (piece ys s) e = let z : xs ≡ p ∷ ys = cc in rw (h, z)

module _ (text : List ℕ) (from : ℕ) where
  pub class_over : length text ≤ from → class_here (drop from text) ≡ no
  unfolding class_here
  class_over h = rw (over text from h)

  module _ (h : from < length text) where
    pub class_refused : (get_or text from 0 ≡ 94) ⊎ (get_or text from 0 ≡ 93) → class_here (drop from text) ≡ no
    unfolding class_here classed
    class_refused (inl e) = rw (front text from h, eq-eqb (get_or text from 0) 94 e)
    class_refused (inr e) =
        rw (front text from h, ne_eqb (get_or text from 0) 94 (λ z. omega arith), class_row.ends (get_or text from 0) (drop (from + 1) text) e)

    module _ (n : get_or text from 0 ≡ 94 → ⊥) (m : get_or text from 0 ≡ 93 → ⊥) where
      class_here_lem : class_here (drop from text) ≡ classed (parts begin fresh (drop from text))
      unfolding class_here
      class_here_lem = rw (front text from h, ne_eqb (get_or text from 0) 94 n)

      pub class_ends : (e : Option ℕ) → PartsEnd text from e → ClassEnds text from e
      unfolding classed
      class_ends None q = class_here_lem ∙ rw q
      class_ends (Some k) q = (
        class_here_lem
            ∙ makes_class (part_of (drop from text)) (parts begin fresh (drop from text)) (parts begin fresh)
            (rw (front text from h) (class_row.on (get_or text from 0) (drop (from + 1) text) m)) q.0,
        q.1,
        q.2,
      )
