-- Quoted text and classes go a byte at a time; here they go a written byte and a part at a time.
use Rattle.std.specs.Prelude.{ℕ, ◌≡◌, Bool, drop}
use Rattle.std.proofs.Math.Path.{refl}
use Rattle.std.proofs.Common.{subst, sym, ◌∙◌}
use Rattle.std.proofs.Math.Bool.{true, false}
use mathlib.Core.List.{List, [], ◌∷◌}
use Rattle.std.proofs.Math.Option.{Option, some, none}
use Rattle.std.proofs.Math.Dec.{eqb, leb}
use borrow.Author.Tests.{eq-eqb, ne_eqb, eqb-true, eqb-false}
use Rattle.format.specs.Reading.{pick}
use Rattle.notation.specs.Bytes.{hex_digit, escape, one_of}
use Rattle.notation.specs.Tree.{Part}
use Rattle.notation.specs.Lexer.{Piece, piece, no, ◌then◌, ◌∷ᵖ◌, ◌++ᵖ◌, Stage, fresh, escaped, hex, hex2, Fed, goes, gives, wrong, high, low, simple, feed, at_mark, quote, range, Place, begin, behind, dashed, begun, ranged, turn, parts}
use Rattle.notation.specs.LexicalText.{no_way}
use Rattle.chars.specs.Char.{pair, hex_of, one, escaped_of, char_of, ranges, up_to, part_from, part_of}

-- A row of pieces, one behind the other, up to a byte that ends it.
pub record Row {A : Type 0} (one : List ℕ → Piece A) (stop : ℕ) (row : List ℕ → Piece (List A)) : Type 0 where
  pub over : row [] ≡ no
  pub ends : (b : ℕ) (s : List ℕ) → b ≡ stop → row (b ∷ s) ≡ piece [] s
  pub on : (b : ℕ) (s : List ℕ) → (b ≡ stop → ⊥) → row (b ∷ s) ≡ (one (b ∷ s) then λ x t. x ∷ᵖ row t)

-- ## Any reading that is fed a byte at a time

-- `run g` reads on in the middle of a written byte, and `more c` goes on behind the byte c.
module _ {B : Type 0} (run : Stage → List ℕ → Piece B) (more : ℕ → List ℕ → Piece B) where
  -- What follows from what a byte was found to be.
  abbrev after : Fed → List ℕ → Piece B
  after (goes g) s = run g s
  after (gives c) s = more c s
  after wrong s = no

  module _
      (stop : ℕ)
      (over : (g : Stage) → run g [] ≡ no)
      (feeds : (g : Stage) (b : ℕ) (s : List ℕ) → at_mark stop g b ≡ false → run g (b ∷ s) ≡ after (feed g b) s)
    where
      -- The second hex digit; the first; what stands behind a `\`; a whole byte.
      from_low : (d u : ℕ) → hex_digit d ≡ some u → (s : List ℕ) → run (hex2 u) s ≡ (hex_of (d ∷ s) then more)
      unfolding hex_of pair ◌then◌ feed low at_mark
      from_low d u x [] = over (hex2 u)
      from_low d u x (b ∷ s) = go (hex_digit b) refl
        where
          go : (o : Option ℕ) → hex_digit b ≡ o → run (hex2 u) (b ∷ s) ≡ (hex_of (d ∷ b ∷ s) then more)
          go (some v) y = feeds (hex2 u) b s refl ∙ rw (x, y)
          go none y = feeds (hex2 u) b s refl ∙ rw (x, y)

      from_high : (s : List ℕ) → run hex s ≡ (hex_of s then more)
      unfolding hex_of pair ◌then◌ feed high at_mark
      from_high [] = over hex
      from_high (d ∷ s) = go (hex_digit d) refl
        where
          none_here : hex_digit d ≡ none → (s : List ℕ) → no ≡ (hex_of (d ∷ s) then more)
          none_here x [] = refl
          none_here x (e ∷ s) = rw x

          go : (o : Option ℕ) → hex_digit d ≡ o → run hex (d ∷ s) ≡ (hex_of (d ∷ s) then more)
          go (some u) x = feeds hex d s refl ∙ rw x (from_low d u x s)
          go none x = feeds hex d s refl ∙ rw x (none_here x s)

      from_escape : (s : List ℕ) → run escaped s ≡ (escaped_of s then more)
      unfolding escaped_of one ◌then◌ feed simple at_mark
      from_escape [] = over escaped
      from_escape (b ∷ s) = go (eqb b 120) (escape b) refl refl
        where
          go : (t : Bool) (o : Option ℕ) → eqb b 120 ≡ t → escape b ≡ o → run escaped (b ∷ s) ≡ (escaped_of (b ∷ s) then more)
          go true o x y = feeds escaped b s refl ∙ rw x (from_high s)
          go false (some c) x y = feeds escaped b s refl ∙ rw (x, y)
          go false none x y = feeds escaped b s refl ∙ rw (x, y)

      by_bytes : (b : ℕ) (s : List ℕ) → (b ≡ stop → ⊥) → run fresh (b ∷ s) ≡ (char_of (b ∷ s) then more)
      unfolding char_of ◌then◌ feed at_mark
      by_bytes b s n = go (eqb b 92) (one_of "\n\r" b) refl refl
        where
          fed : run fresh (b ∷ s) ≡ after (feed fresh b) s
          fed = feeds fresh b s (ne_eqb b stop n)

          go : (t u : Bool) → eqb b 92 ≡ t → one_of "\n\r" b ≡ u → run fresh (b ∷ s) ≡ (char_of (b ∷ s) then more)
          go true u x y = fed ∙ rw x (from_escape s)
          go false true x y = fed ∙ rw (x, y)
          go false false x y = fed ∙ rw (x, y)

-- ## Quoted text

module _ (mark : ℕ) where
  -- The bytes behind the byte c.
  abbrev quote_on : ℕ → List ℕ → Piece (List ℕ)
  quote_on c s = c ∷ᵖ quote mark fresh s

  quote_feeds : (g : Stage) (b : ℕ) (s : List ℕ) → at_mark mark g b ≡ false → quote mark g (b ∷ s) ≡ after (quote mark) quote_on (feed g b) s
  unfolding quote
  quote_feeds g b s m = go (feed g b) refl
    where
      go : (f : Fed) → feed g b ≡ f → quote mark g (b ∷ s) ≡ after (quote mark) quote_on (feed g b) s
      go (goes h) e = rw (m, e, quote)
      go (gives c) e = rw (m, e, quote)
      go wrong e = rw (m, e, quote)

  -- Quoted text is a row of written bytes, up to its mark.
  pub quoted_row : Row char_of mark (quote mark fresh)
  unfolding quote at_mark
  quoted_row = record {
    over = refl;
    ends = λ b s e. rw (eq-eqb b mark e, quote);
    on = by_bytes (quote mark) quote_on mark (λ g. refl) quote_feeds;
  }

-- ## Classes

-- The parts behind the part p.
abbrev parts_on : Part → List ℕ → Piece (List Part)
parts_on p s = p ∷ᵖ parts begin fresh s

-- What follows the second byte of a range.
abbrev range_on : ℕ → ℕ → List ℕ → Piece (List Part)
range_on lo hi s = pick (leb lo hi) (parts_on (range lo hi) s) no

parts_over : (p : Place) (g : Stage) → parts p g [] ≡ no
unfolding parts
parts_over p g = refl

begin_feeds : (g : Stage) (b : ℕ) (s : List ℕ) → at_mark 93 g b ≡ false
    → parts begin g (b ∷ s) ≡ after (parts begin) (λ c s. parts (behind c) fresh s) (feed g b) s
unfolding parts turn begun ◌++ᵖ◌
begin_feeds g b s m = go (feed g b) refl
  where
    go : (f : Fed) → feed g b ≡ f → parts begin g (b ∷ s) ≡ after (parts begin) (λ c s. parts (behind c) fresh s) (feed g b) s
    go (goes h) e = rw (m, e, parts)
    go (gives c) e = rw (m, e, parts)
    go wrong e = rw (m, e, parts)

dashed_feeds : (lo : ℕ) (g : Stage) (b : ℕ) (s : List ℕ) → at_mark 93 g b ≡ false
    → parts (dashed lo) g (b ∷ s) ≡ after (parts (dashed lo)) (range_on lo) (feed g b) s
unfolding parts turn ranged ◌++ᵖ◌
dashed_feeds lo g b s m = go (feed g b) refl
  where
    bounds : (c : ℕ) (t : Bool) → leb lo c ≡ t → feed g b ≡ gives c → parts (dashed lo) g (b ∷ s) ≡ after (parts (dashed lo)) (range_on lo) (feed g b) s
    bounds c true l e = rw (m, e, l, parts)
    bounds c false l e = rw (m, e, l, parts)

    go : (f : Fed) → feed g b ≡ f → parts (dashed lo) g (b ∷ s) ≡ after (parts (dashed lo)) (range_on lo) (feed g b) s
    go (goes h) e = rw (m, e, parts)
    go (gives c) e = bounds c (leb lo c) refl e
    go wrong e = rw (m, e, parts)

-- Behind the byte lo.
module _ (lo : ℕ) where
  other : (b : ℕ) (s : List ℕ) → (b ≡ 93 → ⊥) → (b ≡ 45 → ⊥) → parts (behind lo) fresh (b ∷ s) ≡ parts_on (range lo lo) (b ∷ s)
  unfolding parts turn begun at_mark ◌++ᵖ◌ ◌∷ᵖ◌
  other b s n m = go (feed fresh b) refl
    where
      go : (f : Fed) → feed fresh b ≡ f → parts (behind lo) fresh (b ∷ s) ≡ parts_on (range lo lo) (b ∷ s)
      go (goes h) e = rw (ne_eqb b 93 n, ne_eqb b 45 m, e, parts)
      go (gives c) e = rw (ne_eqb b 93 n, ne_eqb b 45 m, e, parts)
      go wrong e = rw (ne_eqb b 93 n, ne_eqb b 45 m, e, parts)

  dash : (s : List ℕ) → ranges (45 ∷ s) ≡ false → parts (behind lo) fresh (45 ∷ s) ≡ parts_on (range lo lo) (45 ∷ s)
  unfolding ranges parts turn begun feed at_mark ◌++ᵖ◌ ◌∷ᵖ◌
  dash [] k = refl
  dash (c ∷ s) k = go (eqb c 93) refl
    where
      go : (t : Bool) → eqb c 93 ≡ t → parts (behind lo) fresh (45 ∷ c ∷ s) ≡ parts_on (range lo lo) (45 ∷ c ∷ s)
      go true e = rw (eqb-true c 93 e)
      go false e = let z : true ≡ false = rw e at k in no_way (cc)

  -- No range stands here: the byte alone is a part.
  alone : (s : List ℕ) → ranges s ≡ false → parts (behind lo) fresh s ≡ parts_on (range lo lo) s
  unfolding parts turn at_mark ◌∷ᵖ◌
  alone [] k = refl
  alone (b ∷ s) k = go (eqb b 93) (eqb b 45) refl refl
    where
      go : (t u : Bool) → eqb b 93 ≡ t → eqb b 45 ≡ u → parts (behind lo) fresh (b ∷ s) ≡ parts_on (range lo lo) (b ∷ s)
      go true u x y = rw (eqb-true b 93 x)
      go false true x y = rw (eqb-true b 45 y) (dash s (subst (λ b. ranges (b ∷ s) ≡ false) (eqb-true b 45 y) k))
      go false false x y = other b s (eqb-false b 93 x) (eqb-false b 45 y)

  -- A range goes on behind its second byte.
  range_bound : (o : Piece ℕ) → (o then range_on lo) ≡ (up_to lo o then parts_on)
  unfolding up_to ◌then◌
  range_bound no = refl
  range_bound (piece hi s) = go (leb lo hi) refl
    where
      go : (t : Bool) → leb lo hi ≡ t → range_on lo hi s ≡ (up_to lo (piece hi s) then parts_on)
      go true e = rw e
      go false e = rw e

  range_next : (s : List ℕ) → parts (behind lo) fresh (45 ∷ s) ≡ parts (dashed lo) fresh s
  unfolding parts turn ◌++ᵖ◌
  range_next s = refl

  ranged_on : (s : List ℕ) → ranges s ≡ true → parts (behind lo) fresh s ≡ (up_to lo (char_of (drop 1 s)) then parts_on)
  unfolding ranges
  ranged_on [] k = no_way (cc)
  ranged_on (b ∷ []) k = no_way (cc)
  ranged_on (b ∷ c ∷ s) k = go (eqb b 45) (eqb c 93) refl refl
    where
      go : (t u : Bool) → eqb b 45 ≡ t → eqb c 93 ≡ u → parts (behind lo) fresh (b ∷ c ∷ s) ≡ (up_to lo (char_of (c ∷ s)) then parts_on)
      go true true x y = let z : false ≡ true = rw (x, y) at k in no_way (cc)
      go true false x y =
          rw (eqb-true b 45 x)
          (range_next (c ∷ s) ∙ by_bytes (parts (dashed lo)) (range_on lo) 93 (parts_over (dashed lo)) (dashed_feeds lo) c s (eqb-false c 93 y)
          ∙ range_bound (char_of (c ∷ s)))
      go false u x y = let z : false ≡ true = rw x at k in no_way (cc)

  behind_on : (s : List ℕ) → parts (behind lo) fresh s ≡ (part_from lo s then parts_on)
  unfolding part_from ◌then◌
  behind_on s = go (ranges s) refl
    where
      go : (t : Bool) → ranges s ≡ t → parts (behind lo) fresh s ≡ (part_from lo s then parts_on)
      go true k = rw k (ranged_on s k)
      go false k = rw k (alone s k)

begin_on : (b : ℕ) (s : List ℕ) → (b ≡ 93 → ⊥) → parts begin fresh (b ∷ s) ≡ (part_of (b ∷ s) then parts_on)
unfolding part_of ◌then◌
begin_on b s n =
    by_bytes (parts begin) (λ c s. parts (behind c) fresh s) 93 (parts_over begin) begin_feeds b s n ∙ both (char_of (b ∷ s))
  where
    both : (o : Piece ℕ) → (o then λ c s. parts (behind c) fresh s) ≡ ((o then part_from) then parts_on)
    both no = refl
    both (piece lo s) = behind_on lo s

-- A class is a row of parts, up to its `]`.
pub class_row : Row part_of 93 (parts begin fresh)
unfolding parts turn at_mark
class_row = record { over = refl; ends = λ b s e. rw (e, parts); on = begin_on }

pub class_row_to : (b : ℕ) → eqb b 93 ≡ true → Row part_of b (parts begin fresh)
class_row_to b e = subst (λ b. Row part_of b (parts begin fresh)) (sym (eqb-true b 93 e)) class_row
