-- The token that begins at a place, by its first byte.
use Prim.Native.Nat.{ℕ, ◌+◌, ◌≤◌, ◌<◌}
use mathlib.Core.Path.{◌≡◌, refl, sym, ◌∙◌}
use mathlib.Core.Bool.{Bool, true, false}
use mathlib.Core.Logic.{◌⊎◌, ⊎_elim}
use mathlib.Core.List.{List, [], ◌∷◌}
use native.Mathlib.Omega.{arith}
use lib.Dec.{eqb}
use lib.ListN.{drop, length, get_or}
use borrow.Author.Tests.{ne_eqb}
use Rattle.std.specs.Prelude.{Some, None}
use Rattle.notation.specs.Bytes.{letter}
use Rattle.notation.specs.Token.{leaf}
use Rattle.notation.specs.Tree.{Part, quoted, call}
use Rattle.notation.specs.LexicalText.{no_way}
use Rattle.notation.specs.LexicalGap.{past_again, unclosed_again}
use Rattle.notation.specs.Token as N
use Rattle.notation.specs.Lexer.{Piece, piece, no, ◌then◌, past, gap, named_here, fresh, quote, begin, parts, classed, class_here, token}
use Rattle.notation.specs.LexicalToken.{token_of}
use Rattle.notation.specs.At.{value, name_at, quoted_of, parts_of}
use Rattle.notation.specs.Places.{name_in}
use Rattle.chars.specs.Meant.{QuoteEnds, ClassEnds}
use Rattle.lexer.specs.declared.token.Kind.{Kind}
use Rattle.lexer.specs.declared.token.Leaf.TheVariants as Leaf
use Rattle.lexer.specs.Meant.{leaf_at, meant_by, meant, IsToken}
use Rattle.lexer.specs.declared.gap.OpenComment.{OpenComment}
use Rattle.std.specs.Prelude.{Ok, Err}
use Rattle.lexer.specs.Gaps.{Skips}
use Rattle.lexer.specs.Names.{NameEnds}
use Rattle.lexer.specs.Tokens.{simple, begins, Sign, Begins}
use Rattle.lexer.proofs.GapLaws.{gap_past, gap_open, past_onward, past_inside, open_onward, open_inside}
use Rattle.lexer.proofs.PlaceLaws.{at_place}
use Rattle.lexer.proofs.SignLaws.{is_inside, is_here}
use Rattle.lexer.proofs.NameLaws.{letter_names, letter_high, behind_more}

-- A class has parts.
class_parted : (s : List ℕ) {x : N.Token} {r : List ℕ} → class_here s ≡ piece x r → value (parts begin fresh s) ≡ [] → ⊥
unfolding class_here classed
class_parted [] e = absurd (no_way (cc))
class_parted (b ∷ s) {x} {r} e = go (eqb b 94) (parts begin fresh (b ∷ s)) refl refl
  where
    go : (z : Bool) (p : Piece (List Part)) → eqb b 94 ≡ z → parts begin fresh (b ∷ s) ≡ p → value (parts begin fresh (b ∷ s)) ≡ [] → ⊥
    go true p i j k = let y : no ≡ piece x r = rw i at e in no_way (cc)
    go false no i j k = let y : no ≡ piece x r = rw (i, j) at e in no_way (cc)
    go false (piece [] v) i j k = let y : no ≡ piece x r = rw (i, j) at e in no_way (cc)
    go false (piece (q ∷ qs) v) i j k = let y : q ∷ qs ≡ [] = rw j at k in no_way (cc)

module _ (t : List ℕ) (start : ℕ) (h : start < length t) where
  pub byte_here : token_of (drop start t) ≡ token (get_or t start 0) (drop (start + 1) t)
  unfolding token_of
  byte_here = rw (at_place t start h)

  front_named : (get_or t start 0 ≡ 60 → ⊥) → drop start t ≡ name_in (drop start t)
  unfolding name_in
  front_named f = rw (at_place t start h, ne_eqb (get_or t start 0) 60 f)

  -- A token that is no operator.
  simple_begins : (k : Kind) (next : ℕ) → IsToken k → (k ≡ Kind.Leaf Leaf.Class → parts_of (drop start t) ≡ [] → ⊥) → (get_or t start 0 ≡ 60 → ⊥)
      → (start < next) × (next ≤ length t) → (rest : List ℕ) → gap rest ≡ gap (drop next t)
      → token (get_or t start 0) (drop (start + 1) t) ≡ piece (meant t (simple k start next)) rest → Begins t start (simple k start next)
  simple_begins k next i p f l rest x g = record {
    here = refl;
    one = i;
    rest = rest;
    goes = byte_here ∙ g;
    skips = x;
    longer = l.0;
    within = l.1;
    named = front_named f;
    name_inside = omega arith;
    parted = p;
  }

  -- A token of one byte, and a byte that begins none.
  pub sign_begins : {k : Kind} → Sign (get_or t start 0) k → Begins t start (simple k start (start + 1))
  sign_begins {k} s =
      simple_begins k (start + 1) s.one (λ z. absurd (s.no_class z)) s.no_operator (omega arith) _ refl (s.goes t (simple k start (start + 1)) (drop (start + 1) t))

  pub none_begins : ((s : List ℕ) → token (get_or t start 0) s ≡ no) → token_of (drop start t) ≡ no
  none_begins g = byte_here ∙ g (drop (start + 1) t)

  -- ## Names

  module _ (f : letter (get_or t start 0) ≡ true) {to : ℕ} (k : NameEnds t (start + 1) to) where
    name_here_lem : token (get_or t start 0) (drop (start + 1) t) ≡ named_here (name_at t start) (drop to t) (gap (drop to t))
    unfolding token
    name_here_lem =
        rw (f, behind_more (get_or t start 0) (drop (start + 1) t) (letter_names (get_or t start 0) f), k.goes, ← at_place t start h)

    no_operator : get_or t start 0 ≡ 60 → ⊥
    no_operator z = let l = letter_high (get_or t start 0) f in omega arith

    -- A `=` follows, or does not; or an open comment does.
    pub call_open : {c : OpenComment} → Skips t to (Err c) → Begins t start (simple (Kind.Leaf Leaf.Call) start c.at)
    unfolding named_here meant_by leaf_at
    call_open {c} g =
        let e = gap_open g refl in
        let l = open_inside g refl in
        simple_begins (Kind.Leaf Leaf.Call) c.at refl (λ z. no_way (cc)) no_operator (omega (arith, k.onward, open_onward g refl)) (drop to t)
        (e ∙ sym (unclosed_again (drop to t) (drop c.at t) e)) (name_here_lem ∙ rw e)

    module _ {i : ℕ} (g : Skips t to (Ok i)) where
      pub call_here : begins 61 (drop i t) ≡ false → Begins t start (simple (Kind.Leaf Leaf.Call) start i)
      unfolding named_here meant_by leaf_at begins
      call_here n =
          let e = gap_past g refl in
          let l = past_inside g refl (k.inside (omega arith)) in
          simple_begins (Kind.Leaf Leaf.Call) i refl (λ z. no_way (cc)) no_operator (omega (arith, k.onward, past_onward g refl)) (drop to t)
          (e ∙ sym (past_again (drop to t) (drop i t) e)) (name_here_lem ∙ rw e (go (drop i t) n))
        where
          go : (s : List ℕ) → begins 61 s ≡ false → named_here (name_at t start) (drop to t) (past s) ≡ piece (leaf (call (name_at t start))) (drop to t)
          go [] e = refl
          go (x ∷ s) e = rw e

      pub head_here : begins 61 (drop i t) ≡ true → Begins t start (simple Kind.Head start (i + 1))
      unfolding named_here meant_by
      head_here n =
          let l = is_inside t i 61 n in
          simple_begins Kind.Head (i + 1) refl (λ z. no_way (cc)) no_operator (omega (arith, k.onward, past_onward g refl)) _ refl
          (name_here_lem ∙ rw (gap_past g refl, is_here t i 61 n))

  -- ## Quoted text and classes

  module _ (e : (get_or t start 0 ≡ 34) ⊎ (get_or t start 0 ≡ 39)) where
    quote_here : token (get_or t start 0) (drop (start + 1) t)
        ≡ (quote (get_or t start 0) fresh (drop (start + 1) t) then λ x s. piece (leaf (quoted x)) s)
    unfolding token
    quote_here = ⊎_elim (λ z. rw z) (λ z. rw z) e

    pub quote_none : QuoteEnds (get_or t start 0) t (start + 1) None → token_of (drop start t) ≡ no
    unfolding ◌then◌
    quote_none f = byte_here ∙ quote_here ∙ rw f

    pub quote_begins : {n : ℕ} → QuoteEnds (get_or t start 0) t (start + 1) (Some n) → Begins t start (simple (Kind.Leaf Leaf.Quoted) start n)
    unfolding ◌then◌ meant_by leaf_at quoted_of
    quote_begins {n} f =
        simple_begins (Kind.Leaf Leaf.Quoted) n refl (λ z. no_way (cc)) (λ z. ⊎_elim (λ x. omega arith) (λ x. omega arith) e) (omega arith) _ refl
        (quote_here ∙ rw (at_place t start h, f.0))

  module _ (e : get_or t start 0 ≡ 91) where
    class_byte : token (get_or t start 0) (drop (start + 1) t) ≡ class_here (drop (start + 1) t)
    unfolding token
    class_byte = rw e

    pub class_none : ClassEnds t (start + 1) None → token_of (drop start t) ≡ no
    class_none f = byte_here ∙ class_byte ∙ f

    pub class_begins : {n : ℕ} → ClassEnds t (start + 1) (Some n) → Begins t start (simple (Kind.Leaf Leaf.Class) start n)
    unfolding meant_by leaf_at parts_of
    class_begins {n} f =
        simple_begins (Kind.Leaf Leaf.Class) n refl (λ _. rw (at_place t start h) (class_parted (drop (start + 1) t) f.0)) (λ z. omega arith) (omega arith) _ refl
        (class_byte ∙ rw (at_place t start h) f.0)
