-- A name, a byte at a time.
use Prim.Native.Nat.{ℕ, ◌+◌, ◌-◌, ◌≤◌, ◌<◌}
use mathlib.Core.Path.{◌≡◌, refl, ap, sym, ◌∙◌}
use mathlib.Core.Bool.{Bool, true, false}
use mathlib.Core.List.{List, [], ◌∷◌, ◌++◌}
use native.Mathlib.Omega.{arith}
use lib.Dec.{leb}
use lib.ListN.{drop, take, length, get_or, drop_of_length-le}
use lib.Seq.{drop-drop}
use Rattle.std.proofs.Common.{one-add}
use borrow.Author.Tests.{leb-true, leb-false, lt-leb, ne_eqb}
use Rattle.std.proofs.lemmas.List.{length-append, length-drop, length-take, take_at}
use Rattle.notation.specs.Bytes.{letter, name_byte}
use Rattle.notation.specs.Lexer.{past, unclosed, piece, no, gap, name_front, name_behind, name_here, name}
use Rattle.notation.specs.LexicalText.{no_way}
use Rattle.notation.specs.At.{name_at}
use Rattle.lexer.specs.declared.name.Name.{Name}
use Rattle.std.specs.Prelude.{Option, Some, None, Result, Ok, Err}
use Rattle.std.specs.List.{prefix_len, take_while}
use Rattle.std.specs.Result.{result_ok}
use Rattle.lexer.specs.declared.gap.OpenComment.{OpenComment}
use Rattle.lexer.specs.Gaps.{Skips}
use Rattle.lexer.proofs.GapLaws.{gap_open}
use Rattle.lexer.specs.Names.{NameEnds, found, Stands, Finds}
use Rattle.lexer.proofs.PlaceLaws.{at_place}

-- ## The bytes of a name

module _ (b : ℕ) (s : List ℕ) (e : name_byte b ≡ true) where
  front_more : name_front (b ∷ s) ≡ b ∷ name_front s
  unfolding name_front
  front_more = rw (e, name_front)

  pub behind_more : name_behind (b ∷ s) ≡ name_behind s
  unfolding name_behind
  behind_more = rw (e, name_behind)

pub behind_is : (s : List ℕ) → name_behind s ≡ drop (length (take_while name_byte s)) s
unfolding name_behind
behind_is [] = refl
behind_is (b ∷ s) = go (behind_is s) (name_byte b) refl
  where
    go : name_behind s ≡ drop (length (take_while name_byte s)) s → (t : Bool) → name_byte b ≡ t → name_behind (b ∷ s) ≡ drop (length (take_while name_byte (b ∷ s))) (b ∷ s)
    go i true e = behind_more b s e ∙ i ∙ rw (e, one-add) refl
    go i false e = rw (e, name_behind)

-- ## At a place of a text

module _ (t : List ℕ) (from : ℕ) where
  pub name_ends : from ≤ length t → NameEnds t from (from + length (take_while name_byte (drop from t)))
  name_ends h = record {
    goes = behind_is (drop from t) ∙ drop-drop (length (take_while name_byte (drop from t))) from t;
    onward = omega arith;
    inside = λ _. omega (arith, length-take (prefix_len name_byte (drop from t)) (drop from t), length-drop from t);
  }

  pub name_over : length t ≤ from → NameEnds t from from
  unfolding name_behind
  name_over h = record { goes = rw (drop_of_length-le t h); onward = omega arith; inside = λ z. z }

-- ## Behind a gap

pub gap_ok : (r : Result ℕ OpenComment) {n : ℕ} → Some n ≡ result_ok r → r ≡ Ok n
gap_ok (Ok m) e = cc
gap_ok (Err c) e = no_way (cc)

module _ (b : ℕ) (e : letter b ≡ true) where
  pub letter_names : name_byte b ≡ true
  letter_names = rw e

  -- No blank and no sign but a few is so high.
  pub letter_high : 65 ≤ b
  letter_high = go (leb 65 b) refl
    where
      go : (h : Bool) → leb 65 b ≡ h → 65 ≤ b
      go true h = leb-true 65 b h
      go false h =
          let l = leb-false 65 b h in
          let f : letter b ≡ false = rw (h, lt-leb 97 b (omega arith), ne_eqb b 95 (λ z. omega arith)) in no_way (cc)

module _ (t : List ℕ) {at : ℕ} where
  pub open_nothing : {c : List ℕ} → gap (drop at t) ≡ unclosed c → Finds t at None
  unfolding found name_here
  open_nothing e = record { goes = rw e; stands = tt }

  pub broken_nothing : (r : Result ℕ OpenComment) → Skips t at r → None ≡ result_ok r → Finds t at None
  broken_nothing (Err c) h e = open_nothing (gap_open h refl)
  broken_nothing (Ok n) h e = no_way (cc)

  module _ {n : ℕ} (e : gap (drop at t) ≡ past (drop n t)) where
    pub end_nothing : length t ≤ n → Finds t at None
    unfolding found name_here
    end_nothing h = record { goes = rw (e, drop_of_length-le t h); stands = tt }

    module _ (h : n < length t) where
      pub other_nothing : letter (get_or t n 0) ≡ false → Finds t at None
      unfolding found name_here
      other_nothing f = record { goes = rw (e, at_place t n h, f); stands = tt }

      pub finds : letter (get_or t n 0) ≡ true → at ≤ n → {m : ℕ} → NameEnds t (n + 1) m → Finds t at (Some (record { start = n; next = m }))
      unfolding found name_here
      finds f l {m} k = record {
        goes = rw (e, at_place t n h, f, behind_more (get_or t n 0) (drop (n + 1) t) (letter_names (get_or t n 0) f), k.goes);
        stands = record {
          behind = e;
          begins = f;
          onward = l;
          longer = omega (arith, k.onward);
          inside = k.inside (omega arith);
        };
      }

-- The bytes of a name that was found are those from its front to its end.
split : (s : List ℕ) → name_front s ++ name_behind s ≡ s
unfolding name_front name_behind
split [] = refl
split (b ∷ s) = go (name_byte b) refl (split s)
  where
    go : (e : Bool) → name_byte b ≡ e → name_front s ++ name_behind s ≡ s → name_front (b ∷ s) ++ name_behind (b ∷ s) ≡ b ∷ s
    go true e i = rw (front_more b s e, behind_more b s e) (ap (λ s. b ∷ s) i)
    go false e i = rw (e, name_front, name_behind)

-- What the promise says of a name that was found, and of none.
module _ {t : List ℕ} {at : ℕ} {r : Option Name} (h : Finds t at r) where
  pub finds_at : {n : Name} → r ≡ Some n → (name (drop at t) ≡ piece (name_at t n.start) (drop n.next t)) × Stands t at n.start n.next
  unfolding found
  finds_at e = (h.goes ∙ ap (found t) e, rw e at h.stands)

  pub finds_none : r ≡ None → name (drop at t) ≡ no
  unfolding found
  finds_none e = h.goes ∙ ap (found t) e

  pub name_slice : {n : Name} → r ≡ Some n → take (n.next - n.start) (drop n.start t) ≡ name_at t n.start
  unfolding name_here
  name_slice {n = found} e =
      let n = found.start in
      let m = found.next in
      let f = finds_at e in
      let j : n < length t = omega (arith, f.1.longer, f.1.inside) in
      let g : name (drop at t) ≡ piece (name_at t n) (name_behind (drop n t)) = rw (f.1.behind, at_place t n j, f.1.begins) in
      let b : name_behind (drop n t) ≡ drop m t = cc (g, f.0) in
      let s : name_at t n ++ drop m t ≡ drop n t = rw b at (split (drop n t)) in
      let l : length (name_at t n) + length (drop m t) ≡ length (drop n t) = sym (length-append (name_at t n) (drop m t)) ∙ ap length s in
      ap (take (m - n)) (sym s) ∙ take_at (name_at t n) (drop m t) (m - n) (omega (arith, l, length-drop m t, length-drop n t, f.1.longer, f.1.inside))
