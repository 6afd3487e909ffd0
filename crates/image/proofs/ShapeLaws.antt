-- Laws of the shapes of operands: what the functions over them need, and which kind has which shape.
use Prim.Native.Nat.{ℕ, zero, suc, ◌+◌, ◌≤◌, ◌<◌}
use mathlib.Core.Path.{◌≡◌, refl, ap, sym, subst, ◌∙◌}
use mathlib.Core.List.{List}
use mathlib.Core.Logic.{⊎_elim}
use native.Mathlib.Omega.{arith}
use native.Mathlib.Nat.{eq-or-lt_of_le}
use lib.Dec.{eqb}
use lib.ListN.{get_or}
use Rattle.grammar.specs.Expr.{Expr, Range, Sequence, Choice, Star, Not, Def, Match, Is, Isa, Exists, Block, Local, If, On}
use Rattle.std.specs.Prelude.{Result, Ok, Err, IsErrAnd}
use Rattle.reader.specs.declared.reader.Reader.{Reader}
use Rattle.reader.specs.declared.refusal.Refusal.{Refusal}
use Rattle.format.specs.Reading.{Reading, got, fault, ◌then◌}
use Rattle.format.specs.ReadingLaws.{onward, then_assoc, then_ext}
use Rattle.format.specs.Image.{bounded, kinds}
use Rattle.format.specs.ImageLaws.{number_all, bit_back}
use Rattle.image.specs.Word.{packed, switch, keep, word_at}
use Rattle.image.specs.Shapes.{word1, switched, last_at, truth_of, one_at, two_at, range_at, switch_at, if_at, on_at, operands_at}
use Rattle.reader.specs.Meant.{behind, Reads, Gives}
use Rattle.reader.specs.MeantLaws.{gives, reads_got, reads_fault}
use Rattle.image.specs.declared.head.Head.{Head}
use Rattle.image.proofs.FillLaws.{err_is}

-- ## Which kind has which shape

-- What holds at each of k numbers from lo on holds at a number between.
abbrev Each : (ℕ → Type 0) → ℕ → ℕ → Type 0
Each P lo zero = Unit {0}
Each P lo (suc k) = P lo × Each P (suc lo) k

between : (P : ℕ → Type 0) (lo k n : ℕ) → Each P lo k → lo ≤ n → n < lo + k → P n
between P lo zero n e l h = absurd (omega arith)
between P lo (suc k) n e l h =
    ⊎_elim (λ q. subst P q e.0) (λ (q : lo < n). between P (suc lo) k n e.1 q (omega arith)) (eq-or-lt_of_le l)

-- Keeping what was read at the end is keeping each part as it is read.
one_kept : (x : Reading ℕ) (e : ℕ → Expr) → (x then λ a at. keep (e a) at) ≡ ((x then λ a at. got (e a) at) then keep)
one_kept x e = sym (then_assoc x (λ a at. got (e a) at) keep)

two_kept : (image : List ℕ) (why low stop at : ℕ) (y : ℕ → ℕ → Reading ℕ) (e : ℕ → ℕ → Expr)
    → (bounded image why low stop at then λ a at. y a at then λ b at. keep (e a b) at)
    ≡ ((bounded image why low stop at then λ a at. y a at then λ b at. got (e a b) at) then keep)
two_kept image why low stop at y e =
    then_ext (λ a at. y a at then λ b at. keep (e a b) at) (λ a at. (y a at then λ b at. got (e a b) at) then keep)
    (number_all image why low stop at) (λ a at h. one_kept (y a at) (e a))
    ∙ sym (then_assoc (bounded image why low stop at) (λ a at. y a at then λ b at. got (e a b) at) keep)

module _ (image : List ℕ) (T C N own : ℕ) where
  pub word_of : (at : ℕ) → (bounded image 6 0 19 at then operands_at image T C N own) ≡ word_at image T C N own at
  word_of at = sym (then_assoc (bounded image 6 0 19 at) (λ tag at. get_or (kinds image T C N own) tag (fault 6) at) keep)

  -- Range.
  pub range_word : (tag at : ℕ) → 2 ≤ tag → tag < 3 → range_at image at ≡ operands_at image T C N own tag at
  range_word tag at =
      between (λ n. range_at image at ≡ operands_at image T C N own n at) 2 1 tag (two_kept image 7 0 256 at (λ lo. bounded image 7 lo 256) Range, tt)

  -- Sequence, Choice; Star, Not.
  pub pair_word : (tag at : ℕ) → 5 ≤ tag → tag < 7 → two_at image tag own own at ≡ operands_at image T C N own tag at
  pair_word tag at = between (λ n. two_at image n own own at ≡ operands_at image T C N own n at) 5 2 tag
      (two_kept image 7 0 own at (λ a. bounded image 7 0 own) Sequence, (two_kept image 7 0 own at (λ a. bounded image 7 0 own) Choice, tt))

  pub child_word : (tag at : ℕ) → 7 ≤ tag → tag < 9 → one_at image tag own at ≡ operands_at image T C N own tag at
  child_word tag at = between (λ n. one_at image n own at ≡ operands_at image T C N own n at) 7 2 tag
      (one_kept (bounded image 7 0 own at) Star, (one_kept (bounded image 7 0 own at) Not, tt))

  -- Def, Match, Is, Isa, Exists; Block, Local.
  pub table_word : (tag at : ℕ) → 10 ≤ tag → tag < 15 → one_at image tag T at ≡ operands_at image T C N own tag at
  table_word tag at = between (λ n. one_at image n T at ≡ operands_at image T C N own n at) 10 5 tag
      (of Def, (of Match, (of Is, (of Isa, (of Exists, tt)))))
    where
      of :
          (e : ℕ → Expr) → (bounded image 7 0 T at then λ a at. keep (e a) at)
          ≡ ((bounded image 7 0 T at then λ a at. got (e a) at) then keep)
      of = one_kept (bounded image 7 0 T at)

  pub scope_word : (tag at : ℕ) → 15 ≤ tag → tag < 17 → two_at image tag T own at ≡ operands_at image T C N own tag at
  scope_word tag at = between (λ n. two_at image n T own at ≡ operands_at image T C N own n at) 15 2 tag
      (two_kept image 7 0 T at (λ t. bounded image 7 0 own) Block, (two_kept image 7 0 T at (λ t. bounded image 7 0 own) Local, tt))

  -- If; On. A truth that was read is the bit of the Bool that it stands for.
  switch_then : (at : ℕ) (k : ℕ → ℕ → Reading ℕ) (e : ℕ → ℕ → ℕ → Reading Expr)
      → ((c w at : ℕ) → w < 2 → k (switch c w) at ≡ (e c w at then keep))
      → (switch_at image C at then k) ≡ ((bounded image 7 0 C at then λ c at. bounded image 7 0 2 at then e c) then keep)
  switch_then at k e same =
      then_assoc (bounded image 7 0 C at) (truth_of image) k
      ∙ then_ext (λ c at. truth_of image c at then k) (λ c at. (bounded image 7 0 2 at then e c) then keep) (number_all image 7 0 C at)
      (λ c at h. then_assoc (bounded image 7 0 2 at) (switched c) k
      ∙ then_ext (λ w at. k (switch c w) at) (λ w at. e c w at then keep) (number_all image 7 0 2 at) (λ w at l. same c w at l)
      ∙ sym (then_assoc (bounded image 7 0 2 at) (e c) keep))
      ∙ sym (then_assoc (bounded image 7 0 C at) (λ c at. bounded image 7 0 2 at then e c) keep)

  pub if_word : (tag at : ℕ) → 17 ≤ tag → tag < 18 → if_at image C at ≡ operands_at image T C N own tag at
  if_word tag at = between (λ n. if_at image C at ≡ operands_at image T C N own n at) 17 1 tag
      (switch_then at (word1 17) (λ c w at. got (If c (eqb w 1)) at) (λ c w at l. rw (bit_back w l)), tt)

  pub on_word : (tag at : ℕ) → 18 ≤ tag → tag < 19 → on_at image C own at ≡ operands_at image T C N own tag at
  on_word tag at = between (λ n. on_at image C own at ≡ operands_at image T C N own n at) 18 1 tag (
    switch_then at (last_at image 18 own) (λ c w at. bounded image 7 0 own at then λ a at. got (On c (eqb w 1) a) at)
        (λ c w at l. ap (λ b. bounded image 7 0 own at then λ a at. got (packed 18 (switch c b) a) at) (sym (bit_back w l))
        ∙ one_kept (bounded image 7 0 own at) (λ a. On c (eqb w 1) a)),
    tt,
  )

-- What gives one of two readings gives the other, where they are the same.
pub alike : {p q : ℕ → Reading ℕ} {before after : Reader} {r : Result ℕ Refusal} → Reads p before after r → p before.at ≡ q before.at → Reads q before after r
alike {before = before} o e = record { result = o.result ∙ e; stands = o.stands ∙ ap (λ x. behind x before.at) e; image = o.image }

-- After a tag its operands are read, and the two together are the node.
pub tagged :
    (h : Head) (own tag : ℕ) {before middle after : Reader} {r : Result ℕ Refusal} {p : ℕ → Reading ℕ}
    → Gives (bounded before.image.now 6 0 19) before middle (Ok tag)
    → Gives p middle after r
    → p middle.at ≡ operands_at middle.image.now h.tables h.conditions h.nodes own tag middle.at
    → Gives (word_at before.image.now h.tables h.conditions h.nodes own) before after r
tagged h own tag {before} {middle} t o q = record {
  result =
      o.result
      ∙ q
      ∙ ap (λ i. operands_at i.now h.tables h.conditions h.nodes own tag middle.at) t.image
      ∙ onward (operands_at before.image.now h.tables h.conditions h.nodes own) t.result
      ∙ word_of before.image.now h.tables h.conditions h.nodes own before.at;
  image = o.image ∙ t.image;
}

module _ (h : Head) (own tag : ℕ) {before middle : Reader} (t : Reads (bounded before.image.now 6 0 19) before middle (Ok tag)) where
  -- The operands are read.
  pub tagged_read :
      {after : Reader} {w : ℕ} → Reads (operands_at middle.image.now h.tables h.conditions h.nodes own tag) middle after (Ok w)
      → Reads (word_at before.image.now h.tables h.conditions h.nodes own) before after (Ok w)
  tagged_read o = reads_got (tagged h own tag (gives t) (gives o) refl)

  -- Operands that are refused: the reader that was lent stands where it stood, in front of the tag.
  pub tagged_refused :
      {after : Reader} {e : Refusal} {r : Result ℕ Refusal} → IsErrAnd r (λ x. x ≡ e)
      → Reads (operands_at middle.image.now h.tables h.conditions h.nodes own tag) middle after (Err e)
      → Reads (word_at before.image.now h.tables h.conditions h.nodes own) before before r
  tagged_refused q o =
      err_is (Reads (word_at before.image.now h.tables h.conditions h.nodes own) before before) q
      (reads_fault (tagged h own tag (gives t) (gives o) refl))
