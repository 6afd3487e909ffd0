-- Laws of words and nodes: what a word was made of is what it is taken apart into.
use Rattle.std.specs.Prelude.{ℕ, ◌+◌, ◌-◌, ◌*◌, ◌/◌, ◌%◌, ◌≤◌, ◌<◌, ◌≡◌, refl, Bool, true, false, List, eqb, take, drop, length, zero, suc}
use Rattle.std.proofs.Math.Path.{ap}
use Rattle.std.proofs.Common.{ap₂, sym, subst, ◌∙◌, arith, div-add-mod', mod-lt, mod-eq_of_lt}
use Rattle.grammar.specs.Expr as e
use Rattle.grammar.specs.Sound.{Fits}
use Rattle.image.specs.declared.node.Node.TheVariants.{Text, On}
use Rattle.format.specs.Written.{bit}
use Rattle.image.specs.Word.{packed, switch, kept}
use Rattle.image.specs.Node.{kind_of, node_of, expr_of, InImage, listed}
use Rattle.std.proofs.Math.ListN.{get_or-eq_default}

-- ## A word and the expression that it was made of

module _ (tag a b : ℕ) (ht : tag < 32) (ha : a < 32768) (hb : b < 4096) where
  low_part : packed tag a b % 32 ≡ tag
  low_part = omega (arith, div-add-mod' (packed tag a b) 32, mod-lt (packed tag a b) {m = 32} (omega arith))

  middle_part : packed tag a b / 32 % 32768 ≡ a
  middle_part =
      let n = packed tag a b / 32 in
      omega (
        arith,
        div-add-mod' (packed tag a b) 32,
        mod-lt (packed tag a b) {m =
            32} (omega arith),
        div-add-mod' n 32768,
        mod-lt n {m = 32768} (omega arith),
      )

  high_part : packed tag a b / 1048576 ≡ b
  high_part = omega (arith, div-add-mod' (packed tag a b) 1048576, mod-lt (packed tag a b) {m = 1048576} (omega arith))

  -- What a word was made of is what it is taken apart into.
  pub word_is : node_of (packed tag a b) ≡ kind_of tag a b
  unfolding node_of
  word_is =
      ap (λ t. kind_of t (packed tag a b / 32 % 32768) (packed tag a b / 1048576)) low_part
      ∙ ap (λ x. kind_of tag x (packed tag a b / 1048576)) middle_part
      ∙ ap (λ y. kind_of tag a y) high_part

-- A byte, a condition and a truth, taken out of the operand that holds them.
byte_back : (b : ℕ) → b ≤ 255 → b % 256 ≡ b
byte_back b h = mod-eq_of_lt (omega arith)

condition_back : (c : ℕ) (truth : Bool) → switch c (bit truth) / 2 ≡ c
condition_back c true = omega (arith, div-add-mod' (c * 2 + 1) 2, mod-lt (c * 2 + 1) {m = 2} (omega arith))
condition_back c false = omega (arith, div-add-mod' (c * 2 + 0) 2, mod-lt (c * 2 + 0) {m = 2} (omega arith))

truth_back : (c : ℕ) (truth : Bool) → eqb (switch c (bit truth) % 2) 1 ≡ truth
truth_back c true =
    let odd : (c * 2 + 1) % 2 ≡ 1 = omega (arith, div-add-mod' (c * 2 + 1) 2, mod-lt (c * 2 + 1) {m = 2} (omega arith)) in rw odd
truth_back c false =
    let even : (c * 2 + 0) % 2 ≡ 0 = omega (arith, div-add-mod' (c * 2 + 0) 2, mod-lt (c * 2 + 0) {m = 2} (omega arith)) in rw even

switch_small : (c : ℕ) (truth : Bool) → c < 512 → switch c (bit truth) < 32768
switch_small c true h = omega arith
switch_small c false h = omega arith

-- Bytes that end at a place of the image.
pub record EndAt (image bytes : List ℕ) (next : ℕ) : Type 0 where
  pub long : length bytes ≤ next
  pub inside : next ≤ length image
  pub small : next < 32768
  pub is : take (length bytes) (drop (next - length bytes) image) ≡ bytes

-- If x is a Text, its bytes end at `next`.
abbrev pub Placed : (image : List ℕ) → e.Expr → (next : ℕ) → Type 0
Placed image x next = (bytes : List ℕ) → x ≡ e.Text bytes → EndAt image bytes next

module _ (image : List ℕ) (T C N own : ℕ) (small : (T ≤ 512) × (C ≤ 512) × (N ≤ 512) × (own ≤ 512)) where
  -- The expression of a word whose parts fit.
  of_word : (tag a b : ℕ) → tag < 32 → a < 32768 → b < 4096 → expr_of image (node_of (packed tag a b)) ≡ expr_of image (kind_of tag a b)
  of_word tag a b ht ha hb = ap (expr_of image) (word_is tag a b ht ha hb)

  one : (tag a : ℕ) → tag < 32 → a < 512 → expr_of image (node_of (packed tag a 0)) ≡ expr_of image (kind_of tag a 0)
  one tag a ht ha = of_word tag a 0 ht (omega arith) (omega arith)

  two : (tag a b : ℕ) → tag < 32 → (a < 512) × (b < 512) → expr_of image (node_of (packed tag a b)) ≡ expr_of image (kind_of tag a b)
  two tag a b ht h = of_word tag a b ht (omega arith) (omega arith)

  -- A word that keeps a node stands for that node.
  pub kept_back : (x : e.Expr) → Fits T C N own x → (next : ℕ) → Placed image x next → expr_of image (node_of (kept x next)) ≡ x
  kept_back e.Empty h next p = one 0 0 (omega arith) (omega arith)
  kept_back (e.Byte b) h next p = one 1 b (omega arith) (omega (arith, h)) ∙ ap e.Byte (byte_back b h)
  kept_back (e.Range lo hi) h next p =
      two 2 lo hi (omega arith) (omega (arith, h.0, h.1)) ∙ ap₂ e.Range (byte_back lo (omega (arith, h.0, h.1))) (byte_back hi h.1)
  kept_back e.Any h next p = one 3 0 (omega arith) (omega arith)
  kept_back (e.Text bytes) h next p =
      of_word 4 (next - length bytes) (length bytes) (omega arith) (omega (arith, (p bytes refl).small)) (omega (arith, h.1))
      ∙ ap e.Text (p bytes refl).is
  kept_back (e.Sequence a b) h next p = two 5 a b (omega arith) (omega (arith, h.0, h.1, small.3))
  kept_back (e.Choice a b) h next p = two 6 a b (omega arith) (omega (arith, h.0, h.1, small.3))
  kept_back (e.Star a) h next p = one 7 a (omega arith) (omega (arith, h, small.3))
  kept_back (e.Not a) h next p = one 8 a (omega arith) (omega (arith, h, small.3))
  kept_back (e.Call a) h next p = one 9 a (omega arith) (omega (arith, h, small.2))
  kept_back (e.Def t) h next p = one 10 t (omega arith) (omega (arith, h, small.0))
  kept_back (e.Match t) h next p = one 11 t (omega arith) (omega (arith, h, small.0))
  kept_back (e.Is t) h next p = one 12 t (omega arith) (omega (arith, h, small.0))
  kept_back (e.Isa t) h next p = one 13 t (omega arith) (omega (arith, h, small.0))
  kept_back (e.Exists t) h next p = one 14 t (omega arith) (omega (arith, h, small.0))
  kept_back (e.Block t a) h next p = two 15 t a (omega arith) (omega (arith, h.0, h.1, small.0, small.3))
  kept_back (e.Local t a) h next p = two 16 t a (omega arith) (omega (arith, h.0, h.1, small.0, small.3))
  kept_back (e.If c truth) h next p =
      of_word 17 (switch c (bit truth)) 0 (omega arith) (switch_small c truth (omega (arith, h, small.1))) (omega arith)
      ∙ ap₂ e.If (condition_back c truth) (truth_back c truth)
  kept_back (e.On c truth a) h next p =
      of_word 18 (switch c (bit truth)) a (omega arith) (switch_small c truth (omega (arith, h.0, small.1)))
      (omega (arith, h.1, small.3))
      ∙ ap₂ (λ c w. e.On c w a) (condition_back c truth) (truth_back c truth)

  -- The bytes of a Text that is kept in a word lie in the image.
  pub kept_inside : (x : e.Expr) → Fits T C N own x → (next : ℕ) → Placed image x next → InImage image (node_of (kept x next))
  kept_inside x h next p place count q =
      let bytes = take count (drop place image) in
      let is : x ≡ e.Text bytes = sym (kept_back x h next p) ∙ ap (expr_of image) q in
      let ends = p bytes is in
      let few : length bytes < 4096 = omega (arith, (subst (Fits T C N own) is h).1) in
      let node : node_of (kept x next) ≡ Text (next - length bytes) (length bytes) =
      ap (λ x. node_of (kept x next)) is ∙ word_is 4 (next - length bytes) (length bytes) (omega arith) (omega (arith, ends.small)) few in
      let here : next - length bytes ≡ place = cc in
      let many : length bytes ≡ count = cc in
      omega (arith, ends.long, ends.inside)

-- ## By the tag of a word

pub kind_at : (word tag : ℕ) → word % 32 ≡ tag → kind_of tag (word / 32 % 32768) (word / 1048576) ≡ node_of word
unfolding node_of
kind_at word tag h = ap (λ t. kind_of t (word / 32 % 32768) (word / 1048576)) (sym h)

-- A number that is none of those below k.
abbrev pub NoneBelow : ℕ → ℕ → Type 0
NoneBelow n zero = Unit {0}
NoneBelow n (suc k) = NoneBelow n k × (n ≡ k → ⊥)

at_least : (n k : ℕ) → NoneBelow n k → k ≤ n
at_least n zero h = omega arith
at_least n (suc k) h = let l : k ≤ n = at_least n k h.0 in let m : n ≡ k → ⊥ = h.1 in omega arith

pub kind_last :
    (word : ℕ) → NoneBelow (word % 32) 18 → On (word / 32 % 32768 / 2) (eqb (word / 32 % 32768 % 2) 1) (word / 1048576) ≡ node_of word
unfolding node_of
kind_last word h =
    let a = word / 32 % 32768 in let b = word / 1048576 in
    sym (get_or-eq_default (listed a b) (On (a / 2) (eqb (a % 2) 1) b) {n = word % 32} (at_least (word % 32) 18 h))
