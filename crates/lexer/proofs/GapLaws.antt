-- A gap, a byte at a time.
use Rattle.std.proofs.Common.{ℕ, ◌≤◌, ◌<◌, ◌≡◌, refl, ap, ◌∙◌, Bool, true, false, List, [], ◌∷◌, cond, nat_eq, eqb, one-add, arith, length, drop}
use Rattle.std.specs.Prelude.{Option, Some, None, Result, Ok, Err, is_some, unwrap_or, nat_lt}
use Rattle.std.specs.List.{position, position_or_len}
use borrow.Author.Tests.{ne_eqb, eqb-false, ltb-false}
use Rattle.notation.specs.Bytes.{blank}
use Rattle.notation.specs.Lexer.{solid, front, in_line, in_block, Skipped, past, unclosed, skip, gap, block_on}
use Rattle.notation.specs.LexicalText.{no_way}
use Rattle.lexer.specs.Gaps.{CommentIn, Stepped, Further, skipped, place, Skips}
use Rattle.lexer.specs.declared.gap.Inside.TheVariants.{Outside, InLine, Opening, InBlock, Starred}
use Rattle.lexer.specs.declared.gap.Inside as C
use Rattle.lexer.specs.declared.gap.OpenComment.{OpenComment}
use Rattle.lexer.proofs.PlaceLaws.{in_text}

-- ## A byte at the front

module _ (b : ℕ) (s : List ℕ) where
  pub begins_solid : blank b ≡ false → (b ≡ 47 → ⊥) → front b s ≡ solid
  unfolding front
  begins_solid e n = rw (e, ne_eqb b 47 n)

  line_past : (b ≡ 10 → ⊥) → skip in_line (b ∷ s) ≡ skip in_line s
  unfolding skip
  line_past n = rw (ne_eqb b 10 n, skip)

  block_past : (c : List ℕ) → (b ≡ 42 → ⊥) → skip (in_block c) (b ∷ s) ≡ skip (in_block c) s
  unfolding skip block_on
  block_past c n = ap (λ m. skip m s) {x = block_on c b} {y = in_block c} (rw (ne_eqb b 42 n))

-- ## Further on at once: to the first byte that is this one

up_to : (f : List ℕ → Skipped) (b : ℕ) → ((x : ℕ) (s : List ℕ) → (x ≡ b → ⊥) → f (x ∷ s) ≡ f s)
    → (s : List ℕ) → f s ≡ f (drop (position_or_len (λ x. nat_eq x b) s) s)
up_to f b k [] = refl
up_to f b k (x ∷ s) = go (up_to f b k s) (eqb x b) refl
  where
    go : f s ≡ f (drop (position_or_len (λ x. nat_eq x b) s) s) → (t : Bool) → eqb x b ≡ t → f (x ∷ s) ≡ f (drop (position_or_len (λ x. nat_eq x b) (x ∷ s)) (x ∷ s))
    go i true e = rw e
    go i false e = k x s (eqb-false x b e) ∙ i ∙ rw (e, one-add) refl

up_to_within : (b : ℕ) (s : List ℕ) → position_or_len (λ x. nat_eq x b) s ≤ length s
up_to_within b [] = omega arith
up_to_within b (x ∷ s) = go (up_to_within b s) (eqb x b) refl
  where
    go : position_or_len (λ x. nat_eq x b) s ≤ length s → (t : Bool) → eqb x b ≡ t → position_or_len (λ x. nat_eq x b) (x ∷ s) ≤ length (x ∷ s)
    go h true e = rw e (omega arith)
    go h false e = rw e (omega arith)

-- What `position` finds, or the end.
first_is : (b : ℕ) (s : List ℕ) → unwrap_or (position (λ x. nat_eq x b) s) (length s) ≡ position_or_len (λ x. nat_eq x b) s
first_is b s = go (nat_lt (position_or_len (λ x. nat_eq x b) s) (length s)) refl
  where
    n : ℕ
    n = position_or_len (λ x. nat_eq x b) s

    go : (t : Bool) → nat_lt n (length s) ≡ t → unwrap_or (cond t (Some n) None) (length s) ≡ n
    go true e = refl
    go false e = let h = ltb-false n (length s) e in let k = up_to_within b s in omega arith

module _ (s : List ℕ) where
  pub line_further : Further s InLine (unwrap_or (position (λ x. nat_eq x 10) s) (length s))
  line_further = rw (first_is 10 s) (record { goes = λ t. up_to (skip in_line) 10 (λ x s n. line_past x s n) s; within = up_to_within 10 s })

  pub block_further : (n : ℕ) → Further s (InBlock n) (unwrap_or (position (λ x. nat_eq x 42) s) (length s))
  block_further n = rw (first_is 42 s) (record { goes = λ t. up_to (skip (in_block (drop n t))) 42 (λ x s m. block_past x s (drop n t) m) s; within = up_to_within 42 s })

-- Where a gap ends at once.
pub no_gap : {t : List ℕ} {i : ℕ} {r : Option C.Inside} → is_some r ≡ false → Stepped t i Outside r → gap (drop i t) ≡ past (drop i t)
no_gap {r = None} e g = g.goes
no_gap {r = Some m} e g = no_way (cc)

-- The whole gap.
module _ (t : List ℕ) (start n : ℕ) (h : start ≤ n) (l : start ≤ length t → n ≤ length t) where
  pub ended : gap (drop start t) ≡ past (drop n t) → Skips t start (Ok n)
  unfolding skipped place
  ended e = record { goes = e; onward = h; inside = l }

-- A place further on.
module _ (low high more : ℕ) (h : high ≤ more) where
  pub comment_on : (m : C.Inside) → CommentIn low high m → CommentIn low more m
  comment_on Outside c = tt
  comment_on InLine c = tt
  comment_on (Opening n) c = omega arith
  comment_on (InBlock n) c = omega arith
  comment_on (Starred n) c = omega arith

-- What the promise says of a gap that ends at a place, and of one whose comment is open from there on.
module _ {t : List ℕ} {at : ℕ} {g : Result ℕ OpenComment} (h : Skips t at g) where
  module _ {n : ℕ} (e : g ≡ Ok n) where
    pub gap_past : gap (drop at t) ≡ past (drop n t)
    unfolding skipped
    gap_past = h.goes ∙ ap (skipped t) e

    pub past_onward : at ≤ n
    unfolding place
    past_onward = rw e at h.onward

    pub past_inside : at ≤ length t → n ≤ length t
    unfolding place
    past_inside l = rw e at (h.inside l)

  module _ {c : OpenComment} (e : g ≡ Err c) where
    pub gap_open : gap (drop at t) ≡ unclosed (drop c.at t)
    unfolding skipped
    gap_open = h.goes ∙ ap (skipped t) e

    pub open_onward : at ≤ c.at
    unfolding place
    open_onward = rw e at h.onward

    pub open_inside : c.at ≤ length t
    unfolding place skip
    open_inside =
        let f = gap_open in
        let l : at < length t = in_text t at (λ (z : drop at t ≡ []). no_way (cc)) in
        rw e at (h.inside (omega arith))
