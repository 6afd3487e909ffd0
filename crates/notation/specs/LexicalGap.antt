-- Gaps and names: the lexical rules and the functions of `Lexer` are one.
use Rattle.std.specs.Prelude.{ℕ, ◌≡◌, refl, Bool, List, [], ◌∷◌, ◌++◌, eqb}
use Rattle.std.proofs.Common.{ap, ◌∙◌}
use Rattle.std.proofs.Math.Path.{sym, subst}
use Rattle.std.proofs.Math.Bool.{true, false}
use borrow.Author.Tests.{ne_eqb, eqb-true, eqb-false}
use Rattle.notation.specs.Bytes.{blank, letter, name_byte}
use Rattle.notation.specs.Lexical.{Line, over, ends, goes, Block, shuts, starred, goes_on, Solid, at_end, byte, last_slash, lone_slash, Gap, nothing, white, line, comment, NameBytes, none_left, one_more, NameEnds, text_ends, other_byte, Named, name}
use Rattle.notation.specs.Unread.{Unclosed}
use Rattle.notation.specs.Unread as U
use Rattle.notation.specs.Lexer.{Front, line_comment, block_comment, solid, front, second, Inside, outside, in_line, opening, in_block, block_on, star_on, Skipped, past, unclosed, skip, gap, name_front, name_behind}
use Rattle.notation.specs.Lexer as L

-- ## Complete

line_skips : {s r : List ℕ} → Line s r → skip in_line s ≡ skip outside r
unfolding skip
line_skips over = refl
line_skips ends = refl
line_skips (goes {b = b} n l) = rw (ne_eqb b 10 n, skip) (line_skips l)

unstarred : (k : List ℕ) (c : ℕ) → (c ≡ 47 → ⊥) → star_on k c ≡ block_on k c
unfolding star_on
unstarred k c n = rw (ne_eqb c 47 n)

no_star : (k : List ℕ) (b : ℕ) → (b ≡ 42 → ⊥) → block_on k b ≡ in_block k
unfolding block_on
no_star k b n = rw (ne_eqb b 42 n)

block_skips : (k : List ℕ) {s r : List ℕ} → Block s r → skip (in_block k) s ≡ skip outside r
unfolding skip block_on star_on
block_skips k shuts = refl
block_skips k (starred {c = c} {s = s} n B) = ap (λ m. skip m s) (unstarred k c n) ∙ block_skips k B
block_skips k (goes_on {b = b} {s = s} n B) = ap (λ m. skip m s) (no_star k b n) ∙ block_skips k B

skips_front : (b : ℕ) (s : List ℕ) → front b s ≡ solid → skip outside (b ∷ s) ≡ past (b ∷ s)
unfolding skip
skips_front b s e = rw (e, skip)

skips_white : (b : ℕ) (s : List ℕ) → front b s ≡ L.white → skip outside (b ∷ s) ≡ skip outside s
unfolding skip
skips_white b s e = rw (e, skip)

solid_stays : {s : List ℕ} → Solid s → skip outside s ≡ past s
unfolding skip front second
solid_stays at_end = refl
solid_stays (byte {b = b} {s = s} e n) = skips_front b s (rw (e, ne_eqb b 47 n))
solid_stays last_slash = refl
solid_stays (lone_slash {c = c} {s = s} n m) = skips_front 47 (c ∷ s) (rw (ne_eqb c 47 n, ne_eqb c 42 m))

pub gap_skips : {s r : List ℕ} → Gap s r → gap s ≡ past r
unfolding skip front second
gap_skips (nothing d) = solid_stays d
gap_skips (white {b = b} {s = s} e g) = skips_white b s (rw e) ∙ gap_skips g
gap_skips (line l g) = line_skips l ∙ gap_skips g
gap_skips (comment {s = s} k g) = block_skips (47 ∷ 42 ∷ s) k ∙ gap_skips g

-- ## Sound

-- What stands behind a gap, if it closes.
pub data Gives (P : List ℕ → Type 0) : Skipped → Type 0 where
  gives : {x : List ℕ} → P x → Gives P (past x)
  gives_none : {c : List ℕ} → Gives P (unclosed c)

-- What stands behind a gap, or from its open comment on.
data Comes (P Q : List ℕ → Type 0) : Skipped → Type 0 where
  goes_past : {x : List ℕ} → P x → Comes P Q (past x)
  stays : {c : List ℕ} → Q c → Comes P Q (unclosed c)

come : {P Q R S : List ℕ → Type 0} {o : Skipped} → ((x : List ℕ) → P x → R x) → ((x : List ℕ) → Q x → S x) → Comes P Q o → Comes R S o
come f g (goes_past {x = x} h) = goes_past (f x h)
come f g (stays {c = c} h) = stays (g c h)

abbrev Of : Inside → List ℕ → List ℕ → Type 0
Of outside s r = Gap s r
Of in_line s r = (t : List ℕ) × Line s t × Gap t r
Of (opening k) [] r = ⊥
Of (opening k) (b ∷ s) r = (t : List ℕ) × Block s t × Gap t r
Of (in_block k) s r = (t : List ℕ) × Block s t × Gap t r
Of (L.starred k) s r = (t : List ℕ) × Block (42 ∷ s) t × Gap t r

-- Behind the `/*` at k: the comment closes, and a later one does not; or it does not close itself.
data InBlock (k s : List ℕ) : List ℕ → Type 0 where
  later : {t c : List ℕ} → Block s t → Unclosed t c → InBlock k s c
  this : ((r : List ℕ) → Block s r → ⊥) → InBlock k s k

abbrev Open : Inside → List ℕ → List ℕ → Type 0
Open outside s c = Unclosed s c
Open in_line s c = (t : List ℕ) × Line s t × Unclosed t c
Open (opening k) [] c = c ≡ k
Open (opening k) (b ∷ s) c = InBlock k s c
Open (in_block k) s c = InBlock k s c
Open (L.starred k) s c = InBlock k (42 ∷ s) c

abbrev Sound : Inside → List ℕ → Type 0
Sound m s = Comes (Of m s) (Open m s) (skip m s)

-- A line comment behind its second slash.
second_slash : {s t : List ℕ} → Line (47 ∷ s) t → Line s t
second_slash (goes n l) = l

-- A block comment behind a byte that is no `*`, and behind a `*` that no `/` follows.
behind_byte : {b : ℕ} {s r : List ℕ} → (b ≡ 42 → ⊥) → Block (b ∷ s) r → Block s r
behind_byte n shuts = absurd (n refl)
behind_byte n (starred m B) = absurd (n refl)
behind_byte n (goes_on m B) = B

behind_star : {c : ℕ} {s r : List ℕ} → (c ≡ 47 → ⊥) → Block (42 ∷ c ∷ s) r → Block (c ∷ s) r
behind_star n shuts = absurd (n refl)
behind_star n (starred m B) = B
behind_star n (goes_on m B) = absurd (m refl)

nothing_shuts : (r : List ℕ) → Block [] r → ⊥
nothing_shuts r = elim [ ]

star_shuts_not : (r : List ℕ) → Block (42 ∷ []) r → ⊥
star_shuts_not r (goes_on m B) = m refl

-- Two that close together.
same_block : {k s u c : List ℕ} → ((t : List ℕ) → Block s t → Block u t) → ((t : List ℕ) → Block u t → Block s t) → InBlock k s c → InBlock k u c
same_block f g (later {t = t} B U) = later (f t B) U
same_block f g (this n) = this (λ r B. n r (g r B))

module _ (b : ℕ) (s : List ℕ) where
  at_line : (e : Bool) → eqb b 10 ≡ e → Sound outside s → Sound in_line s → Sound in_line (b ∷ s)
  unfolding skip
  at_line true e o l =
      let ends_so : Line (b ∷ s) s = subst (λ b. Line (b ∷ s) s) (sym (eqb-true b 10 e)) ends in
      rw (e, skip) (come (λ r g. (s, ends_so, g)) (λ c u. (s, ends_so, u)) o)
  at_line false e o l =
      rw (e, skip) (come (λ r g. (g.0, goes (eqb-false b 10 e) g.1, g.2)) (λ c u. (u.0, goes (eqb-false b 10 e) u.1, u.2)) l)

  module _ (k : List ℕ) where
    in_block_at : (e : Bool) → eqb b 42 ≡ e → Sound (L.starred k) s → Sound (in_block k) s → Sound (in_block k) (b ∷ s)
    unfolding skip block_on
    in_block_at true e p q =
        let z = sym (eqb-true b 42 e) in
        rw (e, skip) (come (λ r g. (g.0, subst (λ b. Block (b ∷ s) g.0) z g.1, g.2)) (λ c u. subst (λ b. InBlock k (b ∷ s) c) z u) p)
    in_block_at false e p q =
        let n = eqb-false b 42 e in
        rw (e, skip) (come (λ r g. (g.0, goes_on n g.1, g.2)) (λ c. same_block (λ t. goes_on n) (λ t. behind_byte n)) q)

    starred_at :
        (e f : Bool) → eqb b 47 ≡ e → eqb b 42 ≡ f → Sound outside s → Sound (L.starred k) s → Sound (in_block k) s → Sound (L.starred k) (b ∷ s)
    unfolding skip block_on star_on
    starred_at true f e h o p q =
        let shuts_so : Block (42 ∷ b ∷ s) s = subst (λ b. Block (42 ∷ b ∷ s) s) (sym (eqb-true b 47 e)) shuts in
        rw (e, skip) (come (λ r g. (s, shuts_so, g)) (λ c u. later shuts_so u) o)
    starred_at false true e h o p q =
        let n = eqb-false b 47 e in let z = sym (eqb-true b 42 h) in
        rw (e, h, skip)
        (come (λ r g. (g.0, starred n (subst (λ b. Block (b ∷ s) g.0) z g.1), g.2))
        (λ c u. same_block (λ t. starred n) (λ t. behind_star n) (subst (λ b. InBlock k (b ∷ s) c) z u)) p)
    starred_at false false e h o p q =
        let n = eqb-false b 47 e in let m = eqb-false b 42 h in
        rw (e, h, skip)
        (come (λ r g. (g.0, starred n (goes_on m g.1), g.2))
        (λ c. same_block (λ t B. starred n (goes_on m B)) (λ t B. behind_byte m (behind_star n B))) q)

-- A slash outside a comment, and what may stand behind it.
slash_at : (s : List ℕ) → Sound in_line s → Sound (opening (47 ∷ s)) s → Sound outside (47 ∷ s)
unfolding skip front second
slash_at [] l o = goes_past (nothing last_slash)
slash_at (c ∷ s) l o = go (eqb c 47) (eqb c 42) refl refl
  where
    go : (e f : Bool) → eqb c 47 ≡ e → eqb c 42 ≡ f → Sound outside (47 ∷ c ∷ s)
    go true f e h =
        let z = eqb-true c 47 e in
        rw (skips_line (c ∷ s) (rw e))
        (come (λ r g. subst (λ c. Gap (47 ∷ c ∷ s) r) (sym z) (line (second_slash (subst (λ c. Line (c ∷ s) g.0) z g.1)) g.2))
        (λ k u. subst (λ c. Unclosed (47 ∷ c ∷ s) k) (sym z) (U.line (second_slash (subst (λ c. Line (c ∷ s) u.0) z u.1)) u.2)) l)
      where
        skips_line : (s : List ℕ) → front 47 s ≡ line_comment → skip outside (47 ∷ s) ≡ skip in_line s
        skips_line s e = rw (e, skip)
    go false true e h =
        let z = eqb-true c 42 h in
        rw (skips_block (c ∷ s) (rw (e, h)))
        (come (λ r g. subst (λ c. Gap (47 ∷ c ∷ s) r) (sym z) (comment g.1 g.2))
        (λ k u. subst (λ c. Unclosed (47 ∷ c ∷ s) k) (sym z) (begins (subst (λ c. InBlock (47 ∷ c ∷ s) s k) z u))) o)
      where
        skips_block : (s : List ℕ) → front 47 s ≡ block_comment → skip outside (47 ∷ s) ≡ skip (opening (47 ∷ s)) s
        skips_block s e = rw (e, skip)

        begins : {k : List ℕ} → InBlock (47 ∷ 42 ∷ s) s k → Unclosed (47 ∷ 42 ∷ s) k
        begins (later B u) = U.comment B u
        begins (this n) = U.never n
    go false false e h =
        rw (skips_front 47 (c ∷ s) (rw (e, h))) (goes_past (nothing (lone_slash (eqb-false c 47 e) (eqb-false c 42 h))))

outside_at : (b : ℕ) (s : List ℕ) → Sound outside s → Sound in_line s → Sound (opening (b ∷ s)) s → Sound outside (b ∷ s)
unfolding front
outside_at b s o l k = go (blank b) (eqb b 47) refl refl
  where
    go : (e f : Bool) → blank b ≡ e → eqb b 47 ≡ f → Sound outside (b ∷ s)
    go true f e h = rw (skips_white b s (rw e)) (come (λ r g. white e g) (λ c u. U.white e u) o)
    go false true e h =
        let z = eqb-true b 47 h in
        subst (λ b. Sound outside (b ∷ s)) (sym z) (slash_at s l (subst (λ b. Sound (opening (b ∷ s)) s) z k))
    go false false e h = rw (skips_front b s (rw (e, h))) (goes_past (nothing (byte e (eqb-false b 47 h))))

sound : (s : List ℕ) (m : Inside) → Sound m s
unfolding skip
sound [] outside = goes_past (nothing at_end)
sound [] in_line = goes_past ([], over, nothing at_end)
sound [] (opening k) = stays refl
sound [] (in_block k) = stays (this nothing_shuts)
sound [] (L.starred k) = stays (this star_shuts_not)
sound (b ∷ s) outside = outside_at b s (sound s outside) (sound s in_line) (sound s (opening (b ∷ s)))
sound (b ∷ s) in_line = at_line b s (eqb b 10) refl (sound s outside) (sound s in_line)
sound (b ∷ s) (opening k) = sound s (in_block k)
sound (b ∷ s) (in_block k) = in_block_at b s k (eqb b 42) refl (sound s (L.starred k)) (sound s (in_block k))
sound (b ∷ s) (L.starred k) =
    starred_at b s k (eqb b 47) (eqb b 42) refl refl (sound s outside) (sound s (L.starred k)) (sound s (in_block k))

pub gap_sound : (s : List ℕ) → Gives (Gap s) (gap s)
gap_sound s = go (sound s outside)
  where
    go : {o : Skipped} → Comes (Gap s) (Unclosed s) o → Gives (Gap s) o
    go (goes_past g) = gives g
    go (stays u) = gives_none

pub unclosed_sound : (s c : List ℕ) → gap s ≡ unclosed c → Unclosed s c
unclosed_sound s c e = go (subst (Comes (Gap s) (Unclosed s)) e (sound s outside))
  where
    go : Comes (Gap s) (Unclosed s) (unclosed c) → Unclosed s c
    go (stays u) = u

-- ## Complete, for a comment that nothing closes

open_skips : (k s : List ℕ) → ((r : List ℕ) → Block s r → ⊥) → skip (in_block k) s ≡ unclosed k
open_skips k s n = go (sound s (in_block k))
  where
    go : {o : Skipped} → Comes (Of (in_block k) s) (Open (in_block k) s) o → o ≡ unclosed k
    go (goes_past g) = absurd (n g.0 g.1)
    go (stays (later {t = t} B u)) = absurd (n t B)
    go (stays (this m)) = refl

pub unclosed_skips : {s c : List ℕ} → Unclosed s c → gap s ≡ unclosed c
unfolding skip front second
unclosed_skips (U.never {s = s} n) = open_skips (47 ∷ 42 ∷ s) s n
unclosed_skips (U.white {b = b} {s = s} e u) = skips_white b s (rw e) ∙ unclosed_skips u
unclosed_skips (U.line l u) = line_skips l ∙ unclosed_skips u
unclosed_skips (U.comment {s = s} B u) = block_skips (47 ∷ 42 ∷ s) B ∙ unclosed_skips u

-- ## A gap is no longer a second time

gap_stays : {s r : List ℕ} → Gap s r → Gap r r
gap_stays (nothing d) = nothing d
gap_stays (white e g) = gap_stays g
gap_stays (line l g) = gap_stays g
gap_stays (comment B g) = gap_stays g

unclosed_stays : {s c : List ℕ} → Unclosed s c → Unclosed c c
unclosed_stays (U.never n) = U.never n
unclosed_stays (U.white e u) = unclosed_stays u
unclosed_stays (U.line l u) = unclosed_stays u
unclosed_stays (U.comment B u) = unclosed_stays u

pub past_again : (s r : List ℕ) → gap s ≡ past r → gap r ≡ past r
past_again s r e = go (subst (Gives (Gap s)) e (gap_sound s))
  where
    go : Gives (Gap s) (past r) → gap r ≡ past r
    go (gives g) = gap_skips (gap_stays g)

pub unclosed_again : (s c : List ℕ) → gap s ≡ unclosed c → gap c ≡ unclosed c
unclosed_again s c e = unclosed_skips (unclosed_stays (unclosed_sound s c e))

-- ## Names

name_front_lem : {n : List ℕ} (r : List ℕ) → NameBytes n → NameEnds r → (name_front (n ++ r) ≡ n) × (name_behind (n ++ r) ≡ r)
unfolding name_front name_behind
name_front_lem [] none_left text_ends = (refl, refl)
name_front_lem (b ∷ s) none_left (other_byte e) = (rw (e, name_front), rw (e, name_behind))
name_front_lem r (one_more {b = b} {n = n} e N) E =
    let i = name_front_lem r N E in (rw (e, name_front) (ap (λ n. b ∷ n) i.0), rw (e, name_behind) i.1)

letter_name : (b : ℕ) → letter b ≡ true → name_byte b ≡ true
letter_name b e = rw e

pub named_front : {n s r : List ℕ} → Named n s r → (name_front s ≡ n) × (name_behind s ≡ r)
unfolding name_front name_behind
named_front (name {b = b} {n = n} {r = r} e N E) = name_front_lem r (one_more (letter_name b e) N) E

name_splits : (s : List ℕ) → NameBytes (name_front s) × NameEnds (name_behind s) × (name_front s ++ name_behind s ≡ s)
unfolding name_front name_behind
name_splits [] = (none_left, text_ends, refl)
name_splits (b ∷ s) = go (name_byte b) refl (name_splits s)
  where
    go : (e : Bool) → name_byte b ≡ e → NameBytes (name_front s) × NameEnds (name_behind s) × (name_front s ++ name_behind s ≡ s)
        → NameBytes (name_front (b ∷ s)) × NameEnds (name_behind (b ∷ s)) × (name_front (b ∷ s) ++ name_behind (b ∷ s) ≡ b ∷ s)
    go true e h = (rw (e, name_front) (one_more e h.0), rw (e, name_behind) h.1, rw (e, name_front, name_behind) (ap (λ s. b ∷ s) h.2))
    go false e h = (rw (e, name_front) none_left, rw (e, name_behind) (other_byte e), rw (e, name_front, name_behind) refl)

pub named_sound : (b : ℕ) (s : List ℕ) → letter b ≡ true → Named (name_front (b ∷ s)) (b ∷ s) (name_behind (b ∷ s))
unfolding name_front name_behind
named_sound b s e =
    let h = name_splits s in
    let k = letter_name b e in
    let z : name_front (b ∷ s) ≡ b ∷ name_front s = rw (k, name_front) in
    let y : name_behind (b ∷ s) ≡ name_behind s = rw (k, name_behind) in
    rw (z, y) (subst (λ t. Named (b ∷ name_front s) (b ∷ t) (name_behind s)) h.2 (name e h.0 h.1))
