-- A text's defs, by its lexemes: what stands behind each, and how many there can be.
use Prim.Native.Nat.{ℕ, zero, suc, ◌+◌, ◌*◌, ◌≤◌, ◌<◌}
use mathlib.Core.Path.{◌≡◌, refl, ◌∙◌}
use mathlib.Core.Bool.{true, false}
use mathlib.Core.List.{List, [], ◌∷◌, map}
use native.Mathlib.Omega.{arith}
use lib.ListN.{length, get_or, get_or-map}
use borrow.Author.Tests.{ne_eqb}
use Rattle.notation.specs.Tree.{Name, def, block, local, on}
use Rattle.notation.specs.Token.{Token, head, leaf, opens, closes, left, right, slash, before, after, bad, Lexeme, bare}
use Rattle.notation.specs.Lexical.{Gap, nothing, byte, Named, Then, behind, plain, Spelled, a_head, a_call, a_dot, a_text, a_class, a_query, an_if, an_opener, a_def, a_block, a_local, an_on, a_greater, a_left, a_right, a_slash, an_and, a_not, an_option, a_star, a_plus}
use Rattle.notation.specs.Lexical as Lexical
use Rattle.notation.specs.LexicalGap.{Gives, gives, gap_sound, gap_skips, named_front}
use Rattle.notation.specs.LexicalText.{Yields, yields, no_way}
use Rattle.notation.specs.LexicalToken.{token_sound, name_complete, truth_complete}
use Rattle.notation.specs.ShorterLaws.{gap_shorter, named_shorter, then_named, token_shorter}
use Rattle.notation.specs.Lexer.{Piece, piece, no, Skipped, past, unclosed, gap, skip, name_front, name_behind, truth, ◌then◌, token, lexed, lexemes, tokens}
use Rattle.notation.specs.Uses.{def_of}
use Rattle.notation.specs.Places.{name_in, behind_truth, is_def, only}
use Rattle.lexer.proofs.NameLaws.{letter_high}
use Rattle.lexer.proofs.LexemeLaws.{lexemes_end, lexemes_open, lexemes_no, lexemes_token}
use Rattle.patterns.specs.Bodies.{Body, bodies_in, no_body}
use Rattle.patterns.specs.Passed.{defs_of, no_lexeme}

abbrev at : List ℕ → Token → Lexeme
at s t = record { here = s; token = t }

-- ## From lexeme to lexeme

-- What holds where none is left or what is no token stands, and of one lexeme more, holds of all.
module _ (P : List ℕ → List Lexeme → Type 0) (ends : (s : List ℕ) → P s []) (stops : (s c : List ℕ) → P s (at c bad ∷ []))
    (goes : (s u v : List ℕ) (t : Token) → Gap s u → Spelled t u v → P v (lexemes v) → P s (at u t ∷ lexemes v)) where
  up_to : (k : ℕ) (s : List ℕ) → length s < k → P s (lexemes s)
  up_to zero s h = absurd (omega arith)
  up_to (suc k) s h = go (gap s) refl (gap_sound s) (up_to k)
    where
      on : (b : ℕ) (u : List ℕ) → gap s ≡ past (b ∷ u) → Gap s (b ∷ u) → (p : Piece Token) → token b u ≡ p → Yields (λ t r. Spelled t (b ∷ u) r) p
          → ((r : List ℕ) → length r < k → P r (lexemes r)) → P s (lexemes s)
      on b u e g no f y more = rw (lexemes_no s e f) (stops s (b ∷ u))
      on b u e g (piece t r) f (yields S) more =
          let i = gap_shorter g in let j = token_shorter S in rw (lexemes_token s e f) (goes s (b ∷ u) r t g S (more r (omega arith)))

      go : (o : Skipped) → gap s ≡ o → Gives (Gap s) o → ((r : List ℕ) → length r < k → P r (lexemes r)) → P s (lexemes s)
      go (unclosed c) e g more = rw (lexemes_open s e) (stops s c)
      go (past []) e g more = rw (lexemes_end s e) (ends s)
      go (past (b ∷ u)) e (gives g) more = on b u e g (token b u) refl (token_sound b u) more

  each_lexeme : (s : List ℕ) → P s (lexemes s)
  each_lexeme s = up_to (suc (length s)) s (omega arith)

-- ## What stands behind a def

-- Where a name stands no gap does.
no_gap : {n s r : List ℕ} → Named n s r → Gap s s
no_gap (Lexical.name {b = b} e N E) =
    let h = letter_high b e in
    nothing
    (byte {b = b}
    (rw (ne_eqb b 32 (λ z. omega arith), ne_eqb b 9 (λ z. omega arith), ne_eqb b 10 (λ z. omega arith), ne_eqb b 13 (λ z. omega arith)))
    (λ z. omega arith))

-- No `!` does either.
no_truth : {n s t r : List ℕ} → Gap s t → Named n t r → truth s ≡ piece true t
no_truth g (Lexical.name {b = b} e N E) = let h = letter_high b e in truth_complete (behind g (plain (λ z. omega arith)))

-- So the name in `<`, a word and a name is the latter.
name_in_lem : {w n s u t r : List ℕ} → Then (Named w) s u → Gap u t → Named n t r → name_in (60 ∷ s) ≡ t
unfolding name_in behind_truth ◌then◌
name_in_lem W g N = rw (name_complete W, no_truth g N, gap_skips (no_gap N), behind_truth)

-- The name of a def, and what stands behind it. Two bytes at least belong to it.
record DefAt (n : Name) (u v : List ℕ) : Type 0 where
  front : name_front (name_in u) ≡ n
  rest : name_behind (name_in u) ≡ v
  long : 2 + length v ≤ length u

def_at : {t : Token} {u v : List ℕ} → Spelled t u v → (n : Name) → t ≡ opens (def n) → DefAt n u v
def_at (a_head N S) n e = no_way (cc)
def_at (a_call N f) n e = no_way (cc)
def_at a_dot n e = no_way (cc)
def_at (a_text x C) n e = no_way (cc)
def_at (a_class x D) n e = no_way (cc)
def_at (a_query a G N S) n e = no_way (cc)
def_at (an_if G W N S) n e = no_way (cc)
def_at (an_opener {t = t} a_def W (behind g N)) n e =
    let f : t ≡ n = cc in
    let i = name_in_lem W g N in
    let h = named_front N in
    record { front = rw i (h.0 ∙ f); rest = rw i h.1; long = omega (arith, then_named W, gap_shorter g, named_shorter N) }
def_at (an_opener a_block W N) n e = no_way (cc)
def_at (an_opener a_local W N) n e = no_way (cc)
def_at (an_on G W N) n e = no_way (cc)
def_at a_greater n e = no_way (cc)
def_at a_left n e = no_way (cc)
def_at a_right n e = no_way (cc)
def_at a_slash n e = no_way (cc)
def_at an_and n e = no_way (cc)
def_at a_not n e = no_way (cc)
def_at an_option n e = no_way (cc)
def_at a_star n e = no_way (cc)
def_at a_plus n e = no_way (cc)

-- A token is a def, or names none.
data Which (t : Token) : Type 0 where
  a_def_of : (n : Name) → t ≡ opens (def n) → Which t
  another : def_of t ≡ [] → is_def t ≡ false → Which t

which : (t : Token) → Which t
which (head n) = another refl refl
which (leaf l) = another refl refl
which (opens (def n)) = a_def_of n refl
which (opens (block n)) = another refl refl
which (opens (local n)) = another refl refl
which (opens (on c w)) = another refl refl
which closes = another refl refl
which left = another refl refl
which right = another refl refl
which slash = another refl refl
which (before p) = another refl refl
which (after s) = another refl refl
which bad = another refl refl

-- ## All defs

-- A def's body, by its lexeme: behind its name.
abbrev pub body_of : Lexeme → Body
body_of l = record { table = name_front (name_in l.here); ahead = tokens (name_behind (name_in l.here)) }

only_def : (l : Lexeme) (ls : List Lexeme) {n : Name} → l.token ≡ opens (def n) → only is_def (l ∷ ls) ≡ l ∷ only is_def ls
unfolding only
only_def l ls e = rw e

pub only_other : (l : Lexeme) (ls : List Lexeme) → is_def l.token ≡ false → only is_def (l ∷ ls) ≡ only is_def ls
unfolding only
only_other l ls e = rw e

-- The bodies are those behind the defs, one by one.
pub bodies_behind : (s : List ℕ) → bodies_in (tokens s) ≡ map body_of (defs_of s)
unfolding bodies_in only
bodies_behind =
    each_lexeme (λ s ls. bodies_in (bare ls) ≡ map body_of (only is_def ls)) (λ s. refl) (λ s c. refl)
    (λ s u v t g S more. step S (which t) more)
  where
    step : {u v : List ℕ} {t : Token} → Spelled t u v → Which t → bodies_in (tokens v) ≡ map body_of (defs_of v)
        → bodies_in (t ∷ tokens v) ≡ map body_of (only is_def (at u t ∷ lexemes v))
    step {u} {v} {t} S (a_def_of n e) more = let d = def_at S n e in rw (e, d.front, d.rest, more)
    step {u} {v} {t} S (another e f) more = rw (only_other (at u t) (lexemes v) f, e, more)

-- Each takes two bytes at least, so there are half as many as bytes at most.
pub few_defs : (s : List ℕ) → 2 * length (defs_of s) ≤ length s
unfolding only
few_defs =
    each_lexeme (λ s ls. 2 * length (only is_def ls) ≤ length s) (λ s. omega arith) (λ s c. omega arith)
    (λ s u v t g S more. step g S (which t) more)
  where
    step : {s u v : List ℕ} {t : Token} → Gap s u → Spelled t u v → Which t → 2 * length (defs_of v) ≤ length v
        → 2 * length (only is_def (at u t ∷ lexemes v)) ≤ length s
    step {u = u} {v = v} {t = t} g S (a_def_of n e) more = rw (only_def (at u t) (lexemes v) e) (omega (arith, gap_shorter g, (def_at S n e).long))
    step {u = u} {v = v} {t = t} g S (another e f) more = rw (only_other (at u t) (lexemes v) f) (omega (arith, gap_shorter g, token_shorter S))

pub body_at : (s : List ℕ) (i : ℕ) → get_or (bodies_in (tokens s)) i no_body ≡ body_of (get_or (defs_of s) i no_lexeme)
unfolding name_in name_front name_behind lexemes lexed skip
body_at s i = rw (bodies_behind s) (get_or-map body_of (defs_of s) i no_lexeme)

-- The def that is the front lexeme.
pub body_front : (s : List ℕ) {l : Lexeme} {ls : List Lexeme} {n : Name} → lexemes s ≡ l ∷ ls → l.token ≡ opens (def n) → body_of l ≡ record { table = n; ahead = bare ls }
unfolding bodies_in only
body_front s {l} {ls} {n} e f =
    let g : bodies_in (bare (l ∷ ls)) ≡ map body_of (only is_def (l ∷ ls)) = rw e at (bodies_behind s) in
    let h : ◌≡◌ {A = List Body} (record { table = n; ahead = bare ls } ∷ bodies_in (bare ls)) (body_of l ∷ map body_of (only is_def ls)) = rw f at g in cc
