-- Tokens: the lexical rules and the functions of `Lexer` are one.
use Rattle.std.specs.Prelude.{ℕ, ◌≡◌, refl, Bool, true, false, List, [], ◌∷◌, eqb}
use Rattle.std.proofs.Common.{sym, ◌∙◌, subst, eq-eqb, ne_eqb, eqb-true}
use Rattle.std.proofs.lemmas.Bool.{eqb-false}
use Rattle.format.specs.Reading.{pick}
use Rattle.notation.specs.Bytes.{bytes, one_of, letter}
use Rattle.notation.specs.Tree.{Name, Part, Query, match, is, isa, exists, quoted, class, call, Opener, def, block, local}
use Rattle.notation.specs.Token.{Token, leaf}
use Rattle.notation.specs.Lexical
use Rattle.notation.specs.Lexical.{Gap, Named, Then, behind, Sign, Truth, negated, plain, plain_end, Opens, a_def, a_block, a_local, Asks, a_match, an_is, an_isa, an_exists, Chars, Parts, NoCaret, no_caret, Spelled, a_head, a_call, a_dot, a_text, a_class, a_query, an_if, an_opener, an_on, a_greater, a_left, a_right, a_slash, an_and, a_not, an_option, a_star, a_plus}
use Rattle.notation.specs.LexicalGap.{gap_skips, Gives, gives, gives_none, gap_sound, named_front, named_sound}
use Rattle.notation.specs.LexicalText.{Yields, yields, yields_none, quote_sound, quote_complete, parts_sound, parts_complete, no_way}
use Rattle.notation.specs.Lexer.{Piece, piece, no, ◌then◌, Skipped, past, unclosed, gap, name_here, name, sign_here, sign, truth_here, truth, fresh, quote, Word, opener, asks, ifs, ons, unknown, same, word, operator, named_here, classed, class_here, token}

-- ## Combining

pub then_yields :
    {A B : Type 0} {P : A → List ℕ → Type 0} {Q : B → List ℕ → Type 0} {p : Piece A} {k : A → List ℕ → Piece B} → Yields P p
    → ((x : A) (r : List ℕ) → P x r → Yields Q (k x r)) → Yields Q (p then k)
unfolding ◌then◌
then_yields (yields {x = x} {r = r} h) f = f x r h
then_yields yields_none f = yields_none

pick_with : {A : Type 0} (P : A → Type 0) (t : Bool) {x y : A} → (t ≡ true → P x) → (t ≡ false → P y) → P (pick t x y)
pick_with P true f g = f refl
pick_with P false f g = g refl

then_goes : {A B : Type 0} {p : Piece A} (k : A → List ℕ → Piece B) (x : A) (r : List ℕ) → p ≡ piece x r → (p then k) ≡ k x r
unfolding ◌then◌
then_goes k x r e = rw e

-- ## A name, a sign, a truth

named_here_lem : {n : Name} {s r : List ℕ} → Named n s r → name_here (past s) ≡ piece n r
unfolding name_here
named_here_lem (Lexical.name {b = b} {n = n} {r = r} e N E) =
    let f = named_front (Lexical.name {b = b} {n = n} {r = r} e N E) in rw (e, f.0, f.1)

pub name_complete : {n : Name} {s r : List ℕ} → Then (Named n) s r → name s ≡ piece n r
name_complete (behind g N) = rw (gap_skips g) (named_here_lem N)

pub name_sound : (s : List ℕ) → Yields (λ n r. Then (Named n) s r) (name s)
unfolding name_here
name_sound s = go (gap_sound s)
  where
    go : {o : Skipped} → Gives (Gap s) o → Yields (λ n r. Then (Named n) s r) (name_here o)
    go gives_none = yields_none
    go (gives {x = []} g) = yields_none
    go (gives {x = b ∷ t} g) =
        pick_with (Yields (λ n r. Then (Named n) s r)) (letter b) (λ e. yields (behind g (named_sound b t e))) (λ e. yields_none)

pub sign_complete : (c : ℕ) {s r : List ℕ} → Then (Sign c) s r → sign c s ≡ piece tt r
unfolding sign_here
sign_complete c (behind g Lexical.sign) = rw (gap_skips g) (rw (eq-eqb c c refl))

pub sign_sound : (c : ℕ) (s : List ℕ) → Yields (λ x r. Then (Sign c) s r) (sign c s)
unfolding sign_here
sign_sound c s = go (gap_sound s)
  where
    go : {o : Skipped} → Gives (Gap s) o → Yields (λ x r. Then (Sign c) s r) (sign_here c o)
    go gives_none = yields_none
    go (gives {x = []} g) = yields_none
    go (gives {x = b ∷ t} g) =
        pick_with (Yields (λ x r. Then (Sign c) s r)) (eqb b c)
        (λ e. yields (behind g (subst (λ b. Sign c (b ∷ t) t) (sym (eqb-true b c e)) Lexical.sign))) (λ e. yields_none)

pub truth_complete : {w : Bool} {s r : List ℕ} → Then (Truth w) s r → truth s ≡ piece w r
unfolding truth_here
truth_complete (behind g negated) = rw (gap_skips g)
truth_complete (behind g (plain {b = b} n)) = rw (gap_skips g) (rw (ne_eqb b 33 n))
truth_complete (behind g plain_end) = rw (gap_skips g)

pub truth_sound : (s : List ℕ) → Yields (λ w r. Then (Truth w) s r) (truth s)
unfolding truth_here
truth_sound s = go (gap_sound s)
  where
    go : {o : Skipped} → Gives (Gap s) o → Yields (λ w r. Then (Truth w) s r) (truth_here o)
    go gives_none = yields_none
    go (gives {x = []} g) = yields (behind g plain_end)
    go (gives {x = b ∷ t} g) =
        pick_with (Yields (λ w r. Then (Truth w) s r)) (eqb b 33)
        (λ e. yields (behind g (subst (λ b. Truth false (b ∷ t) t) (sym (eqb-true b 33 e)) negated))) (λ e. yields (behind g (plain (eqb-false b 33 e))))

-- ## Operators

pub same_true : (x y : List ℕ) → same x y ≡ true → x ≡ y
unfolding same
same_true [] [] e = refl
same_true [] (y ∷ ys) e = no_way (cc)
same_true (x ∷ xs) [] e = no_way (cc)
same_true (x ∷ xs) (y ∷ ys) e = go (eqb x y) refl (λ h. same_true xs ys h)
  where
    go : (t : Bool) → eqb x y ≡ t → (same xs ys ≡ true → xs ≡ ys) → x ∷ xs ≡ y ∷ ys
    go true q f = let z = eqb-true x y q in let w = f (rw q at e) in cc
    go false q f = let z : false ≡ true = rw q at e in no_way (cc)

data WordIs (n : Name) : Word → Type 0 where
  is_opener : {o : Name → Opener} → Opens o n → WordIs n (opener o)
  is_query : {q : Query} → Asks q n → WordIs n (asks q)
  is_if : n ≡ bytes "if" → WordIs n ifs
  is_on : n ≡ bytes "on" → WordIs n ons
  is_unknown : WordIs n unknown

word_is : (n : Name) → WordIs n (word n)
unfolding word
word_is n =
    pick_with (WordIs n) (same n (bytes "def")) (λ e. is_opener (subst (Opens def) (sym (same_true n (bytes "def") e)) a_def)) λ _.
    pick_with (WordIs n) (same n (bytes "block")) (λ e. is_opener (subst (Opens block) (sym (same_true n (bytes "block") e)) a_block)) λ _.
    pick_with (WordIs n) (same n (bytes "local")) (λ e. is_opener (subst (Opens local) (sym (same_true n (bytes "local") e)) a_local)) λ _.
    pick_with (WordIs n) (same n (bytes "match")) (λ e. is_query (subst (Asks match) (sym (same_true n (bytes "match") e)) a_match)) λ _.
    pick_with (WordIs n) (same n (bytes "is")) (λ e. is_query (subst (Asks is) (sym (same_true n (bytes "is") e)) an_is)) λ _.
    pick_with (WordIs n) (same n (bytes "isa")) (λ e. is_query (subst (Asks isa) (sym (same_true n (bytes "isa") e)) an_isa)) λ _.
    pick_with (WordIs n) (same n (bytes "exists")) (λ e. is_query (subst (Asks exists) (sym (same_true n (bytes "exists") e)) an_exists)) λ _.
    pick_with (WordIs n) (same n (bytes "if")) (λ e. is_if (same_true n (bytes "if") e)) λ _.
    pick_with (WordIs n) (same n (bytes "on")) (λ e. is_on (same_true n (bytes "on") e)) λ _. is_unknown

abbrev Spells : List ℕ → Token → List ℕ → Type 0
Spells s t r = Spelled t s r

operator_sound : {n : Name} {w : Word} (s u : List ℕ) → Then (Named n) s u → WordIs n w → Yields (Spells (60 ∷ s)) (operator w u)
unfolding operator
operator_sound s u g (is_opener o) = then_yields (name_sound u) λ t r N. yields (an_opener o g N)
operator_sound s u g (is_query a) = then_yields (name_sound u) λ t r N. then_yields (sign_sound 62 r) λ x v S. yields (a_query a g N S)
operator_sound s u g (is_if e) =
    then_yields (truth_sound u) λ w r W. then_yields (name_sound r) λ c v N. then_yields (sign_sound 62 v) λ x y S.
    yields (an_if (subst (λ n. Then (Named n) s u) e g) W N S)
operator_sound s u g (is_on e) =
    then_yields (truth_sound u) λ w r W. then_yields (name_sound r) λ c v N. yields (an_on (subst (λ n. Then (Named n) s u) e g) W N)
operator_sound s u g is_unknown = yields_none

opens_word : {o : Name → Opener} {w : Name} → Opens o w → word w ≡ opener o
unfolding word same
opens_word a_def = refl
opens_word a_block = refl
opens_word a_local = refl

asks_word : {q : Query} {w : Name} → Asks q w → word w ≡ asks q
unfolding word same
asks_word a_match = refl
asks_word an_is = refl
asks_word an_isa = refl
asks_word an_exists = refl

-- ## Tokens

-- Behind a name stands a `=`, or none does.
data Equals (t : List ℕ) : Skipped → Type 0 where
  equals : {r : List ℕ} → Then (Sign 61) t r → Equals t (past (61 ∷ r))
  none_here : {o : Skipped} → ((n : Name) → named_here n t o ≡ piece (leaf (call n)) t) → ((r : List ℕ) → Then (Sign 61) t r → ⊥) → Equals t o

-- No `=` stands behind a gap that something else, or nothing, stands behind.
no_sign : {t r : List ℕ} {o : Skipped} → gap t ≡ o → (o ≡ past (61 ∷ r) → ⊥) → Then (Sign 61) t r → ⊥
no_sign e n (behind g Lexical.sign) = n (sym e ∙ gap_skips g)

equals_or_not : (t : List ℕ) (o : Skipped) → gap t ≡ o → Gives (Gap t) o → Equals t o
unfolding named_here
equals_or_not t (unclosed c) e g = none_here (λ n. refl) (λ r. no_sign e (λ z. no_way (cc)))
equals_or_not t (past []) e g = none_here (λ n. refl) (λ r. no_sign e (λ z. no_way (cc)))
equals_or_not t (past (b ∷ u)) e (gives g) = go (eqb b 61) refl
  where
    go : (x : Bool) → eqb b 61 ≡ x → Equals t (past (b ∷ u))
    go true q = subst (λ b. Equals t (past (b ∷ u))) (sym (eqb-true b 61 q)) (equals (behind (subst (λ b. Gap t (b ∷ u)) (eqb-true b 61 q) g) Lexical.sign))
    go false q = none_here {o = past (b ∷ u)} (λ n. rw q) (λ r. no_sign e (λ z. eqb-false b 61 q (cc)))

equals_behind : (t : List ℕ) → Equals t (gap t)
equals_behind t = equals_or_not t (gap t) refl (gap_sound t)

named_sound_here : {n : Name} (s : List ℕ) {t : List ℕ} → Named n s t → Yields (Spells s) (named_here n t (gap t))
unfolding named_here
named_sound_here {n} s {t} N = go (equals_behind t)
  where
    go : {o : Skipped} → Equals t o → Yields (Spells s) (named_here n t o)
    go (equals S) = yields (a_head N S)
    go (none_here e f) = rw (e n) (yields (a_call N f))

class_sound : (s : List ℕ) → Yields (Spells (91 ∷ s)) (class_here s)
unfolding class_here classed
class_sound [] = yields_none
class_sound (b ∷ s) = pick_with (Yields (Spells (91 ∷ b ∷ s))) (eqb b 94) (λ e. yields_none) (λ e. go (eqb-false b 94 e) (parts_sound (b ∷ s)))
  where
    go : (b ≡ 94 → ⊥) → {p : Piece (List Part)} → Yields (λ ps r. Parts ps (b ∷ s) r) p → Yields (Spells (91 ∷ b ∷ s)) (classed p)
    go n yields_none = yields_none
    go n (yields {x = []} D) = yields_none
    go n (yields {x = p ∷ ps} D) = yields (a_class (no_caret n) D)

class_here_lem : {p : Part} {ps : List Part} {s r : List ℕ} → NoCaret s → Parts (p ∷ ps) s r → class_here s ≡ piece (leaf (class p ps)) r
unfolding class_here classed
class_here_lem (no_caret {b = b} n) D = rw (ne_eqb b 94 n) (rw (parts_complete D))

module _ (b : ℕ) (s : List ℕ) where
  -- A token that is one byte.
  one : (c : ℕ) {t : Token} → eqb b c ≡ true → Spelled t (c ∷ s) s → Yields (Spells (b ∷ s)) (piece t s)
  one c {t} e h = yields (subst (λ b. Spelled t (b ∷ s) s) (sym (eqb-true b c e)) h)

  from : (c : ℕ) {p : Piece Token} → eqb b c ≡ true → Yields (Spells (c ∷ s)) p → Yields (Spells (b ∷ s)) p
  from c {p} e h = subst (λ b. Yields (Spells (b ∷ s)) p) (sym (eqb-true b c e)) h

  pub token_sound : Yields (Spells (b ∷ s)) (token b s)
  unfolding token
  token_sound =
      pick_with (Yields (Spells (b ∷ s))) (letter b) (λ e. named_sound_here (b ∷ s) (named_sound b s e)) λ _.
      pick_with (Yields (Spells (b ∷ s))) (eqb b 46) (λ e. one 46 e a_dot) λ _.
      pick_with (Yields (Spells (b ∷ s))) (one_of "'\"" b) (λ e. then_yields (quote_sound b s fresh) λ x r C. yields (a_text e C)) λ _.
      pick_with (Yields (Spells (b ∷ s))) (eqb b 91) (λ e. from 91 e (class_sound s)) λ _.
      pick_with (Yields (Spells (b ∷ s))) (eqb b 60)
      (λ e. from 60 e (then_yields (name_sound s) λ n u N. operator_sound s u N (word_is n))) λ _.
      pick_with (Yields (Spells (b ∷ s))) (eqb b 62) (λ e. one 62 e a_greater) λ _.
      pick_with (Yields (Spells (b ∷ s))) (eqb b 40) (λ e. one 40 e a_left) λ _.
      pick_with (Yields (Spells (b ∷ s))) (eqb b 41) (λ e. one 41 e a_right) λ _.
      pick_with (Yields (Spells (b ∷ s))) (eqb b 47) (λ e. one 47 e a_slash) λ _.
      pick_with (Yields (Spells (b ∷ s))) (eqb b 38) (λ e. one 38 e an_and) λ _.
      pick_with (Yields (Spells (b ∷ s))) (eqb b 33) (λ e. one 33 e a_not) λ _.
      pick_with (Yields (Spells (b ∷ s))) (eqb b 63) (λ e. one 63 e an_option) λ _.
      pick_with (Yields (Spells (b ∷ s))) (eqb b 42) (λ e. one 42 e a_star) λ _.
      pick_with (Yields (Spells (b ∷ s))) (eqb b 43) (λ e. one 43 e a_plus) λ _. yields_none

unfoldable pub token_of : List ℕ → Piece Token
token_of [] = no
token_of (b ∷ s) = token b s

named_token : {n : Name} {s t : List ℕ} → Named n s t → token_of s ≡ named_here n t (gap t)
unfolding token_of token
named_token (Lexical.name {b = b} {n = n} {r = r} e N E) =
    let f = named_front (Lexical.name {b = b} {n = n} {r = r} e N E) in rw (e, f.0, f.1)

-- A mark is one of the two.
text_token : (mark : ℕ) (s : List ℕ) → one_of "'\"" mark ≡ true → token mark s ≡ (quote mark fresh s then λ x r. piece (leaf (quoted x)) r)
unfolding token
text_token mark s e = go (eqb mark 39) (eqb mark 34) refl refl
  where
    go : (t u : Bool) → eqb mark 39 ≡ t → eqb mark 34 ≡ u → token mark s ≡ (quote mark fresh s then λ x r. piece (leaf (quoted x)) r)
    go true u x y = rw (eqb-true mark 39 x)
    go false true x y = rw (eqb-true mark 34 y)
    go false false x y = let z : false ≡ true = rw (x, y) at e in no_way (cc)

real_mark : (mark : ℕ) → one_of "'\"" mark ≡ true → mark ≡ 92 → ⊥
real_mark mark e z = let y : false ≡ true = rw z at e in no_way (cc)

call_here : (n : Name) (t : List ℕ) → ((r : List ℕ) → Then (Sign 61) t r → ⊥) → named_here n t (gap t) ≡ piece (leaf (call n)) t
call_here n t f = go (equals_behind t)
  where
    go : {o : Skipped} → Equals t o → named_here n t o ≡ piece (leaf (call n)) t
    go (equals {r = r} S) = absurd (f r S)
    go (none_here e g) = e n

pub token_complete : {t : Token} {s r : List ℕ} → Spelled t s r → token_of s ≡ piece t r
unfolding token_of token operator named_here classed ◌then◌
token_complete (a_head N (behind g Lexical.sign)) = named_token N ∙ rw (gap_skips g)
token_complete (a_call {n = n} {t = t} N f) = named_token N ∙ call_here n t f
token_complete a_dot = refl
token_complete (a_text {mark = mark} {x = x} {s = s} {r = r} e C) =
    text_token mark s e ∙ then_goes (λ x r. piece (leaf (quoted x)) r) x r (quote_complete mark (real_mark mark e) C)
token_complete (a_class n D) = class_here_lem n D
token_complete (a_query {w = w} a G N S) = rw (name_complete G, asks_word a, name_complete N, sign_complete 62 S)
token_complete (an_if G W N S) = rw (name_complete G) (unfold word same in rw (truth_complete W, name_complete N, sign_complete 62 S))
token_complete (an_opener o G N) = rw (name_complete G, opens_word o, name_complete N)
token_complete (an_on G W N) = rw (name_complete G) (unfold word same in rw (truth_complete W, name_complete N))
token_complete a_greater = refl
token_complete a_left = refl
token_complete a_right = refl
token_complete a_slash = refl
token_complete an_and = refl
token_complete a_not = refl
token_complete an_option = refl
token_complete a_star = refl
token_complete a_plus = refl
