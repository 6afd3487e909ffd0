-- The place of a token's name is where that name stands: in the token, and so in the text.
use Rattle.std.specs.Prelude.{ℕ, ◌≡◌, refl, Bool, true, false, List, [], ◌∷◌, ◌++◌, drop}
use Rattle.std.proofs.Common.{ap, sym, ◌∙◌, ne_eqb}
use Rattle.notation.specs.Bytes.{letter}
use Rattle.notation.specs.Tree.{Name}
use Rattle.notation.specs.Token.{Token, Lexeme}
use Rattle.notation.specs.Lexical
use Rattle.notation.specs.Lexical.{Gap, nothing, byte, Named, Then, behind, Truth, plain, a_def, a_block, a_local, Spelled, a_head, a_call, a_dot, a_text, a_class, a_query, an_if, an_opener, an_on, a_greater, a_left, a_right, a_slash, an_and, a_not, an_option, a_star, a_plus}
use Rattle.notation.specs.Unread.{LexesTo, stuck}
use Rattle.notation.specs.Unread as U
use Rattle.notation.specs.LexicalGap.{gap_skips}
use Rattle.notation.specs.LexicalText.{no_way}
use Rattle.notation.specs.LexicalToken.{name_complete, truth_complete}
use Rattle.notation.specs.Lexer.{◌then◌}
use Rattle.notation.specs.Uses.{head_of, call_of, def_of, ask_of, switch_of}
use Rattle.notation.specs.Places.{behind_truth, name_in, name_place}
use Rattle.notation.specs.EndsLaws.{Ends, whole, inner, ends_on, ends_placed, gap_ends, token_ends, then_named, then_truth}

-- ## Where a name stands no gap does, and no `!`

no_letter : {b : ℕ} (k : ℕ) → letter b ≡ true → letter k ≡ false → b ≡ k → ⊥
no_letter k e f z = let y : true ≡ false = sym e ∙ ap letter z ∙ f in no_way (cc)

pub no_gap : {n s r : List ℕ} → Named n s r → Gap s s
no_gap (Lexical.name {b = b} e N E) =
    nothing
    (byte {b = b}
    (rw (ne_eqb b 32 (no_letter 32 e refl), ne_eqb b 9 (no_letter 9 e refl), ne_eqb b 10 (no_letter 10 e refl), ne_eqb b 13 (no_letter 13 e refl)))
    (no_letter 47 e refl))

no_truth : {n s t r : List ℕ} → Gap s t → Named n t r → Then (Truth true) s t
no_truth g (Lexical.name e N E) = behind g (plain (no_letter 33 e refl))

-- ## The bytes from a token's name on

name_front_lem : {n s r : List ℕ} → Named n s r → name_in s ≡ s
unfolding name_in
name_front_lem (Lexical.name {b = b} e N E) = rw (ne_eqb b 60 (no_letter 60 e refl))

-- Behind `<`, a word and perhaps a `!`.
pub name_switched : {w : Bool} {k n s u v t r : List ℕ} → Then (Named k) s u → Then (Truth w) u v → Gap v t → Named n t r → name_in (60 ∷ s) ≡ t
unfolding name_in behind_truth ◌then◌
name_switched K W g N = rw (name_complete K, truth_complete W, gap_skips g, behind_truth)

pub name_in_lem : {k n s u t r : List ℕ} → Then (Named k) s u → Gap u t → Named n t r → name_in (60 ∷ s) ≡ t
name_in_lem K g N = name_switched K (no_truth g N) (no_gap N) N

-- The names that a token says, of whatever sort: one, or none.
abbrev pub names_of : Token → List Name
names_of t = head_of t ++ (call_of t ++ (def_of t ++ (ask_of t ++ switch_of t)))

-- Each of these names is the front of some bytes.
abbrev pub Stand : List Name → List ℕ → Type 0
Stand [] s = Unit
Stand (n ∷ ns) s = ((r : List ℕ) × Named n s r) × Stand ns s

-- A token's name, if it has one, stands where its bytes from the name on begin, and these are an end of the token's.
data Has (t : Token) (s : List ℕ) : Type 0 where
  nameless : names_of t ≡ [] → Has t s
  one_name : {n u r : List ℕ} → names_of t ≡ n ∷ [] → name_in s ≡ u → Named n u r → Ends s u → Has t s

has_name : {t : Token} {s r : List ℕ} → Spelled t s r → Has t s
has_name (a_head N S) = one_name refl (name_front_lem N) N whole
has_name (a_call N f) = one_name refl (name_front_lem N) N whole
has_name a_dot = nameless refl
has_name (a_text e C) = nameless refl
has_name (a_class n D) = nameless refl
has_name (a_query a K (behind g N) S) = one_name refl (name_in_lem K g N) N (inner (ends_on (then_named K) (gap_ends g)))
has_name (an_if K W (behind g N) S) = one_name refl (name_switched K W g N) N (inner (ends_on (then_named K) (ends_on (then_truth W) (gap_ends g))))
has_name (an_opener a_def K (behind g N)) = one_name refl (name_in_lem K g N) N (inner (ends_on (then_named K) (gap_ends g)))
has_name (an_opener a_block K (behind g N)) = one_name refl (name_in_lem K g N) N (inner (ends_on (then_named K) (gap_ends g)))
has_name (an_opener a_local K (behind g N)) = one_name refl (name_in_lem K g N) N (inner (ends_on (then_named K) (gap_ends g)))
has_name (an_on K W (behind g N)) = one_name refl (name_switched K W g N) N (inner (ends_on (then_named K) (ends_on (then_truth W) (gap_ends g))))
has_name a_greater = nameless refl
has_name a_left = nameless refl
has_name a_right = nameless refl
has_name a_slash = nameless refl
has_name an_and = nameless refl
has_name a_not = nameless refl
has_name an_option = nameless refl
has_name a_star = nameless refl
has_name a_plus = nameless refl

-- IN A TOKEN ITS NAME STANDS WHERE `name_in` BEGINS.
pub name_stands : {t : Token} {s r : List ℕ} → Spelled t s r → Stand (names_of t) (name_in s)
name_stands {t} {s} S = go (has_name S)
  where
    go : Has t s → Stand (names_of t) (name_in s)
    go (nameless e) = rw e tt
    go (one_name {r = r} e z N E) = rw (e, z) ((r, N), tt)

-- ## In the text

-- At the place of each lexeme's name that name stands.
abbrev pub AllStand : (text : List ℕ) → List Lexeme → Type 0
AllStand text [] = Unit
AllStand text (l ∷ ls) = Stand (names_of l.token) (drop (name_place text l) text) × AllStand text ls

module _ (text : List ℕ) where
  placed : {t : Token} {s r : List ℕ} → Ends text s → Spelled t s r → Stand (names_of t) (drop (name_place text (record { here = s; token = t })) text)
  placed {t} {s} B S = go (has_name S)
    where
      go : Has t s → Stand (names_of t) (drop (name_place text (record { here = s; token = t })) text)
      go (nameless e) = rw e tt
      go (one_name {r = r} e z N E) = rw (e, z, ends_placed (ends_on B E)) ((r, N), tt)

  all_placed : {s : List ℕ} {ls : List Lexeme} → LexesTo s ls → Ends text s → AllStand text ls
  all_placed (U.finish g) B = tt
  all_placed (U.token g S L) B = let here = ends_on B (gap_ends g) in (placed here S, all_placed L (ends_on here (token_ends S)))
  all_placed (stuck g n) B = (tt, tt)
  all_placed (U.unclosed u) B = (tt, tt)

-- AT A NAME'S PLACE IN THE TEXT THAT NAME STANDS: the place of 21 and 22, and of the ninth table and condition of 24.
pub name_placed : {text : List ℕ} {ls : List Lexeme} → LexesTo text ls → AllStand text ls
name_placed {text} L = all_placed text L whole
