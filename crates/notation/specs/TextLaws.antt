-- THE READER AND THE GRAMMAR ARE ONE, from the bytes on: a text is read as productions exactly if the lexical rules and the notation derive these
-- from it; and there is at most one such reading.
use Rattle.std.specs.Prelude.{ℕ, ◌≡◌, ◌↔◌, List, [], ◌∷◌, ◌++◌}
use Rattle.notation.specs.Tree.{Tree, Production}
use Rattle.notation.specs.Token.{Token, head, leaf, opens, closes, left, right, slash, before, after, bad, Lexeme, bare}
use Rattle.notation.specs.Notation.{Level, Reads, alternatives, one_alternative, items, one_item, prefixed, no_prefix, suffixed, no_suffix, itself, brackets, operator, Productions, last, more}
use Rattle.notation.specs.Lexical
use Rattle.notation.specs.Lexical.{Lexes}
use Rattle.notation.specs.Unread.{LexesTo, stuck, unclosed}
use Rattle.notation.specs.Unread as U
use Rattle.notation.specs.UnreadLaws.{lexes_to, lexed_once, lexes_whole}
use Rattle.notation.specs.Lexer.{lexemes, tokens}
use Rattle.notation.specs.Reader.{reads, parsed}
use Rattle.notation.specs.ReaderLaws.{parsed_derived, exact as parsed_exact}
use Rattle.notation.specs.Text.{ReadsAs}

-- ## What is no token

-- What is no token stands among these.
abbrev HasBad : List Token → Type 0
HasBad [] = ⊥
HasBad (bad ∷ ts) = Unit
HasBad (head n ∷ ts) = HasBad ts
HasBad (leaf l ∷ ts) = HasBad ts
HasBad (opens o ∷ ts) = HasBad ts
HasBad (closes ∷ ts) = HasBad ts
HasBad (left ∷ ts) = HasBad ts
HasBad (right ∷ ts) = HasBad ts
HasBad (slash ∷ ts) = HasBad ts
HasBad (before p ∷ ts) = HasBad ts
HasBad (after s ∷ ts) = HasBad ts

later : (t : Token) (ts : List Token) → HasBad ts → HasBad (t ∷ ts)
later bad ts h = tt
later (head n) ts h = h
later (leaf l) ts h = h
later (opens o) ts h = h
later closes ts h = h
later left ts h = h
later right ts h = h
later slash ts h = h
later (before p) ts h = h
later (after s) ts h = h

-- Lexemes without it go to the text's end.
goes_whole : {s : List ℕ} {ls : List Lexeme} → LexesTo s ls → (HasBad (bare ls) → ⊥) → Lexes s ls
goes_whole (U.finish g) f = Lexical.finish g
goes_whole (U.token {t = t} {ls = ls} g S L) f = Lexical.token g S (goes_whole L (λ h. f (later t (bare ls) h)))
goes_whole (stuck g n) f = absurd (f tt)
goes_whole (unclosed u) f = absurd (f tt)

-- The notation derives nothing from what is no token.
data Either (A B : Type 0) : Type 0 where
  one_way : A → Either A B
  other_way : B → Either A B

carried : (x : Token) (xs ys : List Token) → Either (HasBad xs) (HasBad ys) → Either (HasBad (x ∷ xs)) (HasBad ys)
carried x xs ys (one_way h) = one_way (later x xs h)
carried x xs ys (other_way h) = other_way h

bad_in : (xs ys : List Token) → HasBad (xs ++ ys) → Either (HasBad xs) (HasBad ys)
bad_in [] ys h = other_way h
bad_in (bad ∷ xs) ys h = one_way tt
bad_in (head n ∷ xs) ys h = carried (head n) xs ys (bad_in xs ys h)
bad_in (leaf l ∷ xs) ys h = carried (leaf l) xs ys (bad_in xs ys h)
bad_in (opens o ∷ xs) ys h = carried (opens o) xs ys (bad_in xs ys h)
bad_in (closes ∷ xs) ys h = carried closes xs ys (bad_in xs ys h)
bad_in (left ∷ xs) ys h = carried left xs ys (bad_in xs ys h)
bad_in (right ∷ xs) ys h = carried right xs ys (bad_in xs ys h)
bad_in (slash ∷ xs) ys h = carried slash xs ys (bad_in xs ys h)
bad_in (before p ∷ xs) ys h = carried (before p) xs ys (bad_in xs ys h)
bad_in (after s ∷ xs) ys h = carried (after s) xs ys (bad_in xs ys h)

neither : (xs ys : List Token) → (HasBad xs → ⊥) → (HasBad ys → ⊥) → HasBad (xs ++ ys) → ⊥
neither xs ys f g h = go (bad_in xs ys h)
  where
    go : Either (HasBad xs) (HasBad ys) → ⊥
    go (one_way h) = f h
    go (other_way h) = g h

-- No token that is read is one.
read_proper : {ℓ : Level} {ts : List Token} {a : Tree} → Reads ℓ ts a → HasBad ts → ⊥
read_proper (alternatives {ts = ts} {us = us} D E) h = neither ts (slash ∷ us) (λ k. read_proper D k) (λ k. read_proper E k) h
read_proper (one_alternative D) h = read_proper D h
read_proper (items {ts = ts} {us = us} D E) h = neither ts us (λ k. read_proper D k) (λ k. read_proper E k) h
read_proper (one_item D) h = read_proper D h
read_proper (prefixed D) h = read_proper D h
read_proper (no_prefix D) h = read_proper D h
read_proper (suffixed {s = s} {ts = ts} D) h = neither ts (after s ∷ []) (λ k. read_proper D k) (λ k. k) h
read_proper (no_suffix D) h = read_proper D h
read_proper itself h = h
read_proper (brackets {ts = ts} D) h = neither ts (right ∷ []) (λ k. read_proper D k) (λ k. k) h
read_proper (operator {ts = ts} D) h = neither ts (closes ∷ []) (λ k. read_proper D k) (λ k. k) h

proper : {ts : List Token} {ps : List Production} → Productions ts ps → HasBad ts → ⊥
proper (last D) h = read_proper D h
proper (more {ts = ts} {us = us} D P) h = neither ts us (λ k. read_proper D k) (λ k. proper P k) h

-- ## The theorem

pub lexes_once : {text : List ℕ} {ls : List Lexeme} → Lexes text ls → lexemes text ≡ ls
lexes_once L = lexed_once (lexes_whole L)

pub taken : (text : List ℕ) (ps : List Production) → ReadsAs text ps → parsed (tokens text) ≡ reads ps
taken text ps r = rw (lexes_once r.lexes) (parsed_derived r.derives)

pub derived : (text : List ℕ) (ps : List Production) → parsed (tokens text) ≡ reads ps → ReadsAs text ps
derived text ps e =
    let P = (parsed_exact (tokens text) ps).0 e in record { lexemes = lexemes text; lexes = goes_whole (lexes_to text) (proper P); derives = P }

-- TAKEN EXACTLY IF DERIVED.
pub reads_exactly : (text : List ℕ) (ps : List Production) → (parsed (tokens text) ≡ reads ps) ↔ ReadsAs text ps
reads_exactly text ps = (derived text ps, taken text ps)

-- ONE READING.
pub one_reading : (text : List ℕ) (ps qs : List Production) → ReadsAs text ps → ReadsAs text qs → ps ≡ qs
one_reading text ps qs r t = cc (taken text ps r, taken text qs t)
