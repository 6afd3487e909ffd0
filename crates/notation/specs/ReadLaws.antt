-- What is read from bytes has bytes in its quoted text and its classes, and each part of a class goes up.
use Rattle.std.specs.Prelude.{ℕ, zero, suc, ◌+◌, ◌-◌, ◌≤◌, ◌≡◌, refl, Bool, true, false, List, [], ◌∷◌, ◌++◌, eqb, leb}
use Rattle.std.proofs.Common.{arith, leb-true}
use Rattle.std.proofs.Math.Option.{some, none}
use Rattle.format.specs.Reading.{pick}
use Rattle.grammar.specs.Sound.{Bytes}
use Rattle.notation.specs.Bytes.{one_of, between, hex_digit, escape}
use Rattle.notation.specs.Tree.{Name, Part, Leaf, any, quoted, class, call, query, if, Tree, leaf, prefix, suffix, binary, within, Production}
use Rattle.notation.specs.Token.{Token, head, leaf as leaf', opens, closes, left, right, slash, before, after, bad, Lexeme, bare}
use Rattle.notation.specs.Notation.{Level, Reads, alternatives, one_alternative, items, one_item, prefixed, no_prefix, suffixed, no_suffix, itself, brackets, operator, Productions, last, more}
use Rattle.notation.specs.Lexical
use Rattle.notation.specs.Lexical.{Line, over, ends, goes, Block, shuts, starred, goes_on, Gap, nothing, white, line, comment, Named, Char, escaped, hex, Chars, done, char, Parts, parts_end, single, range, Then, behind, Sign, Truth, negated, plain, plain_end, Spelled, a_head, a_call, a_dot, a_text, a_class, a_query, an_if, an_opener, an_on, a_greater, a_left, a_right, a_slash, an_and, a_not, an_option, a_star, a_plus, Lexes, finish}
use Rattle.notation.specs.LexicalText.{no_way}
use Rattle.notation.specs.FitLaws.{PartFits, AllParts}
use Rattle.notation.specs.Text.{ReadsAs}

-- ## Bytes

abbrev pub AllBytes : List ℕ → Type 0
AllBytes [] = Unit
AllBytes (b ∷ s) = (b ≤ 255) × AllBytes s

pub all_bytes : (s : List ℕ) → Bytes s → AllBytes s
all_bytes [] f = tt
all_bytes (b ∷ s) f = (f 0, all_bytes s (λ i. f (suc i)))

pub bytes_all : (s : List ℕ) → AllBytes s → Bytes s
bytes_all [] f = λ i. omega arith
bytes_all (b ∷ s) f = go (bytes_all s f.1)
  where
    go : Bytes s → Bytes (b ∷ s)
    go g zero = f.0
    go g (suc i) = g i

bytes_behind : (xs ys : List ℕ) → AllBytes (xs ++ ys) → AllBytes ys
bytes_behind [] ys f = f
bytes_behind (x ∷ xs) ys f = bytes_behind xs ys f.1

-- ## What is written for a byte is one

between_true : (lo hi b : ℕ) → pick (leb lo b) (leb b hi) false ≡ true → (lo ≤ b) × (b ≤ hi)
between_true lo hi b e = go (leb lo b) refl
  where
    go : (t : Bool) → leb lo b ≡ t → (lo ≤ b) × (b ≤ hi)
    go true q = (leb-true lo b q, leb-true b hi (rw q at e))
    go false q = let z : false ≡ true = rw q at e in no_way (cc)

hex_small : (d u : ℕ) → hex_digit d ≡ some u → u ≤ 15
hex_small d u e = go (between "0" "9" d) (between "A" "F" d) (between "a" "f" d) refl refl refl
  where
    go : (x y z : Bool) → between "0" "9" d ≡ x → between "A" "F" d ≡ y → between "a" "f" d ≡ z → u ≤ 15
    go true y z p q r =
        let k = between_true 48 57 d p in let w : some (d - 48) ≡ some u = rw p at e in let v : d - 48 ≡ u = cc in omega arith
    go false true z p q r =
        let k = between_true 65 70 d q in let w : some (d - 65 + 10) ≡ some u = rw (p, q) at e in let v : d - 65 + 10 ≡ u = cc in omega arith
    go false false true p q r =
        let k = between_true 97 102 d r in let w : some (d - 97 + 10) ≡ some u = rw (p, q, r) at e in let v : d - 97 + 10 ≡ u = cc in omega arith
    go false false false p q r = let w : none ≡ some u = rw (p, q, r) at e in no_way (cc)

escape_small : (b c : ℕ) → b ≤ 255 → escape b ≡ some c → c ≤ 255
escape_small b c h e = go (eqb b 110) (eqb b 114) (eqb b 116) (one_of "\\'\"[]-^" b) refl refl refl refl
  where
    go : (x y z w : Bool) → eqb b 110 ≡ x → eqb b 114 ≡ y → eqb b 116 ≡ z → one_of "\\'\"[]-^" b ≡ w → c ≤ 255
    go true y z w p q r s = let k : some 10 ≡ some c = rw p at e in let v : 10 ≡ c = cc in omega arith
    go false true z w p q r s = let k : some 13 ≡ some c = rw (p, q) at e in let v : 13 ≡ c = cc in omega arith
    go false false true w p q r s = let k : some 9 ≡ some c = rw (p, q, r) at e in let v : 9 ≡ c = cc in omega arith
    go false false false true p q r s = let k : some b ≡ some c = rw (p, q, r, s) at e in let v : b ≡ c = cc in omega arith
    go false false false false p q r s = let k : none ≡ some c = rw (p, q, r, s) at e in no_way (cc)

char_byte : {stop c : ℕ} {s r : List ℕ} → Char stop c s r → AllBytes s → (c ≤ 255) × AllBytes r
char_byte (Lexical.itself n m e) f = f
char_byte (escaped {e = e} {b = b} x) f = (escape_small e b f.1.0 x, f.1.1)
char_byte (hex {d = d} {e = e} {u = u} {v = v} x y) f = (omega (arith, hex_small d u x, hex_small e v y), f.1.1.1.1)

chars_bytes : {stop : ℕ} {x s r : List ℕ} → Chars stop x s r → AllBytes s → AllBytes x × AllBytes r
chars_bytes done f = (tt, f.1)
chars_bytes (char C D) f = let h = char_byte C f in let k = chars_bytes D h.1 in ((h.0, k.0), k.1)

parts_bytes : (T C N : ℕ) {ps : List Part} {s r : List ℕ} → Parts ps s r → AllBytes s → AllParts T C N ps × AllBytes r
parts_bytes T C N parts_end f = (tt, f.1)
parts_bytes T C N (single D n E) f =
    let h = char_byte D f in let k = parts_bytes T C N E h.1 in (((omega arith, h.0), k.0), k.1)
parts_bytes T C N (range D E l F) f =
    let h = char_byte D f in let i = char_byte E h.1.1 in let k = parts_bytes T C N F i.1 in (((l, i.0), k.0), k.1)

-- ## What stands behind a part of a text is bytes too

line_bytes : {s r : List ℕ} → Line s r → AllBytes s → AllBytes r
line_bytes over f = tt
line_bytes ends f = f.1
line_bytes (goes n l) f = line_bytes l f.1

block_bytes : {s r : List ℕ} → Block s r → AllBytes s → AllBytes r
block_bytes shuts f = f.1.1
block_bytes (starred n k) f = block_bytes k f.1
block_bytes (goes_on n k) f = block_bytes k f.1

gap_bytes : {s r : List ℕ} → Gap s r → AllBytes s → AllBytes r
gap_bytes (nothing d) f = f
gap_bytes (white e g) f = gap_bytes g f.1
gap_bytes (line l g) f = gap_bytes g (line_bytes l f.1.1)
gap_bytes (comment l g) f = gap_bytes g (block_bytes l f.1.1)

named_bytes : {n : Name} {s r : List ℕ} → Named n s r → AllBytes s → AllBytes r
named_bytes (Lexical.name {n = n} {r = r} e N E) f = bytes_behind n r f.1

then_named : {n : Name} {s r : List ℕ} → Then (Named n) s r → AllBytes s → AllBytes r
then_named (behind g N) f = named_bytes N (gap_bytes g f)

then_sign : {c : ℕ} {s r : List ℕ} → Then (Sign c) s r → AllBytes s → AllBytes r
then_sign (behind g Lexical.sign) f = (gap_bytes g f).1

then_truth : {w : Bool} {s r : List ℕ} → Then (Truth w) s r → AllBytes s → AllBytes r
then_truth (behind g negated) f = (gap_bytes g f).1
then_truth (behind g (plain n)) f = gap_bytes g f
then_truth (behind g plain_end) f = gap_bytes g f

-- ## Tokens and trees

module _ (T C N : ℕ) where
  abbrev pub LeafRead : Leaf → Type 0
  LeafRead any = Unit
  LeafRead (quoted s) = AllBytes s
  LeafRead (class p ps) = PartFits T C N p × AllParts T C N ps
  LeafRead (call n) = Unit
  LeafRead (query q t) = Unit
  LeafRead (if c w) = Unit

  abbrev TokensRead : List Token → Type 0
  TokensRead [] = Unit
  TokensRead (leaf' l ∷ ts) = LeafRead l × TokensRead ts
  TokensRead (head n ∷ ts) = TokensRead ts
  TokensRead (opens o ∷ ts) = TokensRead ts
  TokensRead (closes ∷ ts) = TokensRead ts
  TokensRead (left ∷ ts) = TokensRead ts
  TokensRead (right ∷ ts) = TokensRead ts
  TokensRead (slash ∷ ts) = TokensRead ts
  TokensRead (before p ∷ ts) = TokensRead ts
  TokensRead (after s ∷ ts) = TokensRead ts
  TokensRead (bad ∷ ts) = TokensRead ts

  token_bytes : {t : Token} {s r : List ℕ} (ts : List Token) → Spelled t s r → AllBytes s → (AllBytes r → TokensRead ts) → TokensRead (t ∷ ts)
  token_bytes ts (a_head M S) f k = k (then_sign S (named_bytes M f))
  token_bytes ts (a_call M g) f k = (tt, k (named_bytes M f))
  token_bytes ts a_dot f k = (tt, k f.1)
  token_bytes ts (a_text e D) f k = let h = chars_bytes D f.1 in (h.0, k h.1)
  token_bytes ts (a_class n D) f k = let h = parts_bytes T C N D f.1 in (h.0, k h.1)
  token_bytes ts (a_query a G M S) f k = (tt, k (then_sign S (then_named M (then_named G f.1))))
  token_bytes ts (an_if G W M S) f k = (tt, k (then_sign S (then_named M (then_truth W (then_named G f.1)))))
  token_bytes ts (an_opener o G M) f k = k (then_named M (then_named G f.1))
  token_bytes ts (an_on G W M) f k = k (then_named M (then_truth W (then_named G f.1)))
  token_bytes ts a_greater f k = k f.1
  token_bytes ts a_left f k = k f.1
  token_bytes ts a_right f k = k f.1
  token_bytes ts a_slash f k = k f.1
  token_bytes ts an_and f k = k f.1
  token_bytes ts a_not f k = k f.1
  token_bytes ts an_option f k = k f.1
  token_bytes ts a_star f k = k f.1
  token_bytes ts a_plus f k = k f.1

  tokens_bytes : {s : List ℕ} {ls : List Lexeme} → Lexes s ls → AllBytes s → TokensRead (bare ls)
  tokens_bytes (finish g) f = tt
  tokens_bytes (Lexical.token {ls = ls} g S L) f = token_bytes (bare ls) S (gap_bytes g f) (λ h. tokens_bytes L h)

  abbrev pub TreeRead : Tree → Type 0
  TreeRead (leaf l) = LeafRead l
  TreeRead (prefix p a) = TreeRead a
  TreeRead (suffix s a) = TreeRead a
  TreeRead (binary b x y) = TreeRead x × TreeRead y
  TreeRead (within o a) = TreeRead a

  split_read : (xs ys : List Token) → TokensRead (xs ++ ys) → TokensRead xs × TokensRead ys
  split_read [] ys f = (tt, f)
  split_read (leaf' l ∷ xs) ys f = let h = split_read xs ys f.1 in ((f.0, h.0), h.1)
  split_read (head n ∷ xs) ys f = split_read xs ys f
  split_read (opens o ∷ xs) ys f = split_read xs ys f
  split_read (closes ∷ xs) ys f = split_read xs ys f
  split_read (left ∷ xs) ys f = split_read xs ys f
  split_read (right ∷ xs) ys f = split_read xs ys f
  split_read (slash ∷ xs) ys f = split_read xs ys f
  split_read (before p ∷ xs) ys f = split_read xs ys f
  split_read (after s ∷ xs) ys f = split_read xs ys f
  split_read (bad ∷ xs) ys f = split_read xs ys f

  tree_read : {ℓ : Level} {ts : List Token} {a : Tree} → Reads ℓ ts a → TokensRead ts → TreeRead a
  tree_read (alternatives {ts = ts} {us = us} D E) f = let h = split_read ts (slash ∷ us) f in (tree_read D h.0, tree_read E h.1)
  tree_read (one_alternative D) f = tree_read D f
  tree_read (items {ts = ts} {us = us} D E) f = let h = split_read ts us f in (tree_read D h.0, tree_read E h.1)
  tree_read (one_item D) f = tree_read D f
  tree_read (prefixed D) f = tree_read D f
  tree_read (no_prefix D) f = tree_read D f
  tree_read (suffixed {s = s} {ts = ts} D) f = tree_read D (split_read ts (after s ∷ []) f).0
  tree_read (no_suffix D) f = tree_read D f
  tree_read itself f = f.0
  tree_read (brackets {ts = ts} D) f = tree_read D (split_read ts (right ∷ []) f).0
  tree_read (operator {ts = ts} D) f = tree_read D (split_read ts (closes ∷ []) f).0

  abbrev pub AllRead : List Production → Type 0
  AllRead [] = Unit
  AllRead (p ∷ ps) = TreeRead p.body × AllRead ps

  all_read : {ts : List Token} {ps : List Production} → Productions ts ps → TokensRead ts → AllRead ps
  all_read (last D) f = (tree_read D f, tt)
  all_read (more {ts = ts} {us = us} D P) f = let h = split_read ts us f in (tree_read D h.0, all_read P h.1)

  -- A text of bytes reads as productions of bytes.
  pub read_bytes : (text : List ℕ) (ps : List Production) → Bytes text → ReadsAs text ps → AllRead ps
  read_bytes text ps b r = all_read r.derives (tokens_bytes r.lexes (all_bytes text b))
