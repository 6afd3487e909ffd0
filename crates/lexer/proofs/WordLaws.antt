-- A name against the words, one after the other.
use Prim.Native.Nat.{ℕ, ◌+◌, ◌≤◌, ◌<◌}
use mathlib.Core.Path.{◌≡◌, refl}
use mathlib.Core.Bool.{Bool, true, false, ◌&&◌}
use mathlib.Core.List.{List, [], ◌∷◌}
use native.Mathlib.Numerals.{add-one}
use lib.Dec.{eqb}
use lib.ListN.{drop, length, get_or, drop_of_length-le}
use lib.Seq.{drop-cons}
use denote.Bor.{Bor}
use Rattle.std.specs.Prelude.{Option, Some, None}
use Rattle.std.specs.Cmp.Lexicographic.{pointwise}
use Rattle.format.specs.Reading.{pick}
use Rattle.notation.specs.Bytes.{bytes}
use Rattle.notation.specs.Lexer as N
use Rattle.notation.specs.Lexer.{same, word}
use Rattle.lexer.specs.declared.token.Leaf.TheVariants.{Match, Is, Isa, Exists}
use Rattle.lexer.specs.declared.token.Opener.TheVariants.{Def, Block, Local}
use Rattle.lexer.specs.declared.word.Word.{Word}
use Rattle.lexer.specs.declared.word.Word.TheVariants.{Asks, Ifs, Opens, Ons}
use Rattle.lexer.specs.Words.{Worded, is_match, is_is, is_isa, is_exists, is_if, is_def, is_block, is_local, is_on, is_unknown}

-- What the first of some words that a name is says.
abbrev pub lookup : List (Bor (List ℕ) × Word) → (name : List ℕ) → Option Word
lookup [] n = None
lookup (w ∷ ws) n = pick (same n w.0.now) (Some w.1) (lookup ws n)

-- The test of the code is that of the notation.
pub same_is : (s t : List ℕ) → pointwise eqb s t ≡ same s t
unfolding same
same_is [] [] = refl
same_is [] (y ∷ ys) = refl
same_is (x ∷ xs) [] = refl
same_is (x ∷ xs) (y ∷ ys) = go (eqb x y) (same_is xs ys)
  where
    go : (b : Bool) → pointwise eqb xs ys ≡ same xs ys → (b && pointwise eqb xs ys) ≡ pick b (same xs ys) false
    go true e = e
    go false e = refl

-- One test of both.
by_word : (b : Bool) {v w : N.Word} {k l : Option Word} → Worded v k → Worded w l → Worded (pick b v w) (pick b k l)
by_word true p q = p
by_word false p q = q

pub words : (n : List ℕ) → Worded (word n)
    (pick (same n (bytes "def")) (Some (Opens Def))
    (pick (same n (bytes "block")) (Some (Opens Block))
    (pick (same n (bytes "local")) (Some (Opens Local))
    (pick (same n (bytes "match")) (Some (Asks Match))
    (pick (same n (bytes "is")) (Some (Asks Is))
    (pick (same n (bytes "isa")) (Some (Asks Isa))
    (pick (same n (bytes "exists")) (Some (Asks Exists))
    (pick (same n (bytes "if")) (Some Ifs) (pick (same n (bytes "on")) (Some Ons) None)))))))))
unfolding word
words n =
    by_word _ is_def (by_word _ is_block (by_word _ is_local (by_word _ is_match (by_word _ is_is (by_word _ is_isa (by_word _ is_exists (by_word _ is_if (by_word _ is_on is_unknown))))))))

-- What the words from a place on say of a name is what is wanted.
pub record Left (ws : List (Bor (List ℕ) × Word)) (i : ℕ) (n : List ℕ) (w : N.Word) : Type 0 where
  pub says : Worded w (lookup (drop i ws) n)

pub all_left : {ws : List (Bor (List ℕ) × Word)} {n : List ℕ} {w : N.Word} → Worded w (lookup ws n) → Left ws 0 n w
all_left o = record { says = o }

pub none_left : {ws : List (Bor (List ℕ) × Word)} {i : ℕ} {n : List ℕ} {w : N.Word} → Left ws i n w → length ws ≤ i → Worded w None
none_left {ws} o h = rw (drop_of_length-le ws h) at o.says

module _ {ws : List (Bor (List ℕ) × Word)} {i : ℕ} {n : List ℕ} {w : N.Word} (o : Left ws i n w) (d : Bor (List ℕ) × Word) (h : i < length ws) where
  pub here_left : pointwise eqb n (get_or ws i d).0.now ≡ true → Worded w (Some (get_or ws i d).1)
  here_left e = let f = rw (same_is n (get_or ws i d).0.now) at e in rw (drop-cons ws i d h, f) at o.says

  pub on_left : pointwise eqb n (get_or ws i d).0.now ≡ false → Left ws (i + 1) n w
  on_left e = let f = rw (same_is n (get_or ws i d).0.now) at e in record { says = rw (add-one i) (rw (drop-cons ws i d h, f) at o.says) }
