-- A symbol is told by its number and by what it holds, and a tree by its symbols: so two trees are the same tree or not.
use Rattle.std.specs.Prelude.{ℕ, ◌≡◌, refl, Bool, true, false, List, [], ◌∷◌, eqb}
use Rattle.std.proofs.Common.{ap, sym, ◌∙◌, eq-eqb, eqb-true}
use Rattle.std.proofs.Math.Logic.{ite}
use Rattle.format.specs.Reading.{pick}
use Rattle.notation.specs.Tree.{Part, match, is, isa, exists, Leaf, any, quoted, class, call, query, if, and, not, option, star, plus, sequence, choice, def, block, local, on, Tree, Production}
use Rattle.notation.specs.Stream.{Symbol, named, stands, enters, leaves, front, back, joins, post, ended, ◌▸▸◌}
use Rattle.notation.specs.Reader.{grow}
use Rattle.notation.specs.ReaderLaws.{grow_post}
use Rattle.notation.specs.Lexer.{same}
use Rattle.notation.specs.LexicalText.{no_way}
use Rattle.notation.specs.LexicalToken.{same_true}
use Rattle.notation.specs.Symbols.{ends, kind, contents, same_symbol, same_symbols}

-- ## A symbol is told by its kind and its contents

pairs : List ℕ → List Part
pairs [] = []
pairs (a ∷ []) = []
pairs (a ∷ b ∷ s) = record { lo = a; hi = b } ∷ pairs s

pairs_ends : (ps : List Part) → pairs (ends ps) ≡ ps
unfolding pairs
pairs_ends [] = refl
pairs_ends (p ∷ ps) = ap (λ ps. p ∷ ps) (pairs_ends ps)

class_of : List Part → Leaf
class_of [] = any
class_of (p ∷ ps) = class p ps

with_truth : (List ℕ → Bool → Symbol) → List ℕ → Symbol
with_truth f [] = leaves
with_truth f (b ∷ s) = f s (eqb b 1)

symbol_of : ℕ → List ℕ → Symbol
symbol_of k x =
    pick (eqb k 0) (named x)
    (pick (eqb k 1) (stands any)
    (pick (eqb k 2) (stands (quoted x))
    (pick (eqb k 3) (stands (class_of (pairs x)))
    (pick (eqb k 4) (stands (call x))
    (pick (eqb k 5) (stands (query match x))
    (pick (eqb k 6) (stands (query is x))
    (pick (eqb k 7) (stands (query isa x))
    (pick (eqb k 8) (stands (query exists x))
    (pick (eqb k 9) (with_truth (λ c w. stands (if c w)) x)
    (pick (eqb k 10) (enters (def x))
    (pick (eqb k 11) (enters (block x))
    (pick (eqb k 12) (enters (local x))
    (pick (eqb k 13) (with_truth (λ c w. enters (on c w)) x)
    (pick (eqb k 14) leaves
    (pick (eqb k 15) (front and)
    (pick (eqb k 16) (front not)
    (pick (eqb k 17) (back option) (pick (eqb k 18) (back star) (pick (eqb k 19) (back plus) (pick (eqb k 20) (joins sequence) (joins choice)))))))))))))))))))))

told : (s : Symbol) → symbol_of (kind s) (contents s) ≡ s
unfolding symbol_of with_truth class_of pairs
told (named n) = refl
told (stands any) = refl
told (stands (quoted s)) = refl
told (stands (class p ps)) = ap (λ ps. stands (class p ps)) (pairs_ends ps)
told (stands (call n)) = refl
told (stands (query match t)) = refl
told (stands (query is t)) = refl
told (stands (query isa t)) = refl
told (stands (query exists t)) = refl
told (stands (if c true)) = refl
told (stands (if c false)) = refl
told (enters (def t)) = refl
told (enters (block t)) = refl
told (enters (local t)) = refl
told (enters (on c true)) = refl
told (enters (on c false)) = refl
told leaves = refl
told (front and) = refl
told (front not) = refl
told (back option) = refl
told (back star) = refl
told (back plus) = refl
told (joins sequence) = refl
told (joins choice) = refl

-- ## Symbols, and trees

pub same_refl : (x : List ℕ) → same x x ≡ true
unfolding same
same_refl [] = refl
same_refl (x ∷ xs) = rw (eq-eqb x x refl) (same_refl xs)

same_symbol_lem : (s t : Symbol) → same_symbol s t ≡ true → s ≡ t
same_symbol_lem s t e = go (eqb (kind s) (kind t)) refl
  where
    go : (b : Bool) → eqb (kind s) (kind t) ≡ b → s ≡ t
    go true k =
        let x = eqb-true (kind s) (kind t) k in
        let y = same_true (contents s) (contents t) (rw k at e) in
        sym (told s) ∙ ap (λ j. symbol_of j (contents s)) x ∙ ap (λ c. symbol_of (kind t) c) y ∙ told t
    go false k = let z : false ≡ true = rw k at e in no_way (cc)

same_symbols_lem : (ss ts : List Symbol) → same_symbols ss ts ≡ true → ss ≡ ts
unfolding same_symbols
same_symbols_lem [] [] e = refl
same_symbols_lem [] (t ∷ ts) e = no_way (cc)
same_symbols_lem (s ∷ ss) [] e = no_way (cc)
same_symbols_lem (s ∷ ss) (t ∷ ts) e = go (same_symbol s t) refl (λ h. same_symbols_lem ss ts h)
  where
    go : (b : Bool) → same_symbol s t ≡ b → (same_symbols ss ts ≡ true → ss ≡ ts) → s ∷ ss ≡ t ∷ ts
    go true k f = let x = same_symbol_lem s t k in let y = f (rw k at e) in cc
    go false k f = let z : false ≡ true = rw k at e in no_way (cc)

symbols_refl : (ss : List Symbol) → same_symbols ss ss ≡ true
unfolding same_symbols
symbols_refl [] = refl
symbols_refl (s ∷ ss) = rw (eq-eqb (kind s) (kind s) refl, same_refl (contents s)) (symbols_refl ss)

body_of : List Production → Tree → Tree
body_of [] a = a
body_of (p ∷ ps) a = p.body

-- An expression's symbols tell it.
post_tells : (a b : Tree) → post a ≡ post b → a ≡ b
unfolding grow body_of
post_tells a b e =
    ap (λ ps. body_of ps a)
    (sym (grow_post a ended [] [] []) ∙ ap (λ ss. grow (ss ▸▸ ended) [] [] []) e ∙ grow_post b ended [] [] [])

module _ (a b : Tree) where
  pub same_by : same_symbols (post a) (post b) ≡ true → a ≡ b
  same_by e = post_tells a b (same_symbols_lem (post a) (post b) e)

  pub other_by : same_symbols (post a) (post b) ≡ false → a ≡ b → ⊥
  other_by e q = let z : true ≡ false = sym (symbols_refl (post b)) ∙ (rw q at e) in no_way (cc)

  abbrev pub told_by : (t : Bool) → same_symbols (post a) (post b) ≡ t → Dec (a ≡ b)
  told_by true e = yes (same_by e)
  told_by false e = no (other_by e)

  -- TWO TREES ARE THE SAME TREE OR NOT, by their symbols.
  abbrev pub same_tree : Dec (a ≡ b)
  same_tree = told_by (same_symbols (post a) (post b)) refl

  pub by_symbols : ite same_tree true false ≡ same_symbols (post a) (post b)
  by_symbols = go (same_symbols (post a) (post b)) refl
    where
      go : (t : Bool) (e : same_symbols (post a) (post b) ≡ t) → ite (told_by t e) true false ≡ t
      go true e = refl
      go false e = refl
