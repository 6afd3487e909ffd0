-- Where productions end, counted over the lexemes: what a pass that weighs tokens comes to, one production after the other.
use Prim.Native.Nat.{ℕ, suc, ◌+◌, ◌-◌}
use mathlib.Core.Path.{◌≡◌, refl, ap, ◌∙◌}
use mathlib.Core.Bool.{true, false}
use mathlib.Core.List.{List, [], ◌∷◌, ◌++◌, append-nil}
use native.Mathlib.Omega.{arith}
use lib.Dec.{eqb}
use borrow.Author.Tests.{ne_eqb}
use Rattle.format.specs.Reading.{pick}
use Rattle.notation.specs.Tree.{Name, Tree, Production}
use Rattle.notation.specs.Token.{Token, head, Lexeme, bare}
use Rattle.notation.specs.Notation.{Level, Reads, Productions, last, more}
use Rattle.notation.specs.LexicalText.{no_way}
use Rattle.notation.specs.Compile.{count}
use Rattle.notation.specs.Counts.{weight_of, weight_in}
use Rattle.notation.specs.CountLaws.{weighs}
use Rattle.notation.specs.Uses.{per_token, heads_in, head_of}
use Rattle.notation.specs.UsesLaws.{no_heads}
use Rattle.notation.specs.Places.{is_head, only}

-- A production that has ended: what is kept of its head, and the nodes up to its end.
pub record Ended (A : Type 0) : Type 0 where
  pub head : A
  pub nodes : ℕ

-- What is open ends, if anything weighs.
abbrev pub ends : {A : Type 0} → A → (nodes weight : ℕ) → List (Ended A)
ends x nodes weight = pick (eqb weight 0) [] (record { head = x; nodes = nodes + (weight - 1) } ∷ [])

not_head : (t : Token) → head_of t ≡ [] → is_head t ≡ false
not_head t e = rw (e, is_head)

module _ {A : Type 0} (keep : Lexeme → A) where
  -- From the open production on: a head ends it and opens the next, and each other token adds its weight.
  unfoldable pub endings : A → (nodes weight : ℕ) → List Lexeme → List (Ended A)
  endings x nodes weight [] = ends x nodes weight
  endings x nodes weight (l ∷ ls) =
      pick (is_head l.token) (ends x nodes weight ++ endings (keep l) (nodes + (weight - 1)) 0 ls)
      (endings x nodes (weight + weight_of l.token) ls)

  -- Productions with their heads.
  unfoldable pub headed : (nodes : ℕ) → List Production → (heads : List Lexeme) → List (Ended A)
  headed nodes [] heads = []
  headed nodes (p ∷ ps) [] = []
  headed nodes (p ∷ ps) (h ∷ heads) =
      record { head = keep h; nodes = nodes + count p.body } ∷ headed (nodes + count p.body) ps heads

  -- ## The two are the same

  -- What lies behind tokens that have no head among them.
  record Behind (ts us : List Token) (ls : List Lexeme) : Type 0 where
    rest : List Lexeme
    is : bare rest ≡ us
    heads : only is_head ls ≡ only is_head rest
    on : (x : A) (nodes weight : ℕ) → endings x nodes weight ls ≡ endings x nodes (weight + weight_in ts) rest

  behind : (ts us : List Token) (ls : List Lexeme) → bare ls ≡ ts ++ us → heads_in ts ≡ [] → Behind ts us ls
  unfolding weight_in per_token endings only
  behind [] us ls e h = record {
    rest = ls;
    is = e;
    heads = refl;
    on = λ x k w. ap (λ w. endings x k w ls) (omega arith);
  }
  behind (t ∷ ts) us [] e h = no_way (cc)
  behind (t ∷ ts) us (l ∷ ls) e h = go (behind ts us ls (cc) none.1)
    where
      both : (xs ys : List Name) → xs ++ ys ≡ [] → (xs ≡ []) × (ys ≡ [])
      both [] ys e = (refl, e)
      both (x ∷ xs) ys e = no_way (cc)

      none : (head_of t ≡ []) × (heads_in ts ≡ [])
      none = both (head_of t) (heads_in ts) h

      first : l.token ≡ t
      first = cc

      other : is_head l.token ≡ false
      other = not_head l.token (ap head_of first ∙ none.0)

      go : Behind ts us ls → Behind (t ∷ ts) us (l ∷ ls)
      go B = record {
        rest = B.rest;
        is = B.is;
        heads = rw other B.heads;
        on = λ x k w.
            rw other (B.on x k (w + weight_of l.token) ∙ ap (λ v. endings x k v B.rest) (omega (arith, ap weight_of first)));
      }

  -- An expression's tokens, behind the production's head.
  body : {ℓ : Level} {ts : List Token} {a : Tree} → Reads ℓ ts a → (us : List Token) (ls : List Lexeme) → bare ls ≡ ts ++ us → Behind ts us ls
  body {ts = ts} D us ls e = behind ts us ls e (no_heads D)

  body_ends : {ℓ : Level} {ts : List Token} {a : Tree} → Reads ℓ ts a → (x : A) (k : ℕ) → ends x k (0 + weight_in ts) ≡ record { head = x; nodes = k + count a } ∷ []
  body_ends {ts = ts} {a = a} D x k =
      let e : 0 + weight_in ts ≡ suc (count a) = omega (arith, weighs D) in
      let f : suc (count a) - 1 ≡ count a = omega arith in
      rw (e, ne_eqb (suc (count a)) 0 (λ z. omega arith), f)

  pub endings_are :
      {ts : List Token} {ps : List Production} → Productions ts ps → (ls : List Lexeme) → bare ls ≡ ts → (x : A) (k w : ℕ)
      → endings x k w ls ≡ ends x k w ++ headed (k + (w - 1)) ps (only is_head ls)
  unfolding endings headed only
  endings_are (last {n = n} {ts = ts} {a = a} D) [] e x k w = no_way (cc)
  endings_are (last {n = n} {ts = ts} {a = a} D) (l ∷ ls) e x k w = go (body D [] ls (rw append-nil (cc)))
    where
      first : is_head l.token ≡ true
      first = let z : l.token ≡ head n = cc in ap is_head z

      nothing : (ls : List Lexeme) → bare ls ≡ [] → ls ≡ []
      nothing [] e = refl
      nothing (l ∷ ls) e = no_way (cc)

      go : Behind ts [] ls → endings x k w (l ∷ ls) ≡ ends x k w ++ headed (k + (w - 1)) (record { name = n; body = a } ∷ []) (only is_head (l ∷ ls))
      go B =
          let z = nothing B.rest B.is in
          rw first
          (ap (λ r. ends x k w ++ r) (B.on (keep l) (k + (w - 1)) 0 ∙ rw z (body_ends D (keep l) (k + (w - 1)))))
  endings_are (more {n = n} {ts = ts} {us = us} {a = a} {ps = ps} D P) [] e x k w = no_way (cc)
  endings_are (more {n = n} {ts = ts} {us = us} {a = a} {ps = ps} D P) (l ∷ ls) e x k w =
      go (body D us ls (cc)) (λ ls e x k w. endings_are P ls e x k w)
    where
      first : is_head l.token ≡ true
      first = let z : l.token ≡ head n = cc in ap is_head z

      go :
          Behind ts us ls
          → ((ls : List Lexeme) → bare ls ≡ us → (x : A) (k w : ℕ) → endings x k w ls ≡ ends x k w ++ headed (k + (w - 1)) ps (only is_head ls))
          → endings x k w (l ∷ ls) ≡ ends x k w ++ headed (k + (w - 1)) (record { name = n; body = a } ∷ ps) (only is_head (l ∷ ls))
      go B ih =
          let j = k + (w - 1) in
          let i = 0 + weight_in ts in
          let f : j + (i - 1) ≡ j + count a = omega (arith, weighs D) in
          rw first
          (ap (λ r. ends x k w ++ r)
          (B.on (keep l) j 0 ∙ ih B.rest B.is (keep l) j i
          ∙ rw (body_ends D (keep l) j, f, ← B.heads)))
