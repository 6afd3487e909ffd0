-- The pass finds the fault, and what each of its steps asks of a text's tokens.
use Prim.Native.Nat.{ℕ, zero, suc, ◌+◌, ◌≤◌, ◌<◌}
use mathlib.Core.Path.{◌≡◌, refl, ap, ap₂, sym, ◌∙◌, subst}
use mathlib.Core.Bool.{Bool, true, false}
use mathlib.Core.List.{List, [], ◌∷◌, ◌++◌, append_assoc}
use mathlib.Core.Option.{some, none}
use native.Mathlib.Omega.{arith}
use lib.Dec.{eqb}
use lib.ListN.{length, get_or, drop, length-append, drop_of_length-le, get_or-append}
use lib.Seq.{drop-cons, drop-drop}
use borrow.Author.Tests.{eqb-true, eqb-false}
use Rattle.notation.specs.Tree.{def, block, local, on, Tree, leaf, prefix, suffix, binary, within, Production}
use Rattle.notation.specs.LexicalText.{no_way}
use Rattle.notation.specs.Naming.{per_operator, Definition, definition_in, definitions, alike}
use Rattle.notation.specs.AlikeLaws.{alike_same}
use Rattle.notation.specs.Compile.{place}
use Rattle.notation.specs.Stream.{want, stream}
use Rattle.notation.specs.Token.{Token}
use Rattle.notation.specs.Notation.{Productions}
use Rattle.notation.specs.Uses.{defs_in}
use Rattle.notation.specs.UsesLaws.{defs_are}
use Rattle.notation.specs.OnePattern.{no_definition, first_at, matches, failing, fault}
use Rattle.notation.specs.OnePatternLaws.{Good, first_before, first_matches}
use Rattle.patterns.specs.Bodies.{bodies_in, no_body, same_streams, defs_on}
use Rattle.patterns.specs.Pass.{inside, pass, pass_from}
use Rattle.patterns.proofs.ListLaws.{front_left}
use Rattle.patterns.proofs.BodiesLaws.{Of, bodies_are, beside_length, beside_at, bodies_alike, defs_inside}

-- The definition at a place.
abbrev at : List Definition → ℕ → Definition
at ds i = get_or ds i no_definition

-- ## Definitions inside one follow it

-- Behind each stand those that are inside it.
abbrev pub Preorder : List Definition → Type 0
Preorder [] = Unit
Preorder (d ∷ ds) = ((more : List Definition) × (ds ≡ per_operator definition_in d.pattern ++ more)) × Preorder ds

preorder_of : (a : Tree) (ds : List Definition) → Preorder ds → Preorder (per_operator definition_in a ++ ds)
preorder_of (leaf l) ds h = h
preorder_of (prefix p a) ds h = preorder_of a ds h
preorder_of (suffix s a) ds h = preorder_of a ds h
preorder_of (binary b x y) ds h =
    rw (append_assoc (per_operator definition_in x) (per_operator definition_in y) ds)
    (preorder_of x (per_operator definition_in y ++ ds) (preorder_of y ds h))
preorder_of (within (def t) a) ds h = ((ds, refl), preorder_of a ds h)
preorder_of (within (block t) a) ds h = preorder_of a ds h
preorder_of (within (local t) a) ds h = preorder_of a ds h
preorder_of (within (on c w) a) ds h = preorder_of a ds h

pub preorder : (ps : List Production) → Preorder (definitions ps)
preorder [] = tt
preorder (p ∷ ps) = preorder_of p.body (definitions ps) (preorder ps)

-- The m-th of those inside is the m-th behind it.
inside_at :
    (ds : List Definition) → Preorder ds → (i m : ℕ) → i < length ds → m < inside (at ds i)
    → at ds (suc (i + m)) ≡ at (per_operator definition_in (at ds i).pattern) m
inside_at [] P i m h l = absurd (omega arith)
inside_at (d ∷ ds) P zero m h l =
    let z : 0 + m ≡ m = omega arith in
    let e = P.0.1 in
    rw (z, e) (get_or-append (per_operator definition_in d.pattern) P.0.0 no_definition m l)
inside_at (d ∷ ds) P (suc i) m h l = let z : suc i + m ≡ suc (i + m) = omega arith in rw z (inside_at ds P.1 i m (omega arith) l)

-- So those inside two that are alike are the same.
pub inside_same :
    (ds : List Definition) → Preorder ds → (i j m : ℕ) → i < length ds → j < length ds
    → (get_or ds j no_definition).pattern ≡ (get_or ds i no_definition).pattern → m < inside (get_or ds i no_definition)
    → get_or ds (suc (i + m)) no_definition ≡ get_or ds (suc (j + m)) no_definition
inside_same ds P i j m h k e l =
    inside_at ds P i m h l ∙ ap (λ a. at (per_operator definition_in a) m) (sym e)
    ∙ sym (inside_at ds P j m k (subst (λ a. m < length (per_operator definition_in a)) (sym e) l))

-- ## So those inside one that is alike match, as those inside the first do

module _ (ds : List Definition) (P : Preorder ds) where
  -- If all before it match, and it is alike to one before it, then all inside it match.
  inside_good :
      (i j m : ℕ) → i < length ds → j < i → (at ds j).pattern ≡ (at ds i).pattern → m ≤ inside (at ds i) → Good ds (suc i) → Good ds (suc (i + m))
  inside_good i j zero h l e k g = let z : i + 0 ≡ i = omega arith in rw z g
  inside_good i j (suc m) h l e k g = λ n b. go n b (eqb n (suc (i + m))) refl (inside_good i j m h l e (omega arith) g)
    where
      go : (n : ℕ) → n < suc (i + suc m) → (c : Bool) → eqb n (suc (i + m)) ≡ c → Good ds (suc (i + m)) → matches ds (at ds n) ≡ true
      go n b false q r = let x = eqb-false n (suc (i + m)) q in r n (omega arith)
      go n b true q r =
          rw (eqb-true n (suc (i + m)) q, inside_same ds P i j m h (omega arith) e (omega arith)) (r (suc (j + m)) (omega arith))

  good_on : (i : ℕ) → Good ds i → matches ds (at ds i) ≡ true → Good ds (suc i)
  good_on i g m n l = go (eqb n i) refl
    where
      go : (b : Bool) → eqb n i ≡ b → matches ds (at ds n) ≡ true
      go true q = rw (eqb-true n i q) m
      go false q = let x = eqb-false n i q in g n (omega arith)

  -- One step of the pass, by what comes behind it.
  one_step :
      (i : ℕ) (rest : List Definition) → i < length ds → Good ds i
      → ((n : ℕ) → Good ds (suc i + n) → pass ds rest (suc i) n ≡ failing (matches ds) rest (suc i))
      → pass ds (at ds i ∷ rest) i 0 ≡ failing (matches ds) (at ds i ∷ rest) i
  unfolding pass failing
  one_step i rest l g r = go (eqb j i) (matches ds (at ds i)) refl refl
    where
      j : ℕ
      j = first_at ds (at ds i).table

      go : (b c : Bool) → eqb j i ≡ b → matches ds (at ds i) ≡ c → pass ds (at ds i ∷ rest) i 0 ≡ failing (matches ds) (at ds i ∷ rest) i
      go true c q m =
          let k = first_matches ds i (eqb-true j i q) in
          let z : suc i + 0 ≡ suc i = omega arith in
          rw (q, k) (r 0 (rw z (good_on i g k)))
      go false true q m =
          let n = eqb-false j i q in
          let b : j < i = omega (arith, first_before ds i l, n) in
          let e = (alike_same (at ds j).pattern (at ds i).pattern).0 m in
          let z : suc i + inside (at ds i) ≡ suc (i + inside (at ds i)) = omega arith in
          rw (q, m) (r (inside (at ds i)) (rw z (inside_good i j (inside (at ds i)) l b e (omega arith) (good_on i g m))))
      go false false q m = rw (q, m)

  passes : (rest : List Definition) (i n : ℕ) → drop i ds ≡ rest → Good ds (i + n) → pass ds rest i n ≡ failing (matches ds) rest i
  unfolding pass failing
  passes [] i n e g = refl
  passes (d ∷ rest) i (suc n) e g =
      let l = front_left no_definition ds i e in
      let m : matches ds d ≡ true = subst (λ d. matches ds d ≡ true) l.1 (g i (omega arith)) in
      let z : i + suc n ≡ suc i + n = omega arith in
      rw m (passes rest (suc i) n l.2 (rw z at g))
  passes (d ∷ rest) i zero e g =
      let l = front_left no_definition ds i e in
      let z : i + 0 ≡ i = omega arith in
      subst (λ d. pass ds (d ∷ rest) i 0 ≡ failing (matches ds) (d ∷ rest) i) l.1
      (one_step i rest l.0 (rw z at g) (λ n. passes rest (suc i) n l.2))

  -- THE PASS FINDS THE FAULT.
  pub pass_finds : pass_from ds 0 ≡ fault ds
  pass_finds = passes ds 0 0 refl (λ i h. absurd (omega arith))

-- ## The pass, step by step

-- What it passes over it leaves behind at once.
pass_over : (ds rest : List Definition) (i n : ℕ) → pass ds rest i n ≡ pass ds (drop n rest) (i + n) 0
unfolding pass
pass_over ds [] i zero = refl
pass_over ds [] i (suc n) = refl
pass_over ds (d ∷ rest) i zero = let z : i + 0 ≡ i = omega arith in rw z
pass_over ds (d ∷ rest) i (suc n) = let z : i + suc n ≡ suc i + n = omega arith in rw z (pass_over ds rest (suc i) n)

module _ (ds : List Definition) (i : ℕ) where
  pub pass_end : length ds ≤ i → pass_from ds i ≡ none
  unfolding pass
  pass_end h = rw (drop_of_length-le ds {i = i} h)

  module _ (h : i < length ds) where
    pub pass_first : eqb (first_at ds (get_or ds i no_definition).table) i ≡ true → pass_from ds i ≡ pass_from ds (suc i)
    unfolding pass
    pass_first e = rw (drop-cons ds i no_definition h, e)

    pub pass_alike :
        eqb (first_at ds (get_or ds i no_definition).table) i ≡ false → matches ds (get_or ds i no_definition) ≡ true
        → pass_from ds i ≡ pass_from ds (suc i + inside (get_or ds i no_definition))
    unfolding pass
    pass_alike e m =
        rw (drop-cons ds i no_definition h, e, m)
        (pass_over ds (drop (suc i) ds) (suc i) (inside (at ds i))
        ∙ ap (λ l. pass ds l (suc i + inside (at ds i)) 0) (drop-drop (inside (at ds i)) (suc i) ds))

    pub pass_fault : matches ds (get_or ds i no_definition) ≡ false → pass_from ds i ≡ some i
    unfolding pass
    pass_fault m = go (eqb j i) refl
      where
        j : ℕ
        j = first_at ds (at ds i).table

        go : (b : Bool) → eqb j i ≡ b → pass_from ds i ≡ some i
        go true q = let z : true ≡ false = sym (first_matches ds i (eqb-true j i q)) ∙ m in no_way (cc)
        go false q = rw (drop-cons ds i no_definition h, q, m)

-- What is passed over is in the list.
pub inside_fits : (ds : List Definition) → Preorder ds → (i : ℕ) → i < length ds → i + inside (get_or ds i no_definition) < length ds
inside_fits [] P i h = absurd (omega arith)
inside_fits (d ∷ ds) P zero h =
    let n = ap length P.0.1 ∙ length-append (per_operator definition_in d.pattern) P.0.0 in omega arith
inside_fits (d ∷ ds) P (suc i) h = omega (arith, inside_fits ds P.1 i (omega arith))

-- ## By the tokens

-- What a step asks of a definition, by its body: the place of the first, whether two walks put out the same, and how many defs begin on the way.
module _ {ts : List Token} {ps : List Production} (P : Productions ts ps) (i : ℕ) (h : i < length (bodies_in ts)) where
  abbrev first : ℕ
  first = place (get_or (bodies_in ts) i no_body).table (defs_in ts)

  fits : i < length (definitions ps)
  fits = rw (beside_length (bodies_are P)) at h

  this : Of (get_or (bodies_in ts) i no_body) (at (definitions ps) i)
  this = beside_at (bodies_are P) i fits

  pub first_is : first_at (definitions ps) (get_or (definitions ps) i no_definition).table ≡ first
  first_is = ap₂ place (sym this.of_table_lem) (sym (defs_are P))

  -- Against another.
  pub alike_is :
      (j : ℕ) → j < length (bodies_in ts)
      → alike (get_or (definitions ps) j no_definition).pattern (get_or (definitions ps) i no_definition).pattern
      ≡ same_streams (stream (get_or (bodies_in ts) j no_body).ahead want []) (stream (get_or (bodies_in ts) i no_body).ahead want [])
  alike_is j l = sym (bodies_alike (beside_at (bodies_are P) j (rw (beside_length (bodies_are P)) at l)) this)

  pub inside_is : inside (get_or (definitions ps) i no_definition) ≡ defs_on (stream (get_or (bodies_in ts) i no_body).ahead want [])
  inside_is = rw this.walked (sym (defs_inside (at (definitions ps) i).pattern))
