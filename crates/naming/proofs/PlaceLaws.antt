-- Numbers kept by the places of names.
use Prim.Native.Nat.{ℕ, suc, ◌≤◌}
use mathlib.Core.Path.{◌≡◌, refl, ap, sym, subst, ◌∙◌}
use mathlib.Core.Bool.{Bool, true, false}
use mathlib.Core.List.{List, [], ◌∷◌, map}
use native.Mathlib.Omega.{arith}
use lib.ListN.{length, get_or, set, length-set, get_or-eq_default}
use lib.Seq.{get_or-set_same, get_or-set_other}
use Rattle.notation.specs.Tree.{Name}
use Rattle.notation.specs.Lexer.{same}
use Rattle.notation.specs.LexicalText.{no_way}
use Rattle.notation.specs.LexicalToken.{same_true}
use Rattle.notation.specs.SymbolsLaws.{same_refl}
use Rattle.notation.specs.Naming.{member, distinct}
use Rattle.notation.specs.Compile.{place, Entry, entry}
use Rattle.index.specs.Listed.{Stands}

-- ## Where a name has its place

stands : (n : Name) (ns : List Name) → member n ns ≡ true → Stands n ns (place n ns)
unfolding member place
stands n [] e = no_way (cc)
stands n (m ∷ ms) e = go (same n m) refl (λ h. stands n ms h)
  where
    go : (b : Bool) → same n m ≡ b → (member n ms ≡ true → Stands n ms (place n ms)) → Stands n (m ∷ ms) (place n (m ∷ ms))
    go true q f = rw q (record { inside = omega arith; named = sym (same_true n m q) })
    go false q f = let s = f (rw q at e) in rw q (record { inside = omega (arith, s.inside); named = s.named })

behind : (n : Name) (ns : List Name) → member n ns ≡ false → place n ns ≡ length ns
unfolding member place
behind n [] e = refl
behind n (m ∷ ms) e = go (same n m) refl (λ h. behind n ms h)
  where
    go : (b : Bool) → same n m ≡ b → (member n ms ≡ false → place n ms ≡ length ms) → place n (m ∷ ms) ≡ suc (length ms)
    go true q f = let z : true ≡ false = rw q at e in no_way (cc)
    go false q f = rw q (ap suc (f (rw q at e)))

apart : (n m : Name) (ns : List Name) → member n ns ≡ true → member m ns ≡ true → same n m ≡ false → place n ns ≡ place m ns → ⊥
apart n m ns a b d e =
    let k : n ≡ m = sym (stands n ns a).named ∙ ap (λ i. get_or ns i []) e ∙ (stands m ns b).named in
    let z : true ≡ false = sym (same_refl m) ∙ subst (λ x. same x m ≡ false) k d in
    let w : ◌≡◌ {A = ℕ} 0 1 = cc in
    omega arith

-- ## Numbers put at the places of names, one after the other

abbrev named : List Entry → List Name
named = map (λ e. e.name)

none_said : (n : Name) (es : List Entry) → member n (named es) ≡ false → entry n es ≡ 0
unfolding member entry
none_said n [] h = refl
none_said n (e ∷ es) h = go (same n e.name) refl (λ k. none_said n es k)
  where
    go : (b : Bool) → same n e.name ≡ b → (member n (named es) ≡ false → entry n es ≡ 0) → entry n (e ∷ es) ≡ 0
    go true q f = let z : true ≡ false = rw q at h in no_way (cc)
    go false q f = rw q (f (rw q at h))

module _ (ns : List Name) where
  unfoldable pub filled : List ℕ → List Entry → List ℕ
  filled numbers [] = numbers
  filled numbers (e ∷ es) = filled (set numbers (place e.name ns) e.number) es

  pub filled_length : (numbers : List ℕ) (es : List Entry) → length (filled numbers es) ≡ length numbers
  unfolding filled
  filled_length numbers [] = refl
  filled_length numbers (e ∷ es) = filled_length (set numbers (place e.name ns) e.number) es ∙ length-set numbers (place e.name ns) e.number

  -- Every name is one of these.
  abbrev pub Among : List Entry → Type 0
  Among [] = Unit
  Among (e ∷ es) = (member e.name ns ≡ true) × Among es

  -- The number of a name that no entry has stays.
  filled_other :
      (numbers : List ℕ) (es : List Entry) → Among es → (n : Name) → member n ns ≡ true → member n (named es) ≡ false
      → get_or (filled numbers es) (place n ns) 0 ≡ get_or numbers (place n ns) 0
  unfolding filled member
  filled_other numbers [] A n m h = refl
  filled_other numbers (e ∷ es) A n m h = go (same n e.name) refl (λ k. filled_other next es A.1 n m k)
    where
      next : List ℕ
      next = set numbers (place e.name ns) e.number

      go : (b : Bool) → same n e.name ≡ b → (member n (named es) ≡ false → get_or (filled next es) (place n ns) 0 ≡ get_or next (place n ns) 0)
          → get_or (filled next es) (place n ns) 0 ≡ get_or numbers (place n ns) 0
      go true q f = let z : true ≡ false = rw q at h in no_way (cc)
      go false q f = f (rw q at h) ∙ get_or-set_other numbers (place e.name ns) (place n ns) e.number 0 (apart n e.name ns m A.0 q)

  filled_one :
      (numbers : List ℕ) (es : List Entry) → Among es → distinct (named es) ≡ true → length numbers ≡ length ns → (n : Name) → member n (named es) ≡ true
      → get_or (filled numbers es) (place n ns) 0 ≡ entry n es
  unfolding filled member entry distinct
  filled_one numbers [] A d l n m = no_way (cc)
  filled_one numbers (e ∷ es) A d l n m =
      go (same n e.name) (member e.name (named es)) refl refl (λ k h. filled_one next es A.1 k (length-set numbers (place e.name ns) e.number ∙ l) n h)
    where
      next : List ℕ
      next = set numbers (place e.name ns) e.number

      go : (b c : Bool) → same n e.name ≡ b → member e.name (named es) ≡ c
          → (distinct (named es) ≡ true → member n (named es) ≡ true → get_or (filled next es) (place n ns) 0 ≡ entry n es)
          → get_or (filled next es) (place n ns) 0 ≡ entry n (e ∷ es)
      go b true q r f = let z : false ≡ true = rw r at d in no_way (cc)
      go true false q r f =
          let k = same_true n e.name q in
          let i = (stands e.name ns A.0).inside in
          rw (q, k)
          (filled_other next es A.1 e.name A.0 r ∙ get_or-set_same numbers (place e.name ns) e.number 0 (omega (arith, i, l)))
      go false false q r f = rw q (f (rw r at d) (rw q at m))

  -- WHAT IS FILLED IN for all these names is what the entries say.
  pub filled_all :
      (numbers : List ℕ) (es : List Entry) → Among es → distinct (named es) ≡ true → length numbers ≡ length ns
      → ((n : Name) → member n ns ≡ member n (named es)) → (n : Name) → get_or (filled numbers es) (place n ns) 0 ≡ entry n es
  filled_all numbers es A d l f n = go (member n (named es)) refl
    where
      go : (b : Bool) → member n (named es) ≡ b → get_or (filled numbers es) (place n ns) 0 ≡ entry n es
      go true q = filled_one numbers es A d l n q
      go false q =
          let k : length (filled numbers es) ≤ place n ns = omega (arith, filled_length numbers es, behind n ns (f n ∙ q), l) in
          get_or-eq_default (filled numbers es) 0 k ∙ sym (none_said n es q)
