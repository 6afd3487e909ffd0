-- Two rows, compared item by item.
use Rattle.std.proofs.Common.{◌≡◌, refl, sym, ap, ap₂, ◌∙◌, Bool, true, false, List, [], ◌∷◌, ◌++◌, map, eqb, ◌&&◌}
use Rattle.std.specs.Prelude.{Option, Some, None, MatchOption, IfSome}
use Rattle.std.specs.List.{AllZip}
use Rattle.format.specs.Reading.{pick}
use Rattle.notation.specs.Lexer.{same}
use Rattle.notation.specs.LexicalText.{no_way}
use Rattle.notation.specs.Tree as Tree
use Rattle.notation.specs.Symbols.{ends}
use Rattle.chars.specs.Meant.{from_to}
use Rattle.std.specs.Iterator.{YieldsFirstBy, YieldsThen, ComparesItemsByEq}

-- The item that a call gave, with what is left behind it.
abbrev last : {A B : Type 0} (v : A → B) → Option A → List B → List B
last v None rest = []
last v (Some x) rest = v x ∷ rest

gave : {S A B : Type 0} (v : A → B) (rest : S → List B) (xs : List A) (o : Option A) (s u : S)
    → YieldsThen (YieldsFirstBy v rest) s xs o u → rest s ≡ map v xs ++ last v o (rest u)
gave v rest [] None s u y = ap rest y.1 ∙ y.2.0
gave v rest [] (Some x) s u y = ap rest y.1 ∙ y.2
gave v rest (x ∷ xs) o s u y = y.1.1 ∙ ap (λ l. v x ∷ l) (gave v rest xs o y.1.0 u (y.0, y.1.2, y.2))

-- A comparison of lists, by one of their items: a list that ends before the other differs from it.
pub record Compares {A B : Type 0} (v : A → B) (eq : A → A → Bool) (alike : List B → List B → Bool) : Type 0 where
  pub none : alike [] [] ≡ true
  pub fewer : (y : B) (ys : List B) → alike [] (y ∷ ys) ≡ false
  pub more : (x : B) (xs : List B) → alike (x ∷ xs) [] ≡ false
  pub on : (x y : A) (xs ys : List B) → eq x y ≡ true → alike (v x ∷ xs) (v y ∷ ys) ≡ alike xs ys
  pub off : (x y : A) (xs ys : List B) → eq x y ≡ false → alike (v x ∷ xs) (v y ∷ ys) ≡ false

module _ {A B : Type 0} {v : A → B} {eq : A → A → Bool} {alike : List B → List B → Bool} (rules : Compares v eq alike) where
  fronts : (r : Bool) (xs ys : List A) (o p : Option A) (l m : List B) → AllZip (λ x y. eq x y ≡ true) xs ys
      → MatchOption o (MatchOption p (r ≡ true) (λ _. r ≡ false)) (λ x. (r ≡ false) × IfSome p (λ y. eq x y ≡ false))
      → r ≡ alike (map v xs ++ last v o l) (map v ys ++ last v p m)
  fronts r [] [] None None l m z e = e ∙ sym rules.none
  fronts r [] [] None (Some y) l m z e = e ∙ sym (rules.fewer (v y) m)
  fronts r [] [] (Some x) None l m z e = e.0 ∙ sym (rules.more (v x) l)
  fronts r [] [] (Some x) (Some y) l m z e = e.0 ∙ sym (rules.off x y l m e.1)
  fronts r [] (y ∷ ys) o p l m z e = absurd z
  fronts r (x ∷ xs) [] o p l m z e = absurd z
  fronts r (x ∷ xs) (y ∷ ys) o p l m z e = fronts r xs ys o p l m z.1 e ∙ sym (rules.on x y (map v xs ++ last v o l) (map v ys ++ last v p m) z.0)

  pub compared : {S : Type 0} {rest : S → List B} {s other : S} {r : Bool}
      → ComparesItemsByEq (YieldsFirstBy v rest) (λ x it. it ≡ x) (YieldsFirstBy v rest) s other eq r → r ≡ alike (rest s) (rest other)
  compared {rest = rest} {s} {other} {r} c =
      fronts r c.1 c.2 c.3 c.4 (rest c.5) (rest c.6) c.10 c.11
      ∙ sym (ap₂ alike (gave v rest c.1 c.3 s c.5 c.8) (sym (ap rest c.7) ∙ gave v rest c.2 c.4 c.0 c.6 c.9))

-- Bytes, and parts by their two bytes.
pub bytes_compare : Compares (λ b. b) eqb same
unfolding same
bytes_compare = record {
  none = refl;
  fewer = λ y ys. refl;
  more = λ x xs. refl;
  on = λ x y xs ys e. rw e;
  off = λ x y xs ys e. rw e;
}

abbrev same_parts : List Tree.Part → List Tree.Part → Bool
same_parts ps qs = same (ends ps) (ends qs)

both : (a b z : Bool) → (a && b) ≡ true → pick a (pick b z false) false ≡ z
both true true z e = refl
both true false z e = no_way (cc)
both false b z e = no_way (cc)

not_both : (a b z : Bool) → (a && b) ≡ false → pick a (pick b z false) false ≡ false
not_both true true z e = no_way (cc)
not_both true false z e = refl
not_both false b z e = refl

pub parts_compare : Compares from_to (λ p q. eqb p.lo q.lo && eqb p.hi q.hi) same_parts
unfolding same
parts_compare = record {
  none = refl;
  fewer = λ y ys. refl;
  more = λ x xs. refl;
  on = λ x y xs ys e. both (eqb x.lo y.lo) (eqb x.hi y.hi) (same_parts xs ys) e;
  off = λ x y xs ys e. not_both (eqb x.lo y.lo) (eqb x.hi y.hi) (same_parts xs ys) e;
}
