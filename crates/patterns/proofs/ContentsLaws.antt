-- The contents of symbols, by the tokens that were taken for them.
use Prim.Native.Nat.{ℕ}
use mathlib.Core.Path.{◌≡◌, refl, ap₂, sym, ◌∙◌}
use mathlib.Core.Bool.{Bool, true, false}
use mathlib.Core.List.{List, [], ◌∷◌}
use lib.Dec.{eqb}
use lib.ListN.{drop, get_or}
use borrow.Author.Tests.{eq-eqb, eqb-true}
use Rattle.format.specs.Reading.{pick}
use Rattle.notation.specs.Tree.{Name, Part, any}
use Rattle.notation.specs.Lexer.{same}
use Rattle.notation.specs.LexicalText.{no_way}
use Rattle.notation.specs.LexicalToken.{same_true}
use Rattle.notation.specs.At.{name_at, quoted_of, parts_of, class_of}
use Rattle.notation.specs.Stream.{stands}
use Rattle.notation.specs.Stream as S
use Rattle.notation.specs.Symbols.{ends, bit, kind, contents, same_symbol}
use Rattle.notation.specs.SymbolsLaws.{same_refl}
use Rattle.notation.specs.OrderLaws.{same_equal, not_same_lower, not_same_higher}
use Rattle.notation.specs.Compile.{order}
use Rattle.index.specs.Listed.{order_of}
use Rattle.std.specs.Ordering.{is_eq}
use Rattle.std.specs.declared.cmp.Ordering.{Ordering}
use Rattle.std.specs.declared.cmp.Ordering.TheVariants.{Less, Equal, Greater}
use Rattle.lexer.specs.declared.token.Token.{Token}
use Rattle.lexer.specs.declared.token.Leaf.{Leaf}
use Rattle.lexer.specs.declared.token.Opener.{Opener}
use Rattle.lexer.specs.declared.token.Suffix.TheVariants as Suffix
use Rattle.lexer.specs.Meant.{leaf_at, opener_at}
use Rattle.walker.specs.declared.walk.Symbol.{Symbol}
use Rattle.walker.specs.Walks.{symbol_at, Shown}
use Rattle.walker.specs.SymbolLaws.{number, symbol_kind}

-- ## Two names

-- The code's answer is `Equal` for equal names.
pub told_same : (o : Ordering) (n m : Name) → order_of o ≡ order n m → is_eq o ≡ same n m
told_same Less n m e = sym (not_same_lower n m (sym e))
told_same Equal n m e = sym (same_equal n m (sym e))
told_same Greater n m e = sym (not_same_higher n m (sym e))

-- Behind a truth.
truth_agrees : (n m : Name) (w : Bool) → same n m ≡ same (bit w ∷ n) (bit w ∷ m)
unfolding same
truth_agrees n m true = refl
truth_agrees n m false = refl

-- ## Two symbols

-- They are the same by their contents where their kinds are equal; and classes by their parts.
same_self : (s : S.Symbol) → same_symbol s s ≡ true
same_self s = rw (eq-eqb (kind s) (kind s) refl) (same_refl (contents s))

by_parts : (ps qs : List Part) → same_symbol (stands (class_of ps)) (stands (class_of qs)) ≡ same (ends ps) (ends qs)
unfolding class_of same
by_parts [] [] = refl
by_parts [] (q ∷ qs) = refl
by_parts (p ∷ ps) [] = refl
by_parts (p ∷ ps) (q ∷ qs) = refl

-- ## Two of one leaf

module _ (text : List ℕ) (a b : Token) where
  pub names_same : (l : Leaf) → (l ≡ Leaf.Any → ⊥) → (l ≡ Leaf.Quoted → ⊥) → (l ≡ Leaf.Class → ⊥) → same (name_at text a.name) (name_at text b.name) ≡ same_symbol (stands (leaf_at text a l)) (stands (leaf_at text b l))
  unfolding leaf_at
  names_same Leaf.Any n m o = absurd (n refl)
  names_same Leaf.Quoted n m o = absurd (m refl)
  names_same Leaf.Class n m o = absurd (o refl)
  names_same Leaf.Call n m o = refl
  names_same Leaf.Match n m o = refl
  names_same Leaf.Is n m o = refl
  names_same Leaf.Isa n m o = refl
  names_same Leaf.Exists n m o = refl
  names_same (Leaf.If w) n m o = truth_agrees (name_at text a.name) (name_at text b.name) w

  pub any_same : true ≡ same_symbol (stands (leaf_at text a Leaf.Any)) (stands (leaf_at text b Leaf.Any))
  unfolding leaf_at
  any_same = sym (same_self (stands any))

  pub texts_same :
      same (quoted_of (drop a.start text)) (quoted_of (drop b.start text)) ≡ same_symbol (stands (leaf_at text a Leaf.Quoted)) (stands (leaf_at text b Leaf.Quoted))
  unfolding leaf_at
  texts_same = refl

  pub classes_same :
      same (ends (parts_of (drop a.start text))) (ends (parts_of (drop b.start text)))
      ≡ same_symbol (stands (leaf_at text a Leaf.Class)) (stands (leaf_at text b Leaf.Class))
  unfolding leaf_at
  classes_same = sym (by_parts (parts_of (drop a.start text)) (parts_of (drop b.start text)))

  -- ## Two of one symbol

  pub heads_same : same (name_at text a.name) (name_at text b.name) ≡ same_symbol (symbol_at text a Symbol.Head) (symbol_at text b Symbol.Head)
  heads_same = refl

  pub openers_same :
      (o : Opener) → same (name_at text a.name) (name_at text b.name) ≡ same_symbol (symbol_at text a (Symbol.Opens o)) (symbol_at text b (Symbol.Opens o))
  unfolding opener_at
  openers_same Opener.Def = refl
  openers_same Opener.Block = refl
  openers_same Opener.Local = refl
  openers_same (Opener.On w) = truth_agrees (name_at text a.name) (name_at text b.name) w

  pub same_plain : (s : Symbol) → (s ≡ Symbol.Head → ⊥) → ((o : Opener) → s ≡ Symbol.Opens o → ⊥) → ((l : Leaf) → s ≡ Symbol.Leaf l → ⊥) → true ≡ same_symbol (symbol_at text a s) (symbol_at text b s)
  same_plain Symbol.Head n m o = absurd (n refl)
  same_plain (Symbol.Leaf l) n m o = absurd (o l refl)
  same_plain (Symbol.Opens l) n m o = absurd (m l refl)
  same_plain s n m o = sym (same_self (symbol_at text a s))

-- ## Two symbols that differ

-- What a symbol is, by its number and its truth.
abbrev by_number : Bool → List Symbol
by_number w =
    Symbol.Head ∷ Symbol.Leaf Leaf.Any ∷ Symbol.Leaf Leaf.Quoted ∷ Symbol.Leaf Leaf.Class ∷ Symbol.Leaf Leaf.Call ∷ Symbol.Leaf Leaf.Match ∷ Symbol.Leaf Leaf.Is
    ∷ Symbol.Leaf Leaf.Isa ∷ Symbol.Leaf Leaf.Exists ∷ Symbol.Leaf (Leaf.If w) ∷ Symbol.Opens Opener.Def ∷ Symbol.Opens Opener.Block ∷ Symbol.Opens Opener.Local
    ∷ Symbol.Opens (Opener.On w) ∷ Symbol.Closes ∷ Symbol.And ∷ Symbol.Not ∷ Symbol.After Suffix.Option ∷ Symbol.After Suffix.Star ∷ Symbol.After Suffix.Plus
    ∷ Symbol.Sequence ∷ Symbol.Choice ∷ []

-- Its truth, by its number and what it holds.
abbrev truth_in : ℕ → List ℕ → Bool
truth_in n c = pick (eqb n 9) (eqb (get_or c 0 0) 1) (pick (eqb n 13) (eqb (get_or c 0 0) 1) false)

is_numbered : (text : List ℕ) (t : Token) (s : Symbol) → get_or (by_number (truth_in (number s) (contents (symbol_at text t s)))) (number s) Symbol.Head ≡ s
unfolding leaf_at opener_at
is_numbered text t (Symbol.Leaf Leaf.Any) = refl
is_numbered text t (Symbol.Leaf Leaf.Quoted) = refl
is_numbered text t (Symbol.Leaf Leaf.Class) = refl
is_numbered text t (Symbol.Leaf Leaf.Call) = refl
is_numbered text t (Symbol.Leaf Leaf.Match) = refl
is_numbered text t (Symbol.Leaf Leaf.Is) = refl
is_numbered text t (Symbol.Leaf Leaf.Isa) = refl
is_numbered text t (Symbol.Leaf Leaf.Exists) = refl
is_numbered text t (Symbol.Leaf (Leaf.If true)) = refl
is_numbered text t (Symbol.Leaf (Leaf.If false)) = refl
is_numbered text t (Symbol.Opens Opener.Def) = refl
is_numbered text t (Symbol.Opens Opener.Block) = refl
is_numbered text t (Symbol.Opens Opener.Local) = refl
is_numbered text t (Symbol.Opens (Opener.On true)) = refl
is_numbered text t (Symbol.Opens (Opener.On false)) = refl
is_numbered text t (Symbol.After Suffix.Option) = refl
is_numbered text t (Symbol.After Suffix.Star) = refl
is_numbered text t (Symbol.After Suffix.Plus) = refl
is_numbered text t s = refl

module _ (text : List ℕ) (t u : Token) (s r : Symbol) (T : Shown text t s) (U : Shown text u r) where
  same_number : kind (symbol_at text t s) ≡ kind (symbol_at text u r) → number s ≡ number r
  same_number e = sym (symbol_kind text t s T) ∙ e ∙ symbol_kind text u r U

  same_one : kind (symbol_at text t s) ≡ kind (symbol_at text u r) → contents (symbol_at text t s) ≡ contents (symbol_at text u r) → s ≡ r
  same_one e f =
      sym (is_numbered text t s) ∙ ap₂ (λ n c. get_or (by_number (truth_in n c)) n Symbol.Head) (same_number e) f ∙ is_numbered text u r

  -- Two that stand for the same are one; so two that differ do not.
  pub symbols_agree : same_symbol (symbol_at text t s) (symbol_at text u r) ≡ true → s ≡ r
  symbols_agree = go (eqb (kind x) (kind y)) (same (contents x) (contents y)) refl refl
    where
      x : S.Symbol
      x = symbol_at text t s

      y : S.Symbol
      y = symbol_at text u r

      go : (b c : Bool) → eqb (kind x) (kind y) ≡ b → same (contents x) (contents y) ≡ c → pick b c false ≡ true → s ≡ r
      go false c p q e = no_way (cc)
      go true false p q e = no_way (cc)
      go true true p q e = same_one (eqb-true (kind x) (kind y) p) (same_true (contents x) (contents y) q)

  pub symbols_differ : (s ≡ r → ⊥) → same_symbol (symbol_at text t s) (symbol_at text u r) ≡ false
  symbols_differ n = go (same_symbol (symbol_at text t s) (symbol_at text u r)) refl
    where
      go : (b : Bool) → same_symbol (symbol_at text t s) (symbol_at text u r) ≡ b → b ≡ false
      go false e = refl
      go true e = absurd (n (symbols_agree e))
