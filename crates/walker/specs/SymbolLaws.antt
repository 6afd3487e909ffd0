-- Laws of the symbols by their numbers.
use Rattle.std.specs.Prelude.{◌≡◌, ◌≤◌, ◌<◌, refl, ℕ, Bool, true, false, List, [], ◌∷◌, eqb, drop}
use Rattle.std.proofs.Common.{arith, eqb-true, ap, ◌∙◌}
use Rattle.std.proofs.lemmas.Bool.{eqb-false}
use Rattle.format.specs.Reading.{pick}
use Rattle.lexer.specs.declared.token.Leaf as code
use Rattle.lexer.specs.declared.token.Opener as code_opener
use Rattle.lexer.specs.declared.token.Suffix as code_suffix
use Rattle.notation.specs.Tree.{Part}
use Rattle.notation.specs.At.{parts_of, class_of}
use Rattle.notation.specs.Stream.{stands, enters}
use Rattle.notation.specs.Symbols as Symbols
use Rattle.lexer.specs.declared.token.Token.{Token}
use Rattle.lexer.specs.declared.token.Kind.TheVariants as Kind
use Rattle.lexer.specs.declared.token.Leaf.TheVariants.{Any, Quoted, Class, Call, Match, Is, Isa, Exists, If}
use Rattle.lexer.specs.declared.token.Opener.TheVariants.{Def, Block, Local, On}
use Rattle.lexer.specs.declared.token.Suffix.TheVariants as Suffix
use Rattle.lexer.specs.Meant.{leaf_at, opener_at, suffix_of}
use Rattle.walker.specs.declared.walk.Symbol.{Symbol}
use Rattle.walker.specs.declared.walk.Symbol.TheVariants.{Head, Leaf, Opens, Closes, And, Not, After, Sequence, Choice}
use Rattle.walker.specs.Walks.{plain_of, symbol_at, Taken, Shown}

-- A symbol's number, as `Symbols.kind` numbers them.
abbrev pub number : Symbol → ℕ
number Head = 0
number (Leaf Any) = 1
number (Leaf Quoted) = 2
number (Leaf Class) = 3
number (Leaf Call) = 4
number (Leaf Match) = 5
number (Leaf Is) = 6
number (Leaf Isa) = 7
number (Leaf Exists) = 8
number (Leaf (If w)) = 9
number (Opens Def) = 10
number (Opens Block) = 11
number (Opens Local) = 12
number (Opens (On w)) = 13
number Closes = 14
number And = 15
number Not = 16
number (After Suffix.Option) = 17
number (After Suffix.Star) = 18
number (After Suffix.Plus) = 19
number Sequence = 20
number Choice = 21

-- The number of a leaf is below 14, and so is that of what opens an operator; that of a suffix is not.
leaf_low : (l : code.Leaf) → number (Leaf l) < 14
leaf_low Any = omega arith
leaf_low Quoted = omega arith
leaf_low Class = omega arith
leaf_low Call = omega arith
leaf_low Match = omega arith
leaf_low Is = omega arith
leaf_low Isa = omega arith
leaf_low Exists = omega arith
leaf_low (If w) = omega arith

opener_low : (o : code_opener.Opener) → number (Opens o) < 14
opener_low Def = omega arith
opener_low Block = omega arith
opener_low Local = omega arith
opener_low (On w) = omega arith

suffix_high : (s : code_suffix.Suffix) → 14 ≤ number (After s)
suffix_high Suffix.Option = omega arith
suffix_high Suffix.Star = omega arith
suffix_high Suffix.Plus = omega arith

-- ## What a symbol stands for, by its number

class_kind : (ps : List Part) → (ps ≡ [] → ⊥) → Symbols.kind (stands (class_of ps)) ≡ 3
unfolding class_of
class_kind [] n = absurd (n refl)
class_kind (p ∷ ps) n = refl

module _ (text : List ℕ) (t : Token) where
  leaf_kind : (l : code.Leaf) → (l ≡ Class → parts_of (drop t.start text) ≡ [] → ⊥) → Symbols.kind (stands (leaf_at text t l)) ≡ number (Leaf l)
  unfolding leaf_at
  leaf_kind Any P = refl
  leaf_kind Quoted P = refl
  leaf_kind Class P = class_kind (parts_of (drop t.start text)) (P refl)
  leaf_kind Call P = refl
  leaf_kind Match P = refl
  leaf_kind Is P = refl
  leaf_kind Isa P = refl
  leaf_kind Exists P = refl
  leaf_kind (If w) P = refl

  opener_kind : (o : code_opener.Opener) → Symbols.kind (enters (opener_at text t o)) ≡ number (Opens o)
  unfolding opener_at
  opener_kind Def = refl
  opener_kind Block = refl
  opener_kind Local = refl
  opener_kind (On w) = refl

-- What holds no expression, and what opens an operator, by the token; from 14 on it is the same whatever the text and the token are.
pub symbol_leaf : (text : List ℕ) (t : Token) (l : code.Leaf) → symbol_at text t (Leaf l) ≡ stands (leaf_at text t l)
symbol_leaf text t l = refl

pub symbol_opener : (text : List ℕ) (t : Token) (o : code_opener.Opener) → symbol_at text t (Opens o) ≡ enters (opener_at text t o)
symbol_opener text t o = refl

pub symbol_plain : (text : List ℕ) (t : Token) (s : Symbol) → 14 ≤ number s → symbol_at text t s ≡ plain_of s
symbol_plain text t Head l = absurd (omega (arith, l))
symbol_plain text t (Leaf k) l = absurd (omega (arith, l, leaf_low k))
symbol_plain text t (Opens o) l = absurd (omega (arith, l, opener_low o))
symbol_plain text t s l = refl

pub plain_kind : (text : List ℕ) (t : Token) (s : Symbol) → 14 ≤ number s → Symbols.kind (symbol_at text t s) ≡ number s
unfolding suffix_of
plain_kind text t Head l = absurd (omega (arith, l))
plain_kind text t (Leaf k) l = absurd (omega (arith, l, leaf_low k))
plain_kind text t (Opens o) l = absurd (omega (arith, l, opener_low o))
plain_kind text t Closes l = refl
plain_kind text t And l = refl
plain_kind text t Not l = refl
plain_kind text t (After Suffix.Option) l = refl
plain_kind text t (After Suffix.Star) l = refl
plain_kind text t (After Suffix.Plus) l = refl
plain_kind text t Sequence l = refl
plain_kind text t Choice l = refl

-- THE NUMBER OF A SYMBOL IS ITS KIND, where it was put out.
pub symbol_kind : (text : List ℕ) (t : Token) (s : Symbol) → Shown text t s → Symbols.kind (symbol_at text t s) ≡ number s
symbol_kind text t Head S = refl
symbol_kind text t (Leaf l) S = leaf_kind text t l (λ e. S.lexed.parted (S.kind ∙ ap Kind.Leaf e))
symbol_kind text t (Opens o) S = opener_kind text t o
symbol_kind text t Closes S = refl
symbol_kind text t And S = refl
symbol_kind text t Not S = refl
symbol_kind text t (After s) S = plain_kind text t (After s) (suffix_high s)
symbol_kind text t Sequence S = refl
symbol_kind text t Choice S = refl

-- It was, where a token was taken for it.
pub taken_shown : (text : List ℕ) (t : Token) (s : Symbol) → Taken text t s → Shown text t s
taken_shown text t (After s) T = tt
taken_shown text t s T = T

-- A test of a number that is at least n, for n.
pub by_test :
    {A B : Type 0} (f : A → B) (k n : ℕ) {x y : A} {r : B} → n ≤ k → (k ≡ n → f x ≡ r) → (n < k → f y ≡ r) → f (pick (eqb k n) x y) ≡ r
by_test f k n {x} {y} {r} l p q = go (eqb k n) refl
  where
    go : (b : Bool) → eqb k n ≡ b → f (pick (eqb k n) x y) ≡ r
    go true e = rw e (p (eqb-true k n e))
    go false e = let z = eqb-false k n e in rw e (q (omega arith))
