-- Two walks side by side: what is still to come of the two is the same exactly if the whole is.
use Prim.Native.Nat.{ℕ, ◌+◌, ◌≤◌}
use mathlib.Core.Path.{◌≡◌, refl, ap, ap₂, sym, ◌∙◌}
use mathlib.Core.Bool.{true, false}
use mathlib.Core.List.{List}
use native.Mathlib.Omega.{arith}
use lib.ListN.{length}
use Rattle.format.specs.Reading.{pick}
use Rattle.notation.specs.Stream.{want}
use Rattle.notation.specs.Symbols.{same_symbol}
use Rattle.lexer.specs.declared.token.Token.{Token}
use Rattle.lexer.specs.declared.token.Opener.TheVariants as Opener
use Rattle.lexer.specs.Meant.{opener_at}
use Rattle.walker.specs.declared.act.Open.{Open}
use Rattle.walker.specs.declared.walk.Symbol.{Symbol}
use Rattle.walker.specs.declared.walk.Walk.{Walk}
use Rattle.walker.specs.declared.walk.Step.{Step}
use Rattle.walker.specs.Walks.{rest, Walks, to_go, symbol_at, Taken, Nexts, Begins}
use Rattle.walker.specs.SymbolLaws.{taken_shown}
use Rattle.patterns.specs.Bodies.{same_streams, defines_on, defs_on}
use Rattle.patterns.specs.Compared.{stream_at}
use Rattle.patterns.proofs.ContentsLaws.{symbols_agree, symbols_differ}

-- ## A symbol

-- How many defs begin with a symbol.
abbrev pub one_def : Symbol → ℕ
one_def (Symbol.Opens Opener.Def) = 1
one_def s = 0

pub one_more : (d : ℕ) (s : Symbol) → s ≡ Symbol.Opens Opener.Def → d + 1 ≡ d + one_def s
one_more d s e = rw e

pub none_more : (d : ℕ) (s : Symbol) → (s ≡ Symbol.Opens Opener.Def → ⊥) → d ≡ d + one_def s
none_more d (Symbol.Opens Opener.Def) n = absurd (n refl)
none_more d (Symbol.Opens Opener.Block) n = omega arith
none_more d (Symbol.Opens Opener.Local) n = omega arith
none_more d (Symbol.Opens (Opener.On w)) n = omega arith
none_more d s n = omega arith

one_most : (s : Symbol) → one_def s ≤ 1
one_most (Symbol.Opens Opener.Def) = omega arith
one_most (Symbol.Opens Opener.Block) = omega arith
one_most (Symbol.Opens Opener.Local) = omega arith
one_most (Symbol.Opens (Opener.On w)) = omega arith
one_most s = omega arith

symbol_defines : (text : List ℕ) (t : Token) (s : Symbol) → defines_on (symbol_at text t s) ≡ one_def s
unfolding opener_at
symbol_defines text t (Symbol.Opens Opener.Def) = refl
symbol_defines text t (Symbol.Opens Opener.Block) = refl
symbol_defines text t (Symbol.Opens Opener.Local) = refl
symbol_defines text t (Symbol.Opens (Opener.On w)) = refl
symbol_defines text t s = refl

-- ## Two steps

module _ {text : List ℕ} {left left' right right' : List Open} {v w : Walk} where
  -- The end of the first: no pattern's walk comes to its end.
  pub first_ends : {b : Step} → Nexts text left left' v Step.Ended → Nexts text right right' w b → same_streams (rest text left v) (rest text right w) ≡ false
  unfolding same_streams
  first_ends A B = ap (λ s. same_streams s (rest text right w)) A.nexts

  -- A symbol where the other has none, and a break where the other has none.
  pub symbol_alone :
      {s : Symbol} {t : Token} {x : Walk} (b : Step) → Nexts text left left' v (Step.Symbol s t x) → Nexts text right right' w b
      → ((s : Symbol) (t : Token) (x : Walk) → b ≡ Step.Symbol s t x → ⊥) → same_streams (rest text left v) (rest text right w) ≡ false
  unfolding same_streams
  symbol_alone (Step.Symbol r u y) A B n = absurd (n r u y refl)
  symbol_alone Step.Ended A B n = ap₂ same_streams A.nexts.goes B.nexts
  symbol_alone Step.Broken A B n = ap₂ same_streams A.nexts.goes B.nexts

  pub break_alone :
      (b : Step) → Nexts text left left' v Step.Broken → Nexts text right right' w b → (b ≡ Step.Broken → ⊥)
      → same_streams (rest text left v) (rest text right w) ≡ false
  unfolding same_streams
  break_alone (Step.Symbol r u y) A B n = ap₂ same_streams A.nexts B.nexts.goes
  break_alone Step.Ended A B n = ap₂ same_streams A.nexts B.nexts
  break_alone Step.Broken A B n = absurd (n refl)

  -- Both break, so they are the same, and no def is left.
  pub both_broken :
      Nexts text left left' v Step.Broken → Nexts text right right' w Step.Broken
      → (same_streams (rest text left v) (rest text right w) ≡ true) × (defs_on (rest text right w) ≡ 0)
  unfolding same_streams defs_on
  both_broken A B = (ap₂ same_streams A.nexts B.nexts, ap defs_on B.nexts)

module _ {text : List ℕ} {left left' right right' : List Open} {v w x y : Walk} {s r : Symbol} {t u : Token}
    (A : Nexts text left left' v (Step.Symbol s t x)) (B : Nexts text right right' w (Step.Symbol r u y)) where
  -- Each has put out a symbol.
  one_each :
      same_streams (rest text left v) (rest text right w)
      ≡ pick (same_symbol (symbol_at text t s) (symbol_at text u r)) (same_streams (rest text left' x) (rest text right' y)) false
  unfolding same_streams
  one_each = ap₂ same_streams A.nexts.goes B.nexts.goes

  -- They are not the same.
  pub contents_differ : same_symbol (symbol_at text t s) (symbol_at text u r) ≡ false → same_streams (rest text left v) (rest text right w) ≡ false
  contents_differ f = one_each ∙ rw f

  -- Nor are they where the symbols differ.
  pub others_differ : (s ≡ r → ⊥) → same_streams (rest text left v) (rest text right w) ≡ false
  others_differ n = contents_differ (symbols_differ text t u s r (taken_shown text t s A.nexts.taken) (taken_shown text u r B.nexts.taken) n)

  -- Where they are one symbol, the second token was taken for it too.
  pub this_taken : s ≡ r → Taken text u s
  this_taken e = rw e B.nexts.taken

  -- They are.
  module _ (f : same_symbol (symbol_at text t s) (symbol_at text u r) ≡ true) where
    one_same : same_streams (rest text left v) (rest text right w) ≡ same_streams (rest text left' x) (rest text right' y)
    one_same = one_each ∙ rw f

    one_symbol : s ≡ r
    one_symbol = symbols_agree text t u s r (taken_shown text t s A.nexts.taken) (taken_shown text u r B.nexts.taken) f

    one_defines : defs_on (rest text right w) ≡ one_def s + defs_on (rest text right' y)
    unfolding defs_on
    one_defines = ap defs_on B.nexts.goes ∙ ap (λ d. d + defs_on (rest text right' y)) (symbol_defines text u r ∙ ap one_def (sym one_symbol))

-- ## All steps

-- The two walks from here on come to what the two from p and q come to; and so do the defs, with those that have begun. They are fewer than what
-- is to go, counted from the start.
pub record Beside (text : List ℕ) (p q : ℕ) (left right : List Open) (v w : Walk) (defs : ℕ) : Type 0 where
  pub first : Walks text v
  pub second : Walks text w
  pub streams : same_streams (rest text left v) (rest text right w) ≡ same_streams (stream_at text p) (stream_at text q)
  pub count : defs + defs_on (rest text right w) ≡ defs_on (stream_at text q)
  pub few : defs + to_go text v ≤ 262144
  pub left_long : length left ≡ 65536
  pub right_long : length right ≡ 65536

module _ {text : List ℕ} {p q : ℕ} {v w : Walk} where
  pub beside_start :
      (left right : List Open) → length text ≤ 65535 → length left ≡ 65536 → length right ≡ 65536 → Begins text p want v → Begins text q want w
      → Beside text p q left right v w 0
  beside_start left right h l r X Y = record {
    first = X.walks;
    second = Y.walks;
    streams = ap₂ same_streams (X.comes left) (Y.comes right);
    count = rw (Y.comes right) (omega arith);
    few = omega (arith, X.none);
    left_long = l;
    right_long = r;
  }

  module _ {left right left' right' : List Open} {defs : ℕ} {s r : Symbol} {t u : Token} {x y : Walk} (S : Beside text p q left right v w defs)
      (A : Nexts text left left' v (Step.Symbol s t x)) (B : Nexts text right right' w (Step.Symbol r u y))
      (f : same_symbol (symbol_at text t s) (symbol_at text u r) ≡ true) where
    pub beside_more : Beside text p q left' right' x y (defs + one_def s)
    beside_more = record {
      first = A.nexts.walks;
      second = B.nexts.walks;
      streams = sym (one_same A B f) ∙ S.streams;
      count = omega (arith, one_defines A B f, S.count);
      few = omega (arith, one_most s, A.nexts.falls, S.few);
      left_long = A.long ∙ S.left_long;
      right_long = B.long ∙ S.right_long;
    }
