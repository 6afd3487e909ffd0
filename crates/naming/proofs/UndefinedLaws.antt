-- Whether what a token says is undefined: of one that calls, of one that asks, and of any other.
use Rattle.std.proofs.Common.{ℕ, ◌≡◌, refl, Bool, true, false, not, List, ◌∷◌, [], drop}
use Rattle.format.specs.Reading.{pick}
use Rattle.notation.specs.LexicalText.{no_way}
use Rattle.notation.specs.Tree.{Name, Part}
use Rattle.notation.specs.Token.{leaf}
use Rattle.notation.specs.At.{name_at, parts_of, class_of}
use Rattle.notation.specs.Naming.{all, member}
use Rattle.notation.specs.Places.{undefined}
use Rattle.lexer.specs.declared.token.Token.{Token}
use Rattle.lexer.specs.declared.token.Kind.{Kind}
use Rattle.lexer.specs.declared.token.Leaf.TheVariants as Leaf
use Rattle.lexer.specs.declared.token.Opener.TheVariants as Opener
use Rattle.lexer.specs.Meant.{leaf_at, opener_at, meant_by, meant}
use Rattle.naming.specs.Told.{asking}

turned : (b : Bool) → pick (pick b true false) false true ≡ not b
turned true = refl
turned false = refl

module _ (heads defs : List Name) (text : List ℕ) (t : Token) where
  class_told : (ps : List Part) → undefined heads defs (leaf (class_of ps)) ≡ false
  unfolding class_of all
  class_told [] = refl
  class_told (p ∷ ps) = refl

  pub call_told : t.kind ≡ Kind.Leaf Leaf.Call → undefined heads defs (meant text t) ≡ not (member (name_at text t.name) heads)
  unfolding meant_by leaf_at all
  call_told e = rw e (turned (member (name_at text t.name) heads))

  asked : (k : Kind) → asking k ≡ true → undefined heads defs (meant_by text t k) ≡ not (member (name_at text t.name) defs)
  unfolding meant_by leaf_at opener_at all
  asked (Kind.Leaf Leaf.Match) e = turned (member (name_at text t.name) defs)
  asked (Kind.Leaf Leaf.Is) e = turned (member (name_at text t.name) defs)
  asked (Kind.Leaf Leaf.Isa) e = turned (member (name_at text t.name) defs)
  asked (Kind.Leaf Leaf.Exists) e = turned (member (name_at text t.name) defs)
  asked (Kind.Opens Opener.Block) e = turned (member (name_at text t.name) defs)
  asked (Kind.Opens Opener.Local) e = turned (member (name_at text t.name) defs)
  asked (Kind.Leaf l) e = no_way (cc)
  asked (Kind.Opens o) e = no_way (cc)
  asked k e = no_way (cc)

  silent : (k : Kind) → (k ≡ Kind.Leaf Leaf.Call → ⊥) → asking k ≡ false → undefined heads defs (meant_by text t k) ≡ false
  unfolding meant_by leaf_at opener_at all
  silent (Kind.Leaf Leaf.Call) n e = absurd (n refl)
  silent (Kind.Leaf Leaf.Class) n e = class_told (parts_of (drop t.start text))
  silent (Kind.Leaf Leaf.Any) n e = refl
  silent (Kind.Leaf Leaf.Quoted) n e = refl
  silent (Kind.Leaf (Leaf.If w)) n e = refl
  silent (Kind.Leaf l) n e = no_way (cc)
  silent (Kind.Opens Opener.Def) n e = refl
  silent (Kind.Opens (Opener.On w)) n e = refl
  silent (Kind.Opens o) n e = no_way (cc)
  silent k n e = refl

  pub ask_told : asking t.kind ≡ true → undefined heads defs (meant text t) ≡ not (member (name_at text t.name) defs)
  ask_told = asked t.kind

  pub none_told : (t.kind ≡ Kind.Leaf Leaf.Call → ⊥) → asking t.kind ≡ false → undefined heads defs (meant text t) ≡ false
  none_told = silent t.kind
