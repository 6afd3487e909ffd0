-- What a token weighs.
use Rattle.std.proofs.Common.{ℕ, ◌+◌, ◌-◌, ◌*◌, ◌≤◌, ◌≡◌, refl, List, [], ◌∷◌, length, drop, length-drop, arith}
use Rattle.notation.specs.Tree.{Part}
use Rattle.notation.specs.Token.{leaf, Lexeme, bare}
use Rattle.notation.specs.At.{parts_of, class_of}
use Rattle.notation.specs.Lexer.{lexemes}
use Rattle.notation.specs.Counts.{weight_of, weight_in}
use Rattle.lexer.specs.declared.token.Token.{Token}
use Rattle.lexer.specs.declared.token.Kind.{Kind}
use Rattle.lexer.specs.declared.token.Leaf.TheVariants as Leaf
use Rattle.lexer.specs.declared.token.Suffix.TheVariants as Suffix
use Rattle.lexer.specs.Meant.{leaf_at, suffix_of, meant_by, meant}
use Rattle.naming.specs.BoundLaws.{takes, weight_bound}
use Rattle.naming.specs.Found.{Met}
use Rattle.naming.specs.Told.{weight_by}
use Rattle.naming.proofs.StepLaws.{spelled}

-- What is no class weighs by its kind.
others : (text : List ℕ) (t : Token) (k : Kind) → (k ≡ Kind.Leaf Leaf.Class → ⊥) → weight_by k ≡ weight_of (meant_by text t k)
unfolding meant_by leaf_at suffix_of
others text t (Kind.Leaf Leaf.Class) n = absurd (n refl)
others text t (Kind.Leaf l) n = refl
others text t (Kind.After Suffix.Star) n = refl
others text t (Kind.After s) n = refl
others text t (Kind.Opens o) n = refl
others text t k n = refl

pub other_weight : (text : List ℕ) (t : Token) → (t.kind ≡ Kind.Leaf Leaf.Class → ⊥) → weight_by t.kind ≡ weight_of (meant text t)
other_weight text t = others text t t.kind

module _ {text : List ℕ} {t : Token} (M : Met text t) where
  pub class_weight : t.kind ≡ Kind.Leaf Leaf.Class → length (parts_of (drop t.start text)) * 2 ≡ weight_of (meant text t)
  unfolding meant_by leaf_at class_of
  class_weight e = rw e (go (parts_of (drop t.start text)) (M.lexed.parted e))
    where
      go : (ps : List Part) → (ps ≡ [] → ⊥) → length ps * 2 ≡ weight_of (leaf (class_of ps))
      go [] n = absurd (n refl)
      go (p ∷ ps) n = omega arith

  -- No token weighs more than twice its text.
  pub spelled_weight : weight_of (meant text t) ≤ 2 * length text
  spelled_weight = let S = spelled M in omega (arith, (takes S.1).weight, length-drop t.start text)

-- ## What is counted, with what is still to come, is within twice the text

abbrev pub Light : (nodes weight : ℕ) → List Lexeme → Type 0
Light nodes weight ls = nodes + weight + weight_in (bare ls) ≤ 131070

pub light_all : (text : List ℕ) → length text ≤ 65535 → Light 0 0 (lexemes text)
light_all text h = omega (arith, weight_bound text)

module _ (nodes weight : ℕ) (l : Lexeme) (ls : List Lexeme) (L : Light nodes weight (l ∷ ls)) where
  pub light_token : Light nodes (weight + weight_of l.token) ls
  unfolding weight_in
  light_token = omega arith

  pub light_head : Light (nodes + (weight - 1)) 0 ls
  unfolding weight_in
  light_head = omega arith
