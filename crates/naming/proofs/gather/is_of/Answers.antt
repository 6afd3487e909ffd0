-- `is_of` meets its promise. Assumes nothing.
use Rattle.std.proofs.Common.{◌≡◌, ℕ, refl, List, [], ◌∷◌, drop, Bool, rules}
use Rattle.notation.specs.Tree.{Part}
use Rattle.notation.specs.Token.{leaf}
use Rattle.notation.specs.At.{parts_of, class_of}
use Rattle.notation.specs.Uses.{switch_of}
use Rattle.lexer.specs.declared.token.Token.{Token}
use Rattle.lexer.specs.declared.token.Leaf.{Leaf}
use Rattle.lexer.specs.Meant.{leaf_at, meant_by}
use Rattle.naming.proofs.gather.is_of.Goals as goal

class_told : (ps : List Part) → switch_of (leaf (class_of ps)) ≡ []
unfolding class_of
class_told [] = refl
class_told (p ∷ ps) = refl

-- What holds no expression and is no condition.
no_switch : (text : List ℕ) (t : Token) (l : Leaf) → ((w : Bool) → l ≡ Leaf.If w → ⊥) → switch_of (leaf (leaf_at text t l)) ≡ []
unfolding leaf_at
no_switch text t (Leaf.If w) n = absurd (n w refl)
no_switch text t Leaf.Class n = class_told (parts_of (drop t.start text))
no_switch text t l n = refl

pub returns-in_default : goal.returns-in_default
unfolding meant_by
returns-in_default c text = rw (c.in-Conditions.is, c.in_default.is) (no_switch text c.args.t c.in_default.field-0 (search rules))
