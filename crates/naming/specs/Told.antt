-- What a token tells.
use Rattle.std.specs.Prelude.{ℕ, Bool, true, false, List, [], ◌∷◌}
use Rattle.format.specs.Reading.{pick}
use Rattle.lexer.specs.declared.token.Kind.{Kind}
use Rattle.lexer.specs.declared.token.Leaf.TheVariants as Leaf
use Rattle.lexer.specs.declared.token.Opener.TheVariants as Opener
use Rattle.lexer.specs.declared.token.Suffix.TheVariants as Suffix

-- One thing, if a test holds.
abbrev pub named : {A : Type 0} → Bool → A → List A
named holds x = pick holds (x ∷ []) []

-- What asks about a table or closes round it: a query, `block` and `local`.
abbrev pub asking : Kind → Bool
asking (Kind.Leaf Leaf.Match) = true
asking (Kind.Leaf Leaf.Is) = true
asking (Kind.Leaf Leaf.Isa) = true
asking (Kind.Leaf Leaf.Exists) = true
asking (Kind.Opens Opener.Block) = true
asking (Kind.Opens Opener.Local) = true
asking k = false

-- The weight of what is no class.
abbrev pub weight_by : Kind → ℕ
weight_by (Kind.Leaf l) = 2
weight_by Kind.And = 2
weight_by (Kind.After Suffix.Star) = 1
weight_by (Kind.After s) = 2
weight_by (Kind.Opens o) = 1
weight_by Kind.Not = 1
weight_by k = 0
