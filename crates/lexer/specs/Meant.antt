-- What the code's tokens stand for, in the terms of the notation.
use Rattle.std.specs.Prelude.{ℕ, ◌≤◌, ◌<◌, ◌≡◌, Bool, true, false, List, [], ◌∷◌, drop, length}
use Rattle.notation.specs.Tree as Tree
use Rattle.notation.specs.Tree.{any, quoted, call, query, match, is, isa, exists, if, option, star, plus, def, block, local, on, and, not}
use Rattle.notation.specs.Token.{head, leaf, opens, closes, left, right, slash, before, after, bad, Lexeme}
use Rattle.notation.specs.Token as N
use Rattle.notation.specs.Lexer.{lexemes}
use Rattle.notation.specs.At.{name_at, quoted_of, parts_of, class_of}
use Rattle.notation.specs.Places.{name_in}
use Rattle.lexer.specs.declared.token.Token.{Token}
use Rattle.lexer.specs.declared.token.Kind.{Kind}
use Rattle.lexer.specs.declared.token.Leaf.{Leaf}
use Rattle.lexer.specs.declared.token.Opener.{Opener}
use Rattle.lexer.specs.declared.token.Suffix.{Suffix}

-- What holds no expression, what opens an operator, and a suffix, of a token.
unfoldable pub leaf_at : List ℕ → Token → Leaf → Tree.Leaf
leaf_at text t Leaf.Any = any
leaf_at text t Leaf.Quoted = quoted (quoted_of (drop t.start text))
leaf_at text t Leaf.Class = class_of (parts_of (drop t.start text))
leaf_at text t Leaf.Call = call (name_at text t.name)
leaf_at text t Leaf.Match = query match (name_at text t.name)
leaf_at text t Leaf.Is = query is (name_at text t.name)
leaf_at text t Leaf.Isa = query isa (name_at text t.name)
leaf_at text t Leaf.Exists = query exists (name_at text t.name)
leaf_at text t (Leaf.If w) = if (name_at text t.name) w

unfoldable pub opener_at : List ℕ → Token → Opener → Tree.Opener
opener_at text t Opener.Def = def (name_at text t.name)
opener_at text t Opener.Block = block (name_at text t.name)
opener_at text t Opener.Local = local (name_at text t.name)
opener_at text t (Opener.On w) = on (name_at text t.name) w

unfoldable pub suffix_of : Suffix → Tree.Suffix
suffix_of Suffix.Option = option
suffix_of Suffix.Star = star
suffix_of Suffix.Plus = plus

-- The token by its kind.
unfoldable pub meant_by : List ℕ → Token → Kind → N.Token
meant_by text t Kind.End = bad
meant_by text t Kind.Head = head (name_at text t.name)
meant_by text t Kind.Closes = closes
meant_by text t Kind.Right = right
meant_by text t Kind.Slash = slash
meant_by text t (Kind.Leaf l) = leaf (leaf_at text t l)
meant_by text t (Kind.Opens o) = opens (opener_at text t o)
meant_by text t Kind.Left = left
meant_by text t Kind.And = before and
meant_by text t Kind.Not = before not
meant_by text t (Kind.After s) = after (suffix_of s)
meant_by text t Kind.Bad = bad

abbrev pub meant : List ℕ → Token → N.Token
meant text t = meant_by text t t.kind

abbrev pub placed : List ℕ → Token → Lexeme
placed text t = record { here = drop t.start text; token = meant text t }

-- The lexemes from a token on: none at the text's end, and none behind what is no token.
unfoldable pub ahead_by : List ℕ → Token → Kind → List Lexeme
ahead_by text t Kind.End = []
ahead_by text t Kind.Bad = placed text t ∷ []
ahead_by text t k = placed text t ∷ lexemes (drop t.next text)

abbrev pub ahead : List ℕ → Token → List Lexeme
ahead text t = ahead_by text t t.kind

-- No token is there: the text ends, or what stands there is none.
abbrev pub stops : Kind → Bool
stops Kind.End = true
stops Kind.Bad = true
stops k = false

abbrev pub IsToken : Kind → Type 0
IsToken k = stops k ≡ false

-- What is promised of the token at a place: it is the front of the lexemes there; it begins there or further on, in the text, and a byte at
-- least belongs to it, where it is one; its name is the one that stands in it; a class has parts.
pub record Lexed (text : List ℕ) (at : ℕ) (t : Token) : Type 0 where
  pub goes : lexemes (drop at text) ≡ ahead text t
  pub inside : t.start ≤ length text
  pub onward : at ≤ length text → at ≤ t.start
  pub longer : IsToken t.kind → t.start < t.next
  pub within : IsToken t.kind → t.next ≤ length text
  pub ends : t.kind ≡ Kind.End → t.start ≡ length text
  pub named : IsToken t.kind → drop t.name text ≡ name_in (drop t.start text)
  pub name_inside : IsToken t.kind → t.name ≤ length text
  pub parted : t.kind ≡ Kind.Leaf Leaf.Class → parts_of (drop t.start text) ≡ [] → ⊥
