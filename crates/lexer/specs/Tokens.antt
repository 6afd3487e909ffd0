-- What is promised of the token that begins at a place.
use Rattle.std.specs.Prelude.{ℕ, Bool, eqb, ◌∷◌, ◌≤◌, ◌<◌, ◌≡◌, false, ◌⊎◌, List, [], Option, Some, None, drop, length}
use Prim.Native.Char.{code}
use Rattle.notation.specs.Bytes.{letter}
use Rattle.notation.specs.Lexer.{piece, no, gap, token}
use Rattle.notation.specs.LexicalToken.{token_of}
use Rattle.notation.specs.At.{parts_of}
use Rattle.notation.specs.Places.{name_in}
use Rattle.lexer.specs.declared.token.Token.{Token}
use Rattle.lexer.specs.declared.token.Kind.{Kind}
use Rattle.lexer.specs.declared.token.Leaf.{Leaf}
use Rattle.lexer.specs.Meant.{meant_by, meant, IsToken}

-- A token whose name, if it has one, is its front.
abbrev pub simple : Kind → (start next : ℕ) → Token
simple k start next = record { kind = k; start = start; name = start; next = next }

-- This byte is in front.
unfoldable pub begins : ℕ → List ℕ → Bool
begins b [] = false
begins b (x ∷ s) = eqb x b

-- A byte that begins no token of more bytes: no name, no quoted text, no class, no operator in angle brackets.
pub record Single (b : ℕ) : Type 0 where
  pub no_letter : letter b ≡ false
  pub no_mark : (b ≡ code "\"") ⊎ (b ≡ code "'") → ⊥
  pub no_class : b ≡ code "[" → ⊥
  pub no_operator : b ≡ code "<" → ⊥

-- A byte is a token by itself, and of this kind; or none begins with it.
pub record Sign (b : ℕ) (k : Kind) : Type 0 where
  pub goes : (text : List ℕ) (t : Token) (s : List ℕ) → token b s ≡ piece (meant_by text t k) s
  pub one : IsToken k
  pub no_class : k ≡ Kind.Leaf Leaf.Class → ⊥
  pub no_operator : b ≡ code "<" → ⊥

abbrev pub Signs : (b : ℕ) → Option Kind → Type 0
Signs b (Some k) = Sign b k
Signs b None = (s : List ℕ) → token b s ≡ no

-- What is promised of the token that begins at a place: it is what the token there stands for; what comes behind it and a gap is the same from its `next`
-- on; a byte at least belongs to it, and its name is the one that stands in it; a class has parts.
pub record Begins (text : List ℕ) (start : ℕ) (t : Token) : Type 0 where
  pub here : t.start ≡ start
  pub one : IsToken t.kind
  pub rest : List ℕ
  pub goes : token_of (drop start text) ≡ piece (meant text t) rest
  pub skips : gap rest ≡ gap (drop t.next text)
  pub longer : start < t.next
  pub within : t.next ≤ length text
  pub named : drop t.name text ≡ name_in (drop start text)
  pub name_inside : t.name ≤ length text
  pub parted : t.kind ≡ Kind.Leaf Leaf.Class → parts_of (drop start text) ≡ [] → ⊥

-- The token that begins at a place; or none does.
abbrev pub Stands : (text : List ℕ) (start : ℕ) → Option Token → Type 0
Stands text start (Some t) = Begins text start t
Stands text start None = token_of (drop start text) ≡ no
