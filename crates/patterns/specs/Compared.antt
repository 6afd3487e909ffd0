-- Two walks, side by side.
use Rattle.std.specs.Prelude.{ℕ, ◌≡◌, true, false, Option, Some, None, List, [], drop}
use Rattle.notation.specs.Lexer.{tokens}
use Rattle.notation.specs.Stream.{Stream, want, stream}
use Rattle.lexer.specs.declared.token.Token.{Token}
use Rattle.lexer.specs.declared.token.Leaf.{Leaf}
use Rattle.walker.specs.declared.walk.Symbol.TheVariants as Symbol
use Rattle.walker.specs.Walks.{Taken}
use Rattle.patterns.specs.Bodies.{same_streams, defs_on}

-- What a walk puts out that begins at a place, where an expression must begin.
abbrev pub stream_at : List ℕ → ℕ → Stream
stream_at text p = stream (tokens (drop p text)) want []

-- A token was taken for this leaf.
abbrev pub TakenLeaf : List ℕ → Token → Leaf → Type 0
TakenLeaf text t l = Taken text t (Symbol.Leaf l)

-- What is told of two streams: that they are not the same, or that they are and how many defs begin in them.
abbrev pub Compares : Stream → Stream → Option ℕ → Type 0
Compares s t None = same_streams s t ≡ false
Compares s t (Some k) = (same_streams s t ≡ true) × (k ≡ defs_on t)
