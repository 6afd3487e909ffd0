-- Kinds of tokens.
use mathlib.Core.Path.{◌≡◌, refl}
use mathlib.Core.List.{List, ◌∷◌}
use lib.ListN.{drop}
use Prim.Native.Nat.{ℕ}
use Rattle.notation.specs.LexicalText.{no_way}
use Rattle.notation.specs.Lexer.{lexemes}
use Rattle.lexer.specs.declared.token.Token.{Token}
use Rattle.lexer.specs.declared.token.Kind.{Kind}
use Rattle.lexer.specs.Meant.{placed, ahead_by, IsToken}

-- Behind a token come the others.
pub ahead_on : (text : List ℕ) (t : Token) (k : Kind) → IsToken k → ahead_by text t k ≡ placed text t ∷ lexemes (drop t.next text)
unfolding ahead_by
ahead_on text t Kind.End e = no_way (cc)
ahead_on text t Kind.Bad e = no_way (cc)
ahead_on text t k e = refl
