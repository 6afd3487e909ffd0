-- Operators as the code tells them.
use Rattle.std.specs.Prelude.{ℕ, ◌≡◌, refl, List}
use Rattle.grammar.specs.Expr.{Expr}
use Rattle.notation.specs.Tree as Tree
use Rattle.notation.specs.Tree.{Name, and, not, sequence, choice, def, block, local, on}
use Rattle.notation.specs.At.{name_at}
use Rattle.notation.specs.Compile.{prefix_nodes, suffix_nodes, binary_node}
use Rattle.lexer.specs.declared.token.Token.{Token}
use Rattle.lexer.specs.declared.token.Opener.{Opener}
use Rattle.lexer.specs.declared.token.Opener.TheVariants.{Def, Block, Local, On}
use Rattle.lexer.specs.Meant.{suffix_of, opener_at}
use Rattle.writer.specs.declared.operator.Unary.{Unary}
use Rattle.writer.specs.declared.operator.Unary.TheVariants.{And, Not, After}
use Rattle.writer.specs.declared.operator.Binary.{Binary}
use Rattle.writer.specs.declared.operator.Binary.TheVariants.{Sequence, Choice}

-- The nodes of a prefix or a suffix. a is the operand's node, k the next number.
unfoldable pub unary_nodes : Unary → (a k : ℕ) → List Expr
unary_nodes And a k = prefix_nodes and a k
unary_nodes Not a k = prefix_nodes not a k
unary_nodes (After s) a k = suffix_nodes (suffix_of s) a k

-- The node of what joins two expressions.
unfoldable pub binary_of : Binary → (a b : ℕ) → Expr
binary_of Sequence a b = binary_node sequence a b
binary_of Choice a b = binary_node choice a b

-- An operator in angle brackets, with its name.
unfoldable pub opener_of : Opener → Name → Tree.Opener
opener_of Def n = def n
opener_of Block n = block n
opener_of Local n = local n
opener_of (On w) n = on n w

-- It is what a token says whose name that is.
pub opener_token : (text : List ℕ) (t : Token) (o : Opener) → opener_of o (name_at text t.name) ≡ opener_at text t o
unfolding opener_of opener_at
opener_token text t Def = refl
opener_token text t Block = refl
opener_token text t Local = refl
opener_token text t (On w) = refl
