-- The walk over a text: what is still to come of it, what its symbols stand for, and what the functions of a walk promise.
use Rattle.std.specs.Prelude.{ℕ, ◌+◌, ◌-◌, ◌*◌, ◌≤◌, ◌<◌, ◌≡◌, List, [], length, drop}
use Rattle.notation.specs.Tree.{and, not, sequence, choice}
use Rattle.notation.specs.Token.{bare}
use Rattle.notation.specs.Lexer.{tokens}
use Rattle.notation.specs.At.{name_at}
use Rattle.notation.specs.Stream.{named, stands, enters, leaves, front, back, joins, Stream, ◌▸◌, ended, broken, stream}
use Rattle.notation.specs.Stream as N
use Rattle.lexer.specs.declared.token.Token.{Token}
use Rattle.lexer.specs.declared.token.Kind.{Kind}
use Rattle.lexer.specs.Meant.{leaf_at, opener_at, suffix_of, ahead, Lexed}
use Rattle.walker.specs.declared.act.Open.{Open}
use Rattle.walker.specs.declared.walk.Symbol.{Symbol}
use Rattle.walker.specs.declared.walk.Symbol.TheVariants.{Head, Leaf, Opens, Closes, And, Not, After, Sequence, Choice}
use Rattle.walker.specs.declared.walk.Walk.{Walk}
use Rattle.walker.specs.declared.walk.Step.{Step}
use Rattle.walker.specs.Acts.{mode_of, weight, opened}

-- What is still to come of a walk.
abbrev pub rest : (text : List ℕ) (stack : List Open) → Walk → Stream
rest text stack w = stream (bare (ahead text w.token)) (mode_of w.mode) (opened w.height stack)

-- What holds of a walk: its token is the one from some place on, and no more is open than bytes stand before it, so that a stack of 65,536 entries is enough
-- for a text of 65,535.
pub record Walks (text : List ℕ) (w : Walk) : Type 0 where
  pub at : ℕ
  pub lexed : Lexed text at w.token
  pub low : w.height + weight w.mode ≤ w.token.start + 1

-- What falls with each act.
abbrev pub to_go : List ℕ → Walk → ℕ
to_go text w = 3 * (length text - w.token.start) + w.height

-- What a symbol stands for that holds nothing, as all do but a production's head, leaves and what opens an operator.
abbrev pub plain_of : Symbol → N.Symbol
plain_of Closes = leaves
plain_of And = front and
plain_of Not = front not
plain_of (After s) = back (suffix_of s)
plain_of Sequence = joins sequence
plain_of s = joins choice

-- What a symbol stands for, by the token that was taken for it.
abbrev pub symbol_at : List ℕ → Token → Symbol → N.Symbol
symbol_at text t Head = named (name_at text t.name)
symbol_at text t (Leaf l) = stands (leaf_at text t l)
symbol_at text t (Opens o) = enters (opener_at text t o)
symbol_at text t s = plain_of s

-- ## What a step promises

-- A token of this kind was taken.
pub record Took (text : List ℕ) (t : Token) (k : Kind) : Type 0 where
  pub at : ℕ
  pub lexed : Lexed text at t
  pub kind : t.kind ≡ k

-- A token was taken for a symbol, but for one that closes what is open.
abbrev pub Taken : List ℕ → Token → Symbol → Type 0
Taken text t Head = Took text t Kind.Head
Taken text t (Leaf l) = Took text t (Kind.Leaf l)
Taken text t (Opens o) = Took text t (Kind.Opens o)
Taken text t Closes = Took text t Kind.Closes
Taken text t And = Unit
Taken text t Not = Unit
Taken text t (After s) = Took text t (Kind.After s)
Taken text t Sequence = Unit
Taken text t Choice = Unit

-- A symbol was put out: if it is a head, a leaf, what opens an operator or what closes one, this token was taken for it. Of the others' tokens nothing is said.
abbrev pub Shown : List ℕ → Token → Symbol → Type 0
Shown text t (After s) = Unit
Shown text t s = Taken text t s

-- The walk goes on behind the token that was taken.
abbrev pub BehindBy : List ℕ → Token → Symbol → Walk → Type 0
BehindBy text t And w = Unit
BehindBy text t Not w = Unit
BehindBy text t Sequence w = Unit
BehindBy text t Choice w = Unit
BehindBy text t s w = Lexed text t.next w.token

-- The walk began as w₀ with the stack `was`, and has put out nothing up to here.
pub record Passing (text : List ℕ) (was stack : List Open) (w₀ w : Walk) : Type 0 where
  pub same : rest text was w₀ ≡ rest text stack w
  pub walks : Walks text w
  pub less : to_go text w ≤ to_go text w₀
  pub long : length stack ≡ length was

-- What was to come is the symbol that is given, and then what is to come. If a token was taken for it, the walk goes on behind that. It has less to go.
pub record Gives (text : List ℕ) (was now : List Open) (w : Walk) (s : Symbol) (t : Token) (v : Walk) : Type 0 where
  pub goes : rest text was w ≡ symbol_at text t s ▸ rest text now v
  pub taken : Taken text t s
  pub behind : BehindBy text t s v
  pub walks : Walks text v
  pub falls : to_go text v < to_go text w

-- A symbol is given; or the walk has ended, or it is broken.
abbrev pub NextsBy : (text : List ℕ) (was now : List Open) → Walk → Step → Type 0
NextsBy text was now w (Step.Symbol s t v) = Gives text was now w s t v
NextsBy text was now w Step.Ended = rest text was w ≡ ended
NextsBy text was now w Step.Broken = rest text was w ≡ broken

pub record Nexts (text : List ℕ) (was now : List Open) (w : Walk) (s : Step) : Type 0 where
  pub nexts : NextsBy text was now w s
  pub long : length now ≡ length was

-- A walk begins in a mode, with nothing open, at the token from a place on; so it comes to what the text from there on comes to.
pub record Begins (text : List ℕ) (at : ℕ) (m : N.Mode) (w : Walk) : Type 0 where
  pub mode : mode_of w.mode ≡ m
  pub none : w.height ≡ 0
  pub lexed : Lexed text at w.token
  pub walks : Walks text w
  pub comes : (stack : List Open) → rest text stack w ≡ stream (tokens (drop at text)) m []
