-- What one act promises of a walk over a text: w before it, `was` and `now` the stack before and after it.
use Rattle.std.specs.Prelude.{ℕ, ◌-◌, ◌≡◌, Option, Some, None, List, length}
use Rattle.notation.specs.Stream.{ended, broken}
use Rattle.lexer.specs.declared.token.Kind.{Kind}
use Rattle.lexer.specs.Meant.{Lexed}
use Rattle.walker.specs.declared.act.Mode.TheVariants.{Behind}
use Rattle.walker.specs.declared.act.Open.{Open}
use Rattle.walker.specs.declared.walk.Symbol.{Symbol}
use Rattle.walker.specs.declared.walk.Symbol.TheVariants.{Head, Leaf, Opens, Closes, And, Not, After, Sequence, Choice}
use Rattle.walker.specs.declared.walk.Walk.{Walk}
use Rattle.walker.specs.declared.walk.Turn.{Turn}
use Rattle.walker.specs.declared.walk.Turn.TheVariants.{On, Ended, Broken}
use Rattle.walker.specs.Acts.{Pops, Shifts, ComesTo}

-- The symbol that closing what waits puts out; a bracket is closed by a token.
abbrev pub closed_as : Open → Symbol
closed_as Open.Bracket = Closes
closed_as Open.Angle = Closes
closed_as Open.Choice = Choice
closed_as Open.Sequence = Sequence
closed_as Open.And = And
closed_as Open.Not = Not

-- The symbol that a token puts out, by its kind, if it does.
abbrev pub shown_as : Kind → Option Symbol
shown_as Kind.End = None
shown_as Kind.Head = Some Head
shown_as Kind.Closes = Some Closes
shown_as Kind.Right = None
shown_as Kind.Slash = None
shown_as (Kind.Leaf l) = Some (Leaf l)
shown_as (Kind.Opens o) = Some (Opens o)
shown_as Kind.Left = None
shown_as Kind.And = None
shown_as Kind.Not = None
shown_as (Kind.After s) = Some (After s)
shown_as Kind.Bad = None

module _ (text : List ℕ) (was now : List Open) (w : Walk) where
  -- The latest that is open is closed, and the walk stands before the same token.
  pub record Closing (s : Option Symbol) (v : Walk) : Type 0 where
    pub latest : Open
    pub pops : Pops w.mode w.height was now w.token.kind latest
    pub symbol : s ≡ Some (closed_as latest)
    pub walk : v ≡ record { mode = Behind; height = w.height - 1; token = w.token }

  -- The token is taken, and the walk stands before the next.
  pub record Taking (s : Option Symbol) (v : Walk) : Type 0 where
    pub shifts : Shifts w.mode w.height was now w.token.kind v.mode v.height
    pub symbol : s ≡ shown_as w.token.kind
    pub lexed : Lexed text w.token.next v.token

  -- One of these.
  pub data Goes (s : Option Symbol) (v : Walk) : Type 0 where
    closes : Closing s v → Goes s v
    takes : Taking s v → Goes s v

  -- The walk goes on; or it is over, whatever follows.
  abbrev pub StepsBy : Turn → Type 0
  StepsBy (On s v) = Goes s v
  StepsBy Ended = ComesTo w.mode w.height was w.token.kind ended
  StepsBy Broken = ComesTo w.mode w.height was w.token.kind broken

  pub record Steps (t : Turn) : Type 0 where
    pub acted : StepsBy t
    pub long : length now ≡ length was
