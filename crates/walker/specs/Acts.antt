-- What the walk's modes and what is open stand for, and what one act of it promises.
use Rattle.std.specs.Prelude.{ℕ, zero, suc, ◌+◌, ◌-◌, ◌≤◌, ◌≡◌, Bool, true, false, Option, Some, None, List, [], ◌∷◌, get_or, length}
use Rattle.notation.specs.Tree as Tree
use Rattle.notation.specs.Tree.{Name, and, not, sequence, choice}
use Rattle.notation.specs.Token.{Token, head, leaf, opens, closes, left, right, slash, before, after, bad}
use Rattle.notation.specs.Stream.{Symbol, named, stands, enters, leaves, front, back, joins, Stream, ◌▸◌, ◌▸▸◌, ended, broken, Pending, bracket, angle, waits, half, start, want, behind, stream}
use Rattle.notation.specs.Stream as N
use Rattle.lexer.specs.declared.token.Kind.{Kind}
use Rattle.lexer.specs.declared.token.Leaf.{Leaf}
use Rattle.lexer.specs.declared.token.Opener.{Opener}
use Rattle.lexer.specs.declared.token.Suffix.{Suffix}
use Rattle.lexer.specs.Meant.{IsToken}
use Rattle.walker.specs.declared.act.Mode.{Mode}
use Rattle.walker.specs.declared.act.Mode.TheVariants.{Start, Want, Behind}
use Rattle.walker.specs.declared.act.Open.{Open}
use Rattle.walker.specs.declared.act.Open.TheVariants.{Bracket, Angle, Choice, Sequence, And, Not}
use Rattle.walker.specs.declared.act.Reach.{Reach}
use Rattle.walker.specs.declared.act.Reach.TheVariants.{Item, Alternative, End}
use Rattle.walker.specs.declared.act.Act.{Act}
use Rattle.walker.specs.declared.act.Act.TheVariants.{Pop, Shift, Ended, Broken}

-- ## Kinds

-- Some tokens whose front one is of this kind; at the end none is left.
pub data Is : Kind → List Token → Type 0 where
  is_none : Is Kind.End []
  is_head : {n : Name} {ts : List Token} → Is Kind.Head (head n ∷ ts)
  is_closes : {ts : List Token} → Is Kind.Closes (closes ∷ ts)
  is_right : {ts : List Token} → Is Kind.Right (right ∷ ts)
  is_slash : {ts : List Token} → Is Kind.Slash (slash ∷ ts)
  is_leaf : {k : Leaf} {l : Tree.Leaf} {ts : List Token} → Is (Kind.Leaf k) (leaf l ∷ ts)
  is_opens : {k : Opener} {o : Tree.Opener} {ts : List Token} → Is (Kind.Opens k) (opens o ∷ ts)
  is_left : {ts : List Token} → Is Kind.Left (left ∷ ts)
  is_and : {ts : List Token} → Is Kind.And (before and ∷ ts)
  is_not : {ts : List Token} → Is Kind.Not (before not ∷ ts)
  is_after : {k : Suffix} {s : Tree.Suffix} {ts : List Token} → Is (Kind.After k) (after s ∷ ts)
  is_bad : {ts : List Token} → Is Kind.Bad (bad ∷ ts)

-- What may come behind a primary and is no suffix.
abbrev pub Follows : Kind → Type 0
Follows (Kind.After s) = ⊥
Follows Kind.Bad = ⊥
Follows k = Unit

-- ## Modes, and what is open

abbrev pub mode_of : Mode → N.Mode
mode_of Start = start
mode_of Want = want
mode_of Behind = behind

-- How much a mode counts, where no more may be open than bytes stand before the front token.
abbrev pub weight : Mode → ℕ
weight Start = 0
weight Want = 1
weight Behind = 2

abbrev pub pending : Open → Pending
pending Bracket = bracket
pending Angle = angle
pending Choice = half choice
pending Sequence = half sequence
pending And = waits and
pending Not = waits not

-- What waits, and is closed by what comes next: all but a bracket, which a token of its own closes.
abbrev pub IsBracket : Open → Type 0
IsBracket Bracket = Unit
IsBracket Angle = Unit
IsBracket Choice = ⊥
IsBracket Sequence = ⊥
IsBracket And = ⊥
IsBracket Not = ⊥

abbrev pub Waiting : Open → Type 0
Waiting Bracket = ⊥
Waiting Angle = ⊥
Waiting Choice = Unit
Waiting Sequence = Unit
Waiting And = Unit
Waiting Not = Unit

-- What is open where h entries of the stack count, the latest first; and the latest, a bracket where nothing is open.
unfoldable pub opened : ℕ → List Open → List Pending
opened zero s = []
opened (suc h) s = pending (get_or s h Bracket) ∷ opened h s

unfoldable pub latest : ℕ → List Open → Open
latest zero s = Bracket
latest (suc h) s = get_or s h Bracket

-- How far what comes next closes: an end all but brackets, `/` rows and prefixes, an item prefixes. And the kind that closes a bracket.
abbrev pub reach_of : Kind → Reach
reach_of Kind.End = End
reach_of Kind.Head = End
reach_of Kind.Closes = End
reach_of Kind.Right = End
reach_of Kind.Slash = Alternative
reach_of k = Item

abbrev pub closed_by : Reach → Open → Bool
closed_by r Bracket = false
closed_by r Angle = false
closed_by Item Choice = false
closed_by Alternative Choice = false
closed_by End Choice = true
closed_by Item Sequence = false
closed_by Alternative Sequence = true
closed_by End Sequence = true
closed_by r And = true
closed_by r Not = true

abbrev pub closer_of : Open → Kind
closer_of Bracket = Kind.Right
closer_of o = Kind.Closes

-- What a token opens where an item must begin.
abbrev pub opened_by : Kind → Option Open
opened_by (Kind.Opens o) = Some Angle
opened_by Kind.Left = Some Bracket
opened_by Kind.And = Some And
opened_by Kind.Not = Some Not
opened_by k = None

-- ## What is put out

-- What closing an entry puts out; a bracket is closed by a token. And what a token puts out where it is taken.
unfoldable pub closing : Pending → Symbol
closing bracket = leaves
closing angle = leaves
closing (waits p) = front p
closing (half b) = joins b

unfoldable pub puts : Token → List Symbol
puts (head n) = named n ∷ []
puts closes = leaves ∷ []
puts right = []
puts slash = []
puts (leaf l) = stands l ∷ []
puts (opens o) = enters o ∷ []
puts left = []
puts (before p) = []
puts (after s) = back s ∷ []
puts bad = []

-- ## Acts

-- What an act promises, it promises for all tokens whose front one is of the kind k that was told. h are open before it; `was` and `now` are the stack
-- before and after it.

-- The walk is over, and has come to this.
abbrev pub ComesTo : (mode : Mode) (h : ℕ) (was : List Open) (k : Kind) → Stream → Type 0
ComesTo mode h was k r = (ts : List Token) → Is k ts → stream ts (mode_of mode) (opened h was) ≡ r

module _ (mode : Mode) (h : ℕ) (was now : List Open) (k : Kind) where
  -- The latest that is open is closed; it is no bracket.
  pub record Pops (o : Open) : Type 0 where
    pub follows : mode ≡ Behind
    pub some : 1 ≤ h
    pub waiting : Waiting o
    pub same : now ≡ was
    pub goes : (ts : List Token) → Is k ts → stream ts behind (opened h was) ≡ closing (pending o) ▸ stream ts behind (opened (h - 1) was)

  -- The front token is taken. Then m is the mode and g are open: together at most one more than before.
  pub record Shifts (m : Mode) (g : ℕ) : Type 0 where
    pub taken : IsToken k
    pub mode_next : 1 ≤ weight m
    pub low : g + weight m ≤ h + weight mode + 1
    pub goes : (t : Token) (us : List Token) → Is k (t ∷ us) → stream (t ∷ us) (mode_of mode) (opened h was) ≡ (puts t ▸▸ stream us (mode_of m) (opened g now))

  -- One of these.
  abbrev pub ActsBy : Act → Type 0
  ActsBy (Pop o) = Pops o
  ActsBy (Shift m g) = Shifts m g
  ActsBy Ended = ComesTo mode h was k ended
  ActsBy Broken = ComesTo mode h was k broken

  pub record Acts (a : Act) : Type 0 where
    pub acts : ActsBy a
    pub long : length now ≡ length was
