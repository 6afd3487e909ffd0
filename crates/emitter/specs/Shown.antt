-- What the arrays of a walk show.
use Rattle.std.specs.Prelude.{ℕ, zero, suc, ◌+◌, ◌-◌, ◌*◌, ◌≤◌, ◌<◌, ◌≡◌, Bool, true, false, List, [], ◌∷◌, ◌++◌, eqb, length, take, get_or}
use Rattle.std.proofs.Math.Option.{Option, some, none}
use Rattle.format.specs.Reading.{pick}
use Rattle.format.specs.Written.{written, encode_node}
use Rattle.grammar.specs.Expr.{Expr}
use Rattle.notation.specs.Tree.{Name, Opener, def, block, local, on}
use Rattle.notation.specs.At.{name_at}
use Rattle.notation.specs.Stream.{Symbol, named, stands, enters, leaves, front, back, joins}
use Rattle.notation.specs.Naming.{member, all}
use Rattle.notation.specs.Limits.{short}
use Rattle.notation.specs.Compile.{leaf_count, prefix_count, suffix_count}
use Rattle.notation.specs.Patterns.{Known, begun, ends_at, brings, note}
use Rattle.lexer.specs.declared.token.Opener.TheVariants.{Def}
use Rattle.writer.specs.declared.node.Made.{Made}
use Rattle.emitter.specs.declared.state.State.{State}
use Rattle.emitter.specs.declared.state.Opened.{Opened}
use Rattle.writer.specs.Put.{Adds}
use Rattle.writer.specs.Named.{place_by, production_by}
use Rattle.writer.specs.Operator.{opener_of}
use Rattle.emitter.specs.Known.{Tells}
use Rattle.emitter.specs.Stage.{Stage, bytes_of, after}

-- The first n of what stands at each place, the last first.
unfoldable pub row_of : {A : Type 0} → (ℕ → A) → ℕ → List A
row_of f zero = []
row_of f (suc n) = f n ∷ row_of f n

-- ## Operators that are open

-- The table whose pattern an operator brings, if it does.
abbrev pub brought_of : (brings : Bool) → Name → Option Name
brought_of b n = pick b (some n) none

-- What was kept i-th: the operator, and the table whose pattern it brings.
abbrev pub unopened : Opened
unopened = record { opener = Def; name = 0; brings = false }

abbrev pub opened_at : List Opened → ℕ → Opened
opened_at opened i = get_or opened i unopened

abbrev pub opener_kept : List ℕ → Opened → Opener
opener_kept text o = opener_of o.opener (name_at text o.name)

abbrev pub brought_kept : List ℕ → Opened → Option Name
brought_kept text o = brought_of o.brings (name_at text o.name)

abbrev pub opener_in : (text : List ℕ) → List Opened → ℕ → Opener
opener_in text opened i = opener_kept text (opened_at opened i)

abbrev pub brought_in : (text : List ℕ) → List Opened → ℕ → Option Name
brought_in text opened i = brought_kept text (opened_at opened i)

abbrev pub openers_at : (text : List ℕ) → List Opened → ℕ → List Opener
openers_at text opened = row_of (opener_in text opened)

abbrev pub brought_at : (text : List ℕ) → List Opened → ℕ → List (Option Name)
brought_at text opened = row_of (brought_in text opened)

-- The table that an operator defines is one of these.
abbrev pub Tabled : List Name → Opener → Type 0
Tabled ts (def t) = member t ts ≡ true
Tabled ts (block t) = Unit
Tabled ts (local t) = Unit
Tabled ts (on c w) = Unit

-- An operator begins, with this name: whether it brings a pattern, and what the tables know then.
pub record Marks (ts : List Name) (was : List ℕ) (o : Opener) (n : Name) (now : List ℕ) (first : Bool) : Type 0 where
  pub brought : (f : Name → Known) → Tells was ts f → brought_of first n ≡ brings o f
  pub tells : (f : Name → Known) → Tells was ts f → Tells now ts (note (brings o f) begun f)
  pub long : length now ≡ length was

-- An operator has ended: where it brings a table's pattern, that has this node.
pub record Ends (was : List ℕ) (ts : List Name) (brought : Option Name) (node : ℕ) (now : List ℕ) : Type 0 where
  pub tells : (f : Name → Known) → Tells was ts f → Tells now ts (note brought (ends_at node) f)
  pub long : length now ≡ length was

-- An operator has begun.
pub record Enters (text : List ℕ) (ts : List Name) (was : List ℕ) (opened : List Opened) (s : State) (o : Opener) (now : List ℕ) (after : List Opened) (r : State) : Type 0 where
  pub state : r ≡ record { made = s.made; complete = s.complete; openers = s.openers + 1; ended = s.ended }
  pub openers : openers_at text after (s.openers + 1) ≡ o ∷ openers_at text opened s.openers
  pub brought : (f : Name → Known) → Tells was ts f
      → brought_at text after (s.openers + 1) ≡ brings o f ∷ brought_at text opened s.openers
  pub tells : (f : Name → Known) → Tells was ts f → Tells now ts (note (brings o f) begun f)
  pub long : (length now ≡ length was) × (length after ≡ length opened)

-- ## Expressions that are complete

abbrev pub complete_at : (done : List ℕ) → ℕ → List ℕ
complete_at done = row_of (λ i. get_or done i 0)

-- The last of the nodes that were made is complete, over the first `depth` of what was.
pub record Settles (done : List ℕ) (m : Made) (depth openers ended : ℕ) (after : List ℕ) (r : State) : Type 0 where
  pub state : r ≡ record { made = m; complete = depth + 1; openers = openers; ended = ended }
  pub row : complete_at after (depth + 1) ≡ (m.nodes - 1) ∷ complete_at done depth
  pub long : length after ≡ length done

-- Nodes were added, and what they end is complete over the first `depth` of what was; so many operators are open then.
pub record Grows (was done : List ℕ) (s : State) (depth openers : ℕ) (new : List Expr) (now after : List ℕ) (r : State) : Type 0 where
  pub adds : Adds was s.made now r.made new
  pub row : complete_at after r.complete ≡ (s.made.nodes + length new - 1) ∷ complete_at done depth
  pub tall : r.complete ≡ depth + 1
  pub open_then : r.openers ≡ openers
  pub ended : r.ended ≡ s.ended
  pub long : length after ≡ length done

-- ## Productions that have ended

-- One ends behind the nodes that were made, unless none was.
pub record EndsOne (ends : List ℕ) (m : Made) (ended : ℕ) (now : List ℕ) (r : ℕ) : Type 0 where
  pub front : take r now ≡ pick (eqb m.nodes 0) (take ended ends) (take ended ends ++ (m.length ∷ []))
  pub few : r ≤ length ends
  pub long : length now ≡ length ends

-- One begins: nothing is complete or open any more.
pub record Starts (ends : List ℕ) (s : State) (now : List ℕ) (r : State) : Type 0 where
  pub ends_one : EndsOne ends s.made s.ended now r.ended
  pub state : r ≡ record { made = s.made; complete = 0; openers = 0; ended = r.ended }

-- ## All of it

-- Nodes are written in the front of a buffer.
pub record Holds (out : List ℕ) (m : Made) (xs : List Expr) : Type 0 where
  pub front : take m.length out ≡ written encode_node xs
  pub place : m.length ≡ bytes_of xs
  pub many : m.nodes ≡ length xs
  pub low : m.length ≤ 66 * m.nodes
  pub long : length out ≡ 33792

-- What is known between two symbols is in the arrays.
pub record Shown (text : List ℕ) (ts : List Name) (out patterns ends done : List ℕ) (opened : List Opened) (s : State) (st : Stage) : Type 0 where
  pub holds : Holds out s.made st.nodes
  pub complete_shown : complete_at done s.complete ≡ st.complete
  pub openers_shown : openers_at text opened s.openers ≡ st.openers
  pub brought_shown : brought_at text opened s.openers ≡ st.brought
  pub known_shown : Tells patterns ts st.known
  pub ends_shown : take s.ended ends ≡ st.ends
  pub tall : s.complete ≤ s.made.nodes
  pub few_ends : s.ended ≤ length ends
  pub long_ends : length ends ≡ 512
  pub long_done : length done ≡ 512
  pub long_opened : length opened ≡ 512

-- The tables whose patterns are brought are among these.
abbrev pub Brought : List Name → List (Option Name) → Type 0
Brought ts [] = Unit
Brought ts (none ∷ ms) = Brought ts ms
Brought ts (some t ∷ ms) = (member t ts ≡ true) × Brought ts ms

-- There is enough complete and open for a symbol, and room for what it adds.
abbrev pub Apt : List Name → Symbol → State → Type 0
Apt ts (named n) s = (s.ended < 512) × (s.made.nodes ≤ 512)
Apt ts (stands l) s = (all (λ b. b) (short l) ≡ true) × (s.made.nodes + leaf_count l ≤ 512)
Apt ts (enters o) s = Tabled ts o × (s.openers < 512)
Apt ts leaves s = (1 ≤ s.complete) × (1 ≤ s.openers) × (s.openers ≤ 512) × (s.made.nodes < 512)
Apt ts (front p) s = (1 ≤ s.complete) × (s.made.nodes + prefix_count p ≤ 512)
Apt ts (back q) s = (1 ≤ s.complete) × (s.made.nodes + suffix_count q ≤ 512)
Apt ts (joins b) s = (2 ≤ s.complete) × (s.made.nodes < 512)

-- What a symbol does, by what the slices tell of names.
abbrev pub after_by : (text heads roots tables switches : List ℕ) → Symbol → Stage → Stage
after_by text heads roots tables switches = after (production_by text heads roots) (place_by text tables) (place_by text switches)
