-- THE IMAGE SYMBOL BY SYMBOL: what is known between two symbols of a walk, and what a symbol does to it. `StageLaws` has that behind a reading's symbols it is what
-- `compile` says.
use Rattle.std.specs.Prelude.{ℕ, ◌+◌, ◌-◌, List, [], ◌∷◌, ◌++◌, eqb, length, drop}
use Rattle.std.proofs.Math.Option.{Option, none}
use Rattle.format.specs.Reading.{pick}
use Rattle.format.specs.Written.{written, encode_node}
use Rattle.grammar.specs.Expr.{Expr}
use Rattle.notation.specs.Tree.{Name, Opener}
use Rattle.notation.specs.Stream.{Symbol, named, stands, enters, leaves, front, back, joins}
use Rattle.notation.specs.Compile.{leaf_nodes, prefix_nodes, suffix_nodes, binary_node, operator_node}
use Rattle.notation.specs.Patterns.{Known, begun, ends_at, brings, note, nothing_known}

pub record Stage : Type 0 where
  -- the nodes so far
  pub nodes : List Expr
  -- the nodes of what is complete, the latest first
  pub complete : List ℕ
  -- the operators in angle brackets that are open, the latest first, and for each the table whose pattern it brings
  pub openers : List Opener
  pub brought : List (Option Name)
  -- what is known of the tables
  pub known : Name → Known
  -- the bytes of the nodes up to the end of each production that has ended
  pub ends : List ℕ

abbrev pub nothing_made : Stage
nothing_made = record { nodes = []; complete = []; openers = []; brought = []; known = nothing_known; ends = [] }

abbrev pub latest : List ℕ → ℕ
latest [] = 0
latest (a ∷ rs) = a

abbrev pub bringing : List (Option Name) → Option Name
bringing [] = none
bringing (m ∷ ms) = m

-- How many bytes nodes take.
abbrev pub bytes_of : List Expr → ℕ
bytes_of xs = length (written encode_node xs)

-- A production ends behind these nodes, unless none was begun.
abbrev pub ended_by : List Expr → List ℕ → List ℕ
ended_by xs es = pick (eqb (length xs) 0) es (es ++ (bytes_of xs ∷ []))

-- Nodes that are added to others: the last of them is complete, over these.
abbrev pub over : List Expr → (new : List Expr) → List ℕ → List ℕ
over xs new below = (length xs + length new - 1) ∷ below

-- ## What a symbol leaves as it was, and what not

unfoldable pub openers_after : Symbol → Stage → List Opener
openers_after (named n) st = []
openers_after (stands l) st = st.openers
openers_after (enters o) st = o ∷ st.openers
openers_after leaves st = drop 1 st.openers
openers_after (front p) st = st.openers
openers_after (back s) st = st.openers
openers_after (joins b) st = st.openers

unfoldable pub brought_after : Symbol → Stage → List (Option Name)
brought_after (named n) st = []
brought_after (stands l) st = st.brought
brought_after (enters o) st = brings o st.known ∷ st.brought
brought_after leaves st = drop 1 st.brought
brought_after (front p) st = st.brought
brought_after (back s) st = st.brought
brought_after (joins b) st = st.brought

unfoldable pub known_after : Symbol → Stage → Name → Known
known_after (named n) st = st.known
known_after (stands l) st = st.known
known_after (enters o) st = note (brings o st.known) begun st.known
known_after leaves st = note (bringing st.brought) (ends_at (length st.nodes - 1)) st.known
known_after (front p) st = st.known
known_after (back s) st = st.known
known_after (joins b) st = st.known

unfoldable pub ends_after : Symbol → Stage → List ℕ
ends_after (named n) st = ended_by st.nodes st.ends
ends_after (stands l) st = st.ends
ends_after (enters o) st = st.ends
ends_after leaves st = st.ends
ends_after (front p) st = st.ends
ends_after (back s) st = st.ends
ends_after (joins b) st = st.ends

-- ## The nodes that it adds

module _ (production table condition : Name → ℕ) where
  abbrev pub closing : List Opener → (a : ℕ) → List Expr
  closing [] a = []
  closing (o ∷ os) a = operator_node production table condition o a ∷ []

  unfoldable pub new_nodes : Symbol → Stage → List Expr
  new_nodes (named n) st = []
  new_nodes (stands l) st = leaf_nodes production table condition (length st.nodes) l
  new_nodes (enters o) st = []
  new_nodes leaves st = closing st.openers (latest st.complete)
  new_nodes (front p) st = prefix_nodes p (latest st.complete) (length st.nodes)
  new_nodes (back s) st = suffix_nodes s (latest st.complete) (length st.nodes)
  new_nodes (joins b) st = binary_node b (latest (drop 1 st.complete)) (latest st.complete) ∷ []

  -- What is complete behind it.
  unfoldable pub complete_after : Symbol → Stage → List ℕ
  complete_after (named n) st = []
  complete_after (stands l) st = over st.nodes (new_nodes (stands l) st) st.complete
  complete_after (enters o) st = st.complete
  complete_after leaves st = over st.nodes (new_nodes leaves st) (drop 1 st.complete)
  complete_after (front p) st = over st.nodes (new_nodes (front p) st) (drop 1 st.complete)
  complete_after (back s) st = over st.nodes (new_nodes (back s) st) (drop 1 st.complete)
  complete_after (joins b) st = over st.nodes (new_nodes (joins b) st) (drop 2 st.complete)

  unfoldable pub after : Symbol → Stage → Stage
  after x st = record {
    nodes = st.nodes ++ new_nodes x st;
    complete = complete_after x st;
    openers = openers_after x st;
    brought = brought_after x st;
    known = known_after x st;
    ends = ends_after x st;
  }

  unfoldable pub run : List Symbol → Stage → Stage
  run [] st = st
  run (x ∷ ss) st = run ss (after x st)
