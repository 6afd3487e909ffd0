-- What the evaluator and the members of its cycle ask and give.
use Rattle.std.specs.Prelude.{ℕ, ◌+◌, ◌-◌, ◌*◌, ◌≤◌, ◌<◌, ◌≡◌, length, take, get_or}
use mathlib.Core.List.{List, [], Memᴰ}
use Rattle.grammar.specs.Expr.{Expr}
use Rattle.grammar.specs.Grammar.{Grammar, tables, size, node, pattern}
use Rattle.grammar.specs.Sound.{Sound, Bytes}
use Rattle.format.specs.Image.{Checked, good, refused, read_image}
use Rattle.image.specs.Node.{node_of, expr_of, InImage}
use Rattle.meaning.specs.State.{Symbol, State as Symbols}
use Rattle.meaning.specs.Outcome.{pass, fail}
use Rattle.meaning.specs.Inside.{Part}
use Rattle.parts.specs.declared.outcome.Outcome.{Outcome}
use Rattle.parts.specs.declared.outcome.Outcome.TheVariants.{Passed, Failed, Refused}
use Rattle.kinds.specs.declared.state.State.{State}
use Rattle.parts.specs.declared.outcome.Packed.{Packed}
use Rattle.parts.specs.Packed.{number_of, at_of, held_of, steps_of, depth_of, opened_of}
use Rattle.parts.specs.Slots.{symbols, Below}
use Rattle.kinds.specs.Held.{env_of}
use Rattle.machine.specs.declared.evaluate.Machine.{Machine}
use Rattle.machine.specs.Told.{Told, came, stopped, tells, rounding}

-- The grammar that an image stands for; where it stands for none, one without nodes.
abbrev pub of_checked : Checked → Grammar
of_checked (good g) = g
of_checked (refused n p) = record { conditions = 0; start = 0; patterns = []; nodes = [] }

unfoldable pub grammar_of : (image : List ℕ) → Grammar
grammar_of image = of_checked (read_image image)

-- The limits stand behind the nodes and patterns: steps, depth, room.
abbrev pub step_limit : (code : List ℕ) → ℕ
step_limit code = get_or code 520 0

abbrev pub depth_limit : (code : List ℕ) → ℕ
depth_limit code = get_or code 521 0

abbrev pub room_limit : (code : List ℕ) → ℕ
room_limit code = get_or code 522 0

-- The image reaches the evaluator at the front of an array of a fixed length. How many of its bytes are the image stands behind the limits; no code
-- reads that number, but what is promised is said of the image.
unfoldable pub image_of : (code bytes : List ℕ) → List ℕ
image_of code bytes = take (get_or code 523 0) bytes

-- The array holds the nodes and patterns of a sound grammar.
pub record Coded (image code : List ℕ) (g : Grammar) : Type 0 where
  pub sound : Sound g
  pub nodes : (n : ℕ) → n < size g → expr_of image (node_of (get_or code n 0)) ≡ node g n
  pub texts : (n : ℕ) → n < size g → InImage image (node_of (get_or code n 0))
  pub patterns : (t : ℕ) → t < tables g → get_or code (512 + t) 0 ≡ pattern g t

-- Asked: the array holds the grammar, the limits are within their ranges, at least as many slots as they say are lent, the input is bytes and at most
-- 65,535 of them, the place is in the input, the tally is within the limits and the depth it names is at least the depth here, and every held symbol is
-- a part of the input.
pub record Ready (code image input slots : List ℕ) (left at held steps depth : ℕ) : Type 0 where
  pub coded : Coded image code (grammar_of image)
  pub few_steps : step_limit code ≤ 1000000
  pub small_depth : depth_limit code ≤ 256
  pub small_room : room_limit code ≤ 256
  pub lent : room_limit code * 3 ≤ length slots
  pub bytes : Bytes input
  pub short : length input ≤ 65535
  pub place : at ≤ length input
  pub room : held ≤ room_limit code
  pub spent : steps ≤ step_limit code
  pub deep : left ≤ depth_limit code
  pub reached : depth_limit code - left ≤ depth
  pub entered : depth ≤ depth_limit code
  pub parts : (s : Symbol) → Memᴰ s (symbols held slots) → Part (length input) s

-- A node's number.
abbrev pub Node : (image : List ℕ) → ℕ → Type 0
Node image n = n < size (grammar_of image)

-- An outcome, with the symbols that the slots then hold.
abbrev pub read_back : Outcome → (slots : List ℕ) → Told
read_back (Passed a h s d) slots = came (pass a (symbols h slots)) s d
read_back (Failed s d) slots = came fail s d
read_back (Refused n p s d) slots = stopped (number_of n) p s d

-- Given: what is said, and that nothing below the held symbols is written.
pub record Done (held : ℕ) (before after : List ℕ) (r : Packed) (said : Told) : Type 0 where
  pub says : read_back (opened_of r) after ≡ said
  pub frame : Below held before after

-- What is to be said of an expression, and of a Star whose next round is charged.
abbrev pub telling : (code image input : List ℕ) (state : State) (left steps depth : ℕ) → Expr → ℕ → Symbols → Told
telling code image input state left steps depth e p σ =
    tells (grammar_of image) input (step_limit code) (depth_limit code) (room_limit code) left steps depth (env_of state) e p σ

abbrev pub starring : (code image input : List ℕ) (state : State) (left steps depth : ℕ) → ℕ → ℕ → Symbols → Told
starring code image input state left steps depth a p σ =
    rounding (grammar_of image) input (step_limit code) (depth_limit code) (room_limit code) left steps depth (env_of state) a p σ

-- ## With what a run reads, and what an expression starts from in one number

-- A node's number.
abbrev pub Numbered : Machine → ℕ → Type 0
Numbered m n = Node (image_of m.code.now m.image.now) n

-- Asked of what an expression starts from.
abbrev pub Starts : (m : Machine) (slots : List ℕ) (left : ℕ) (from : Packed) → Type 0
Starts m slots left from =
    Ready m.code.now (image_of m.code.now m.image.now) m.input.now slots left (at_of from) (held_of from) (steps_of from) (depth_of from)

-- What is to be said of a node, from a place and symbols;
abbrev pub running : (m : Machine) (state : State) (left steps depth n : ℕ) → ℕ → Symbols → Told
running m state left steps depth n p σ =
    let image = image_of m.code.now m.image.now in
    telling m.code.now image m.input.now state left steps depth (node (grammar_of image) n) p σ

-- the same, from one number and the slots;
abbrev pub saying : (m : Machine) (state : State) (slots : List ℕ) (left : ℕ) (from : Packed) (n : ℕ) → Told
saying m state slots left from n = running m state left (steps_of from) (depth_of from) n (at_of from) (symbols (held_of from) slots)

-- and of a Star's rounds, from one number and the slots.
abbrev pub repeating : (m : Machine) (state : State) (slots : List ℕ) (left : ℕ) (from : Packed) (a : ℕ) → Told
repeating m state slots left from a =
    starring m.code.now (image_of m.code.now m.image.now) m.input.now state left (steps_of from) (depth_of from) a (at_of from) (symbols (held_of from) slots)
