-- What the walk over an image puts down: an array of 524 numbers, a word for each node at the node's number, and each table's
-- pattern at 512 plus the table's number. The four numbers behind those are left as they are: a caller keeps its limits and
-- the image's length there.
use Rattle.std.specs.Prelude.{ℕ, zero, suc, ◌+◌, ◌<◌, ◌≡◌, List, ltb, length, get_or, set, Result}
use Rattle.grammar.specs.Grammar.{Grammar, tables, size, node, pattern}
use Rattle.reader.specs.declared.reader.Reader.{Reader}
use Rattle.reader.specs.declared.refusal.Refusal.{Refusal}
use Rattle.image.specs.declared.head.Head as code
use Rattle.format.specs.Reading.{Reading, got, fault, pick, ◌then◌}
use Rattle.format.specs.Image.{times, Head, bounded, head_at, patterns_at, good, read_image}
use Rattle.image.specs.Word.{word_at}
use Rattle.image.specs.Node.{node_of, expr_of, InImage}
use Rattle.reader.specs.Meant.{told, behind}
use Rattle.image.specs.Meant.{answered, loaded}

-- What was read goes on to more; a fault leaves what there is.
abbrev pub unless : {A : Type 0} → Reading A → List ℕ → (A → ℕ → List ℕ) → List ℕ
unless (got x next) l more = more x next
unless (fault number place) l more = l

-- The array after k readings from the i-th on: each number is put down at `to` plus its own number, up to the first fault.
abbrev pub filling : (p : ℕ → ℕ → Reading ℕ) (to i k at : ℕ) → List ℕ → List ℕ
filling p to i zero at l = l
filling p to i (suc k) at l = unless (p i at) l (λ w next. filling p to (suc i) k next (set l (to + i) w))

-- What is left of readings whose values were put down: the place after them.
abbrev pub put_down : {A : Type 0} → List A → ℕ → Reading (Unit {0})
put_down xs next = got tt next

-- What a loop that puts readings down gives, and what the array then holds. The reader then stands behind them, or where it stood if one was refused,
-- over the same image.
pub record Fills (p : ℕ → ℕ → Reading ℕ) (to k : ℕ) (from after : Reader) (before now : List ℕ) (r : Result (Unit {0}) Refusal) : Type 0 where
  pub result : told r after.at ≡ (times p 0 k from.at then put_down)
  pub stands : after.at ≡ behind (times p 0 k from.at then put_down) from.at
  pub image : after.image ≡ from.image
  pub array : now ≡ filling p to 0 k from.at before

-- The same but for where the reader stands after a refusal.
pub record Puts (p : ℕ → ℕ → Reading ℕ) (to k : ℕ) (from after : Reader) (before now : List ℕ) (r : Result (Unit {0}) Refusal) : Type 0 where
  pub result : told r after.at ≡ (times p 0 k from.at then put_down)
  pub image : after.image ≡ from.image
  pub array : now ≡ filling p to 0 k from.at before

module _ (image : List ℕ) where
  abbrev pub with_patterns : Head → ℕ → List ℕ → List ℕ
  with_patterns h = filling (λ t. bounded image 7 0 h.nodes) 512 0 h.tables

  abbrev pub with_nodes : Head → ℕ → List ℕ → List ℕ
  with_nodes h = filling (word_at image h.tables h.conditions h.nodes) 0 0 h.nodes

  -- The array after the walk, for every image: untouched if the image is too long or its head is faulty; then the patterns,
  -- as far as they can be read; then, if all could, the nodes, as far as they can be read.
  abbrev pub filled : List ℕ → List ℕ
  filled code = pick (ltb 16384 (length image)) code
      (unless (head_at image) code λ h at.
      unless (patterns_at image h at) (with_patterns h at code) λ patterns next.
      with_nodes h next (with_patterns h at code))

-- The walk's promise: what is said of the image; what the array holds, after a refusal too; and, for a good image, at each
-- node's number the node of the grammar, whose bytes lie in the image if it is a Text, and at each table's place its pattern.
pub record Loads (image before after : List ℕ) (r : Result code.Head Refusal) : Type 0 where
  pub answer : loaded r ≡ answered (read_image image)
  pub array : after ≡ filled image before
  pub nodes : (g : Grammar) → read_image image ≡ good g → (n : ℕ) → n < size g → expr_of image (node_of (get_or after n 0)) ≡ node g n
  pub texts : (g : Grammar) → read_image image ≡ good g → (n : ℕ) → n < size g → InImage image (node_of (get_or after n 0))
  pub patterns : (g : Grammar) → read_image image ≡ good g → (t : ℕ) → t < tables g → get_or after (512 + t) 0 ≡ pattern g t
