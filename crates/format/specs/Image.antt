-- How an image is read, front to back: the grammar that it stands for, or the first fault with its number and place.
-- 01, "The image", and refusals 1 to 8 of its table.
use Rattle.std.specs.Prelude.{ℕ, zero, suc, ◌+◌, Bool, false, List, [], ◌∷◌, leb, ltb, eqb, drop, take, length, get_or}
use Rattle.grammar.specs.Expr.{Expr, Empty, Byte, Range, Any, Text, Sequence, Choice, Star, Not, Call, Def, Match, Is, Isa, Exists, Block, Local, If, On}
use Rattle.grammar.specs.Grammar.{Grammar}
use Rattle.format.specs.Reading.{Reading, got, fault, pick, ◌then◌}
use Rattle.format.specs.Number.{number_at}

-- Whether n is at least `low` and below `stop`.
abbrev pub inside : ℕ → ℕ → ℕ → Bool
inside low stop n = pick (leb low n) (ltb n stop) false

-- k readings from the i-th on, one after the other; each is told its own number.
abbrev pub times : {A : Type 0} → (ℕ → ℕ → Reading A) → (i k at : ℕ) → Reading (List A)
times p i zero at = got [] at
times p i (suc k) at = p i at then λ x at. times p (suc i) k at then λ xs at. got (x ∷ xs) at

-- The numbers that an image begins with, after its edition.
pub record Head : Type 0 where
  pub tables : ℕ
  pub conditions : ℕ
  pub nodes : ℕ
  pub start : ℕ

module _ (image : List ℕ) where
  -- A number of the image that is at least `low` and below `stop`, else the refusal `why`, placed at the number. What is cut
  -- or badly written is 2 or 3 before its range is looked at.
  abbrev pub bounded : (why low stop at : ℕ) → Reading ℕ
  bounded why low stop at = number_at image at then λ n next. pick (inside low stop n) (got n next) (fault why at)

  -- The same for a range that 01 gives by both its ends: "T (0 to 8)".
  abbrev pub within : (why low high at : ℕ) → Reading ℕ
  within why low high = bounded why low (suc high)

  -- The same for a number that 01 wants below another: start, patterns, and operands that name a node, a table or a condition.
  -- Refusal 7.
  abbrev pub below : (stop at : ℕ) → Reading ℕ
  below = bounded 7 0

  -- k raw bytes. An image that ends inside them is cut: refusal 2.
  abbrev pub raw : (k at : ℕ) → Reading (List ℕ)
  raw k at = pick (leb (at + k) (length image)) (got (take k (drop at image)) (at + k)) (fault 2 (length image))

  -- A truth: 0 or 1.
  abbrev pub truth_at : ℕ → Reading ℕ
  truth_at = within 7 0 1

  module _ (T C N own : ℕ) where
    -- The operands of each kind, by its tag: 01's table, line by line. A range's hi is at least its lo: "For a range the fault is
    -- placed at hi when lo is above hi." That a lo over 255 is a fault of lo, and comes first, is our reading (DECISIONS, 1).
    abbrev pub kinds : List (ℕ → Reading Expr)
    kinds =
        (λ at. got Empty at)
        ∷ (λ at. within 7 0 255 at then λ b at. got (Byte b) at)
        ∷ (λ at. within 7 0 255 at then λ lo at. within 7 lo 255 at then λ hi at. got (Range lo hi) at)
        ∷ (λ at. got Any at)
        ∷ (λ at. within 7 1 64 at then λ k at. raw k at then λ bytes at. got (Text bytes) at)
        ∷ (λ at. below own at then λ a at. below own at then λ b at. got (Sequence a b) at)
        ∷ (λ at. below own at then λ a at. below own at then λ b at. got (Choice a b) at)
        ∷ (λ at. below own at then λ a at. got (Star a) at)
        ∷ (λ at. below own at then λ a at. got (Not a) at)
        ∷ (λ at. below N at then λ a at. got (Call a) at)
        ∷ (λ at. below T at then λ t at. got (Def t) at)
        ∷ (λ at. below T at then λ t at. got (Match t) at)
        ∷ (λ at. below T at then λ t at. got (Is t) at)
        ∷ (λ at. below T at then λ t at. got (Isa t) at)
        ∷ (λ at. below T at then λ t at. got (Exists t) at)
        ∷ (λ at. below T at then λ t at. below own at then λ a at. got (Block t a) at)
        ∷ (λ at. below T at then λ t at. below own at then λ a at. got (Local t a) at)
        ∷ (λ at. below C at then λ c at. truth_at at then λ w at. got (If c (eqb w 1)) at)
        ∷ (λ at. below C at then λ c at. truth_at at then λ w at. below own at then λ a at. got (On c (eqb w 1) a) at)
        ∷ []

    -- A node: its tag, 0 to 18 (else refusal 6, placed at the tag), and its operands. Each tag has its line above, so the default that
    -- `get_or` asks for is never reached.
    abbrev pub node_at : ℕ → Reading Expr
    node_at at = within 6 0 18 at then λ tag at. get_or kinds tag (fault 6) at

  -- "In order: edition (1); tables T (0 to 8); conditions C (0 to 8); nodes N (1 to 512); start node".
  abbrev pub head_at : Reading Head
  head_at =
      within 4 1 1 0 then λ edition at.
      within 5 0 8 at then λ tables at.
      within 5 0 8 at then λ conditions at.
      within 5 1 512 at then λ nodes at.
      below nodes at then λ start at.
      got (record { tables = tables; conditions = conditions; nodes = nodes; start = start }) at

  -- "for each table the node of its pattern"
  abbrev pub patterns_at : Head → ℕ → Reading (List ℕ)
  patterns_at h = times (λ t. below h.nodes) 0 h.tables

  -- "then N nodes"
  abbrev pub nodes_at : Head → ℕ → Reading (List Expr)
  nodes_at h = times (node_at h.tables h.conditions h.nodes) 0 h.nodes

  abbrev pub body_at : Head → ℕ → Reading Grammar
  body_at h at =
      patterns_at h at then λ patterns at.
      nodes_at h at then λ nodes at.
      got (record { conditions = h.conditions; start = h.start; patterns = patterns; nodes = nodes }) at

-- What is said of an image as a whole.
pub data Checked : Type 0 where
  good : (g : Grammar) → Checked
  refused : (number place : ℕ) → Checked

-- "The image ends there": bytes after the last node are refusal 8, placed at the first of them.
abbrev pub ended : List ℕ → Reading Grammar → Checked
ended image (got g at) = pick (ltb at (length image)) (refused 8 at) (good g)
ended image (fault number place) = refused number place

-- "image over 16,384 bytes, seen before all else": refusal 1, place 0.
abbrev pub read_image : List ℕ → Checked
read_image image = pick (ltb 16384 (length image)) (refused 1 0) (ended image (head_at image then body_at image))
