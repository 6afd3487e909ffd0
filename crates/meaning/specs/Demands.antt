-- The demands, stated over derivations. Of `recognise` they are proved in proofs/Demands.antt.
use Rattle.std.specs.Prelude.{ℕ, ◌*◌, ◌≤◌, ◌<◌, ◌≡◌, refl, Bool, true, false, ◌↔◌, List, [], leb, length}
use Rattle.std.proofs.Common.{arith}
use borrow.Author.Tests.{le-leb, leb-true, le-ltb, lt-ltb}
use Rattle.grammar.specs.Grammar.{Grammar, node}
use Rattle.format.specs.Image.{good, refused, read_image}
use Rattle.meaning.specs.State.{State, outset}
use Rattle.meaning.specs.Outcome.{Outcome, pass, fail, ◌and◌}
use Rattle.meaning.specs.Cost.{Cost}
use Rattle.meaning.specs.Rules.{Derives}
use Rattle.meaning.specs.Limits.{Within}
use Rattle.meaning.specs.Cut.{Cut}
use Rattle.meaning.specs.Kept.{kept}
use Rattle.meaning.specs.Steps.{used, spent}
use Rattle.meaning.specs.Recognise.{Answer, Called, answer_of, filled, slots_after, refusal, from_start, between, allowed, recognise}

-- "Limits: steps B 1 to 1,000,000; depth D 1 to 256; room R 0 to 256."
pub record Ranges (B D R : ℕ) : Type 0 where
  pub some_steps : 1 ≤ B
  pub few_steps : B ≤ 1000000
  pub some_depth : 1 ≤ D
  pub small_depth : D ≤ 256
  pub small_room : R ≤ 256

-- "Once the entry checks (1 to 11) pass": the image is g's, and input, limits and slots are within their ranges.
pub record Entered (image : List ℕ) (g : Grammar) (input : List ℕ) (B D R : ℕ) (slots : List ℕ) : Type 0 where
  pub image_good : read_image image ≡ good g
  pub input_short : length input ≤ 65535
  pub ranges : Ranges B D R
  pub slots_enough : 3 * R ≤ length slots

-- The derivations that the demands speak of: from the start node, at place 0, every condition true, no symbol held.
abbrev pub Recognises : Grammar → List ℕ → Outcome → Cost → Type 0
Recognises g x o c = Derives g x outset (node g g.start) 0 [] o c

module _ (g : Grammar) (x : List ℕ) (B D R : ℕ) where
  -- A derivation of "accepted n" within the limits, of "failed", and any at all.
  abbrev pub Accepts : ℕ → Type 0
  Accepts n = (τ : State) × (c : Cost) × Recognises g x (pass n τ) c × Within c D B R

  abbrev pub Fails : Type 0
  Fails = (c : Cost) × Recognises g x fail c × Within c D B R

  abbrev pub Derivable : Type 0
  Derivable = (o : Outcome) × (c : Cost) × Recognises g x o c × Within c D B R

  -- A run that is cut short, with its number, place and cost.
  abbrev pub Stops : (number place : ℕ) → Cost → Type 0
  Stops = Cut g x R D B outset (node g g.start) 0 []

  -- DEMAND 2, of an answer. Accepted n, or failed, exactly if the rules have a derivation of that within the limits; refused 12 to 15
  -- exactly if there is none, and then as the run that is cut short says; the count is the derivation's own steps, also where it is cut short.
  -- (That there is at most one derivation is `unique` in Unique.antt.)
  pub record Demand2 (a : Answer) : Type 0 where
    pub accepts : (n : ℕ) → ((a.kind ≡ 0) × (a.consumed ≡ n)) ↔ Accepts n
    pub fails : (a.kind ≡ 99) ↔ Fails
    pub refuses : ((12 ≤ a.kind) × (a.kind ≤ 15)) ↔ ¬ Derivable
    pub stops : (n s : ℕ) (c : Cost) (K : Stops n s c) → (a.kind ≡ n) × (a.place ≡ s) × (a.steps ≡ spent g x K) × (a.depth ≡ c.depth)
    pub counts : (o : Outcome) (c : Cost) (E : Recognises g x o c) → Within c D B R → a.steps ≡ used g x E

  -- DEMAND 3, of the slots before and after. The symbols left in them are the definitions that remain of the derivation.
  pub record Demand3 (a : Answer) (before after : List ℕ) : Type 0 where
    pub symbols : (n : ℕ) (τ : State) (c : Cost) (E : Recognises g x (pass n τ) c) → Within c D B R
        → (a.symbols ≡ length (kept g x E)) × (after ≡ filled R (kept g x E) before)

  -- Every field and every slot of a call, by the derivation or by the run that is cut short. "Accepted: place 0. Failed: consumed, symbols
  -- and place 0. Refusals 12 to 15: consumed and symbols 0, steps and depth as far as charged."
  pub record Fixed (before : List ℕ) (k : Called) : Type 0 where
    pub accepted : (n : ℕ) (τ : State) (c : Cost) (E : Recognises g x (pass n τ) c) → Within c D B R → k ≡ record {
      answer = record {
        kind = 0;
        consumed = n;
        steps = used g x E;
        depth = c.depth;
        symbols = length (kept g x E);
        place = 0;
      };
      slots = filled R (kept g x E) before;
    }
    pub failed : (c : Cost) (E : Recognises g x fail c) → Within c D B R → k ≡ record {
      answer = record { kind = 99; consumed = 0; steps = used g x E; depth = c.depth; symbols = 0; place = 0 };
      slots = filled R [] before;
    }
    pub cut_short : (n s : ℕ) (c : Cost) (K : Stops n s c) → k ≡ record {
      answer = record { kind = n; consumed = 0; steps = spent g x K; depth = c.depth; symbols = 0; place = s };
      slots = filled R [] before;
    }

-- ## The limits, and the entry checks but 10

both : (a b : Bool) → (a and b) ≡ true → (a ≡ true) × (b ≡ true)
both true b e = (refl, e)
both false b e = let z : ◌≡◌ {A = ℕ} 0 1 = cc in absurd (omega arith)

all : {a b : Bool} → a ≡ true → b ≡ true → (a and b) ≡ true
all e f = rw (e, f)

-- The test of the limits is their ranges.
pub in_range_lem : {B D R : ℕ} → Ranges B D R → allowed B D R ≡ true
in_range_lem {B} {D} {R} h =
    all (all (le-leb 1 B h.some_steps) (le-leb B _ (omega (arith, h.few_steps))))
    (all (all (le-leb 1 D h.some_depth) (le-leb D _ (omega (arith, h.small_depth))))
    (all (le-leb 0 R (omega arith)) (le-leb R _ (omega (arith, h.small_room)))))

pub of_range : {B D R : ℕ} → allowed B D R ≡ true → Ranges B D R
of_range {B} {D} {R} h =
    let s = both (between 1 1000000 B) (between 1 256 D and between 0 256 R) h in
    let t = both (between 1 256 D) (between 0 256 R) s.1 in
    let b = both (leb 1 B) (leb B 1000000) s.0 in
    let d = both (leb 1 D) (leb D 256) t.0 in
    let r = both (leb 0 R) (leb R 256) t.1 in
    record {
      some_steps = leb-true 1 B b.0;
      few_steps = leb-true B 1000000 b.1;
      some_depth = leb-true 1 D d.0;
      small_depth = leb-true D 256 d.1;
      small_room = leb-true R 256 r.1;
    }

module _ {image : List ℕ} {g : Grammar} {x : List ℕ} {B D R : ℕ} {slots : List ℕ} (E : Entered image g x B D R slots) where
  -- Once the entry checks pass, the answer and the slots are the run's.
  pub runs :
      recognise image x B D R slots ≡ record { answer = answer_of (from_start g x B D R); slots = slots_after R (from_start g x B D R) slots }
  unfolding recognise
  runs = rw E.image_good (rw (le-ltb 65535 (length x) E.input_short, in_range_lem E.ranges, le-ltb (length slots) (3 * R) E.slots_enough))

-- 1 to 8: the image's own fault, whatever input, limits and slots are.
pub image_refused :
    (image x : List ℕ) (B D R : ℕ) (slots : List ℕ) (n place : ℕ) → read_image image ≡ refused n place
    → recognise image x B D R slots ≡ refusal n place slots
unfolding recognise
image_refused image x B D R slots n place e = rw e

module _ (image : List ℕ) (g : Grammar) (x : List ℕ) (B D R : ℕ) (slots : List ℕ) (e : read_image image ≡ good g) where
  -- 9: the input, whatever limits and slots are.
  pub input_refused : 65535 < length x → recognise image x B D R slots ≡ refusal 9 0 slots
  unfolding recognise
  input_refused h = rw e (rw (lt-ltb 65535 (length x) h))

  -- 11: the slots.
  pub slots_refused : length x ≤ 65535 → Ranges B D R → length slots < 3 * R → recognise image x B D R slots ≡ refusal 11 0 slots
  unfolding recognise
  slots_refused h f l = rw e (rw (le-ltb 65535 (length x) h, in_range_lem f, lt-ltb (length slots) (3 * R) l))
