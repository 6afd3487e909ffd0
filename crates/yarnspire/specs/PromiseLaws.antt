-- How the promises are met: what the definitions say is enough.
use Rattle.std.specs.Prelude.{Result as Returned, Ok, Err, ℕ, ◌+◌, ◌*◌, ◌≤◌, ◌<◌, ◌≡◌, refl, Bool, true, false, not, List, [], ◌++◌, ◌⊎◌, length, take, drop, get_or, set}
use Rattle.std.proofs.Common.{ap, sym, ◌∙◌, subst, inl, inr, arith, length-set, get_or-set_other, get_or-set_same, length-take-le}
use Rattle.grammar.specs.Grammar.{Grammar, node}
use Rattle.grammar.specs.Sound.{Bytes}
use Rattle.format.specs.Image.{Checked, good, refused, read_image}
use Rattle.format.specs.RoundTrip as round
use Rattle.format.proofs.RoundTrip as round_proved
use Rattle.image.specs.Filled.{Loads}
use Rattle.format.specs.Image.{Head as Sizes}
use Rattle.image.specs.Meant.{fine, answered, loaded, checked, verdict}
use Rattle.image.specs.declared.head.Head.{Head}
use Rattle.image.specs.Node.{node_of, expr_of, InImage}
use Rattle.reader.specs.declared.refusal.Refusal.{Refusal}
use Rattle.reader.specs.Meant.{number_of}
use Rattle.meaning.specs.State.{outset}
use Rattle.meaning.specs.Unique.{true≢false}
use Rattle.meaning.proofs.Exact.{exact, cut_exactly, at_most_one}
use Rattle.meaning.specs.Outcome.{pass, fail}
use Rattle.meaning.specs.Cost.{Cost}
use Rattle.meaning.specs.Run.{Result, ran, refused as stopped}
use Rattle.meaning.specs.Forward.{forward, ahead_pass}
use Rattle.meaning.specs.Recognise.{Answer, allowed, answer_of, refusal, slots_after, from_start, recognise}
use Rattle.meaning.specs.Demands as d
use Rattle.meaning.proofs.Demands as d_proved
use Rattle.machine.specs.Ready.{of_checked, grammar_of, step_limit, depth_limit, room_limit, Coded}
use Rattle.yarnspire.specs.declared.answer.Answer as code
use Rattle.yarnspire.specs.declared.answer.Answer.TheVariants.{Refused}
use Rattle.yarnspire.specs.Answer.{numbers, Kind, six_of, refusal_number}
use Rattle.yarnspire.specs.Answer.{number_of as face_number}
use Rattle.yarnspire.specs.RefusalLaws.{fault_range, listed}
use Rattle.yarnspire.specs.declared.answer.Refusal as why
use Rattle.yarnspire.specs.Ended.{Runs, left_by, result_of, Ran}
use Rattle.yarnspire.specs.EndLaws.{left_and_rest}
use Rattle.yarnspire.specs.Promise.{Checks, Answers, Recognised}

-- ## Check

-- A fault that is said is the one that was found.
pub is_faulty : (k : Checked) {r : Returned (Unit {0}) Refusal} {f : Refusal} → r ≡ Err f → checked r ≡ verdict k → k ≡ refused (number_of f.fault) f.place
is_faulty (good g) e h = let z : ◌≡◌ {A = ℕ} 0 1 = cc in absurd (omega arith)
is_faulty (refused n p) {f = f} e h =
    let number : n ≡ number_of f.fault = cc in let place : p ≡ f.place = cc in λ i. refused (number i) (place i)

module _ (image : List ℕ) (bytes : Bytes image) where
  pub checks : {r : Returned (Unit {0}) Refusal} → checked r ≡ verdict (read_image image) → Checks image r
  checks {r} e = record {
    is = e;
    good = (
      (λ h. stands (read_image image) refl (ap checked (sym h) ∙ e)),
      λ h. is_fine r (e ∙ ap verdict ((round_proved.exact image bytes h.0).1 h.1)),
    );
    refused = λ f h. round_proved.refusal image bytes (number_of f.fault) f.place (is_faulty (read_image image) h e);
  }
    where
      stands : (k : Checked) → read_image image ≡ k → fine tt ≡ verdict k → (g : Grammar) × round.Stands image g
      stands (good g) q h = (g, (round_proved.exact image bytes g).0 q)
      stands (refused n p) q h = let z : ◌≡◌ {A = ℕ} 0 1 = cc in absurd (omega arith)

      is_fine : (r : Returned (Unit {0}) Refusal) → checked r ≡ fine tt → r ≡ Ok tt
      is_fine (Ok _) h = refl
      is_fine (Err f) h = let z : ◌≡◌ {A = ℕ} 0 1 = cc in absurd (omega arith)

  -- The place of a fault fits 32 bits.
  pub fault_small : {n p : ℕ} → read_image image ≡ refused n p → p ≤ 16384
  fault_small {n} {p} e = (round_proved.refusal image bytes n p e).small

-- Number 0 is good, and no other.
pub is_good : (r : Returned (Unit {0}) Refusal) → face_number r ≡ 0 → r ≡ Ok tt
is_good (Ok _) e = refl
is_good (Err f) e = absurd (omega (arith, e, (fault_range f.fault).0))

-- ## Recognise

pub permitted : {B D R : ℕ} {ok : Bool} → ok ≡ allowed B D R → not ok ≡ false → d.Ranges B D R
permitted {ok = ok} e h = d.of_range (sym e ∙ go ok h)
  where
    go : (b : Bool) → not b ≡ false → b ≡ true
    go true h = refl
    go false h = absurd (true≢false h)

pub disallowed : {B D R : ℕ} {ok : Bool} → ok ≡ allowed B D R → not ok ≡ true → ¬ (d.Ranges B D R)
disallowed e h r = true≢false (sym h ∙ ap not (e ∙ d.in_range_lem r))

-- What is consumed is a front of the input; what a run comes to is derived or cut short.
inside_start : (g : Grammar) (input : List ℕ) (B D R : ℕ) (r : Result) → from_start g input B D R ≡ r → (answer_of r).consumed ≤ length input
inside_start g input B D R (ran (pass n τ) c) e =
    (ahead_pass (forward g input ((exact g input outset (node g g.start) 0 [] R D B (pass n τ) c).0 e).0 (omega arith))).1
inside_start g input B D R (ran fail c) e = omega arith
inside_start g input B D R (stopped n p c) e = omega arith

ends_start : (g : Grammar) (input : List ℕ) (B D R : ℕ) (r : Result) → from_start g input B D R ≡ r
    → d.Derivable g input B D R ⊎ ((n place : ℕ) × (c : Cost) × d.Stops g input B D R n place c)
ends_start g input B D R (ran o c) e =
    let w = (exact g input outset (node g g.start) 0 [] R D B o c).0 e in inl (o, c, w.0, w.1)
ends_start g input B D R (stopped n p c) e = inr (n, p, c, (cut_exactly g input outset (node g g.start) 0 [] R D B n p c).0 e)

pub answers : {image input : List ℕ} {B D R : ℕ} {before after : List ℕ} {a : Answer} → Bytes image
    → record { answer = a; slots = after } ≡ recognise image input B D R before → Answers image input B D R before after a
answers {image} {input} {B} {D} {R} {before} {after} {a} bytes e = record {
  is = e;
  kind = subst (λ k. Kind k.answer.kind) (sym e) (d_proved.kinds image input B D R before bytes);
  inside = subst (λ k. k.answer.consumed ≤ length input) (sym e) (inside (d_proved.answered image input B D R before bytes));
  entry = entry (d_proved.answered image input B D R before bytes);
  once = λ g. at_most_one g input outset (node g g.start) 0 [];
  ends = λ g. ends_start g input B D R (from_start g input B D R) refl;
  fixed = λ g E. subst (d.Fixed g input B D R before) (sym e) (d_proved.fixed E);
  demand_2 = λ g E. subst (λ k. d.Demand2 g input B D R k.answer) (sym e) (d_proved.demand_2 E);
  demand_3 = λ g E. subst (λ k. d.Demand3 g input B D R k.answer before k.slots) (sym e) (d_proved.demand_3 E);
}
  where
    Said : Type 0
    Said = ((g : Grammar) × d.Entered image g input B D R before)
        ⊎ ((n place : ℕ) × (1 ≤ n) × (n ≤ 11) × (recognise image input B D R before ≡ refusal n place before))

    inside : Said → (recognise image input B D R before).answer.consumed ≤ length input
    inside (inl h) = rw (d.runs h.1) (inside_start h.0 input B D R (from_start h.0 input B D R) refl)
    inside (inr h) = rw h.4 (omega arith)

    entry : Said → ((g : Grammar) × d.Entered image g input B D R before)
        ⊎ ((n place : ℕ) × (1 ≤ n) × (n ≤ 11) × (a ≡ numbers n 0 0 0 0 place) × (after ≡ before))
    entry (inl h) = inl h
    entry (inr h) = let q = e ∙ h.4 in inr (h.0, h.1, h.2, h.3, ap (λ k. k.answer) q, ap (λ k. k.slots) q)

-- The same answer, written down as six numbers.
pub written : {image input : List ℕ} {B D R : ℕ} {before after : List ℕ} {a b : Answer} → b ≡ a
    → Answers image input B D R before after a → Answers image input B D R before after b
written {image} {input} {B} {D} {R} {before} {after} e h = subst (Answers image input B D R before after) (sym e) h

-- A refusal before the run leaves the slots untouched.
pub refuses : {image input : List ℕ} {B D R : ℕ} {slots : List ℕ} {r : code.Answer} (w : why.Refusal) (place : ℕ) → Bytes image → r ≡ Refused w place 0 0
    → recognise image input B D R slots ≡ refusal (refusal_number w) place slots → Recognised image input B D R slots slots r
refuses {slots = slots} {r = r} w place bytes e q = record {
  answers = answers bytes (ap (λ a. record { answer = six_of a; slots = slots }) e ∙ sym q);
  listed = listed r;
}

-- ## What the walk over the image found

pub found_fault :
    (k : Checked) {r : Returned Head Refusal} {f : Refusal} → r ≡ Err f → loaded r ≡ answered k → k ≡ refused (number_of f.fault) f.place
found_fault (good g) e h = let z : ◌≡◌ {A = ℕ} 0 1 = cc in absurd (omega arith)
found_fault (refused n p) {f = f} e h =
    let number : n ≡ number_of f.fault = cc in let place : p ≡ f.place = cc in λ i. refused (number i) (place i)

pub found_good : (k : Checked) {r : Returned Head Refusal} {l : Head} → r ≡ Ok l → loaded r ≡ answered k → (g : Grammar) × (k ≡ good g) × (l.start ≡ g.start)
found_good (good g) {l = l} e h = let same : loaded (Ok l) ≡ answered (good g) = cc in (g, refl, start same)
  where
    start : {h k : Sizes} → fine h ≡ fine k → h.start ≡ k.start
    start {h} {k} e = let same : h ≡ k = cc in ap (λ h. h.start) same
found_good (refused n p) e h = let z : ◌≡◌ {A = ℕ} 0 1 = cc in absurd (omega arith)

pub grammar_is : (image : List ℕ) (g : Grammar) → read_image image ≡ good g → grammar_of image ≡ g
unfolding grammar_of
grammar_is image g e = ap of_checked e

-- ## The run

module _ {image : List ℕ} {g : Grammar} (e : read_image image ≡ good g) (bytes : Bytes image) {before array : List ℕ} {r : Returned Head Refusal} (loads : Loads image before array r)
    (B D R : ℕ) (long : length array ≡ 524) where
  abbrev limited : List ℕ
  limited = set (set (set (set array 520 B) 521 D) 522 R) 523 (length image)

  unlimited : (n : ℕ) → n < 520 → get_or limited n 0 ≡ get_or array n 0
  unlimited n h =
      get_or-set_other (set (set (set array 520 B) 521 D) 522 R) 523 n (length image) 0 (λ z. omega arith)
      ∙ get_or-set_other (set (set array 520 B) 521 D) 522 n R 0 (λ z. omega arith)
      ∙ get_or-set_other (set array 520 B) 521 n D 0 (λ z. omega arith) ∙ get_or-set_other array 520 n B 0 (λ z. omega arith)

  steps_set : step_limit limited ≡ B
  steps_set =
      get_or-set_other (set (set (set array 520 B) 521 D) 522 R) 523 520 (length image) 0 (λ z. omega arith)
      ∙ get_or-set_other (set (set array 520 B) 521 D) 522 520 R 0 (λ z. omega arith)
      ∙ get_or-set_other (set array 520 B) 521 520 D 0 (λ z. omega arith) ∙ get_or-set_same array 520 B 0 (omega arith)

  depth_set : depth_limit limited ≡ D
  depth_set =
      get_or-set_other (set (set (set array 520 B) 521 D) 522 R) 523 521 (length image) 0 (λ z. omega arith)
      ∙ get_or-set_other (set (set array 520 B) 521 D) 522 521 R 0 (λ z. omega arith)
      ∙ get_or-set_same (set array 520 B) 521 D 0 (rw (length-set array 520 B) (omega arith))

  room_set : room_limit limited ≡ R
  room_set =
      get_or-set_other (set (set (set array 520 B) 521 D) 522 R) 523 522 (length image) 0 (λ z. omega arith)
      ∙ get_or-set_same (set (set array 520 B) 521 D) 522 R 0 (rw (length-set (set array 520 B) 521 D, length-set array 520 B) (omega arith))

  count_set : get_or limited 523 0 ≡ length image
  count_set =
      get_or-set_same (set (set (set array 520 B) 521 D) 522 R) 523 (length image) 0
      (rw (length-set (set (set array 520 B) 521 D) 522 R, length-set (set array 520 B) 521 D, length-set array 520 B) (omega arith))

  coded : Coded image limited g
  coded =
      let s = ((round_proved.exact image bytes g).0 e).sound in
      record {
        sound = s;
        nodes = λ n h. ap (λ w. expr_of image (node_of w)) (unlimited n (omega (arith, s.few_nodes))) ∙ loads.nodes g e n h;
        texts = λ n h. subst (λ w. InImage image (node_of w)) (sym (unlimited n (omega (arith, s.few_nodes)))) (loads.texts g e n h);
        patterns = λ t h. unlimited (512 + t) (omega (arith, s.few_tables)) ∙ loads.patterns g e t h;
      }

  module _ {input slots : List ℕ} (E : d.Entered image g input B D R slots) where
    -- The run may be asked for;
    pub run_asks : {start : ℕ} → start ≡ g.start → Bytes input → Runs limited image input (take (R * 3) slots) start
    run_asks h only =
        let q = sym (grammar_is image g e) in
        record {
          counted = count_set;
          small = ((round_proved.exact image bytes g).0 e).short;
          bytes = only;
          coded = subst (Coded image limited) q coded;
          begins = h ∙ ap (λ g. g.start) q;
          short = E.input_short;
          ranges = rw (steps_set, depth_set, room_set) E.ranges;
          lent = rw room_set (length-take-le (R * 3) slots (omega (arith, E.slots_enough)));
        }

    -- and what it gives is the promise.
    pub run_gives : {after : List ℕ} {a : code.Answer} → Ran limited image input after a
        → Recognised image input B D R slots (after ++ drop (R * 3) slots) a
    run_gives {after} {a} left_here =
        let X = from_start g input B D R in
        let is_run : result_of limited image input ≡ X = rw (grammar_is image g e, steps_set, depth_set, room_set) in
        let three : R * 3 ≡ 3 * R = omega arith in
        let left : after ++ drop (R * 3) slots ≡ slots_after R X slots = ap (λ l. l ++ drop (R * 3) slots) (left_here.leaves ∙ ap (λ n. left_by n (result_of limited image input)) room_set ∙ ap (left_by R) is_run)
        ∙ ap (λ n. left_by R X ++ drop n slots) three ∙ left_and_rest R X slots in
        record {
          answers = answers bytes ((λ i. record { answer = (left_here.answers ∙ ap answer_of is_run) i; slots = left i }) ∙ sym (d.runs E));
          listed = listed a;
        }
