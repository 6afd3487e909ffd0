-- What a run's outcome answers and leaves is what the definition says.
use Rattle.std.specs.Prelude.{ℕ, zero, suc, ◌+◌, ◌-◌, ◌*◌, ◌≤◌, ◌<◌, max, ◌≡◌, List, [], ◌∷◌, ◌++◌, length, drop, get_or, replicate}
use Rattle.std.proofs.Math.Path.{refl, ap, sym, subst}
use Rattle.std.proofs.Common.{◌∙◌, append_assoc, take-suc, length-append, length-take-le, length-drop}
use native.Mathlib.Omega.{arith}
use Rattle.std.proofs.Math.ListN.{take}
use Rattle.std.proofs.Math.Seq.{take_at}
use Rattle.grammar.specs.Grammar.{Grammar, size, node}
use Rattle.meaning.specs.State.{Symbol, State, outset}
use Rattle.meaning.specs.Outcome.{pass, fail}
use Rattle.meaning.specs.Cost.{Cost}
use Rattle.meaning.specs.Run.{Result, ran, refused}
use Rattle.meaning.specs.Recognise.{answer_of, flat, slots_after, from_start}
use Rattle.parts.specs.declared.outcome.Outcome as o
use Rattle.parts.specs.declared.outcome.Outcome.TheVariants as ov
use Rattle.parts.specs.Slots.{symbol_at, symbols}
use Rattle.parts.specs.SlotsLaws.{symbols_length}
use Rattle.parts.specs.declared.outcome.Stop.{Stop}
use Rattle.parts.specs.declared.outcome.Packed.{Packed}
use Rattle.parts.specs.Packed.{number_of as stop_number, at_of, held_of, steps_of, depth_of, opened_of}
use Rattle.kinds.specs.declared.state.State as st
use Rattle.kinds.specs.Held.{env_of}
use Rattle.kinds.specs.Turned.{Bounds}
use Rattle.machine.specs.Told.{Told, carry, tells}
use Rattle.machine.specs.Ready.{image_of, grammar_of, step_limit, depth_limit, room_limit, Ready, Node, read_back, Done, telling}
use Rattle.machine.specs.ReadyLaws.{bounds_of}
use Rattle.machine.specs.StartLaws.{Has, in_one, as_parts}
use Rattle.yarnspire.specs.declared.answer.Answer as face
use Rattle.yarnspire.specs.Answer.{numbers, six_of, Listed}
use Rattle.yarnspire.specs.RefusalLaws.{listed}
use Rattle.yarnspire.specs.Ended.{answer_for, kept_of, Kept, Runs, left_by, Ran}

-- The first h symbols laid flat are the first 3h slot numbers.
flat_append : (σ : State) (s : Symbol) → flat (σ ++ (s ∷ [])) ≡ flat σ ++ (s.table ∷ s.from ∷ s.to ∷ [])
flat_append [] s = refl
flat_append (t ∷ σ) s = ap (λ l. t.table ∷ t.from ∷ t.to ∷ l) (flat_append σ s)

three_more : (n : ℕ) (l : List ℕ) → n + 3 ≤ length l
    → take (suc (suc (suc n))) l ≡ take n l ++ (get_or l n 0 ∷ get_or l (n + 1) 0 ∷ get_or l (n + 2) 0 ∷ [])
three_more n l h =
    let one = take-suc l n 0 (omega arith) in
    let two = take-suc l (suc n) 0 (omega arith) in
    let three = take-suc l (suc (suc n)) 0 (omega arith) in
    let a : suc n ≡ n + 1 = omega arith in
    let b : suc (suc n) ≡ n + 2 = omega arith in
    three ∙ ap (λ f. f ++ (get_or l (suc (suc n)) 0 ∷ [])) (two ∙ ap (λ f. f ++ (get_or l (suc n) 0 ∷ [])) one
    ∙ append_assoc (take n l) (get_or l n 0 ∷ []) (get_or l (suc n) 0 ∷ []))
    ∙ append_assoc (take n l) (get_or l n 0 ∷ get_or l (suc n) 0 ∷ []) (get_or l (suc (suc n)) 0 ∷ [])
    ∙ ap (λ j. take n l ++ (get_or l n 0 ∷ get_or l j 0 ∷ get_or l (suc (suc n)) 0 ∷ [])) a
    ∙ ap (λ j. take n l ++ (get_or l n 0 ∷ get_or l (n + 1) 0 ∷ get_or l j 0 ∷ [])) b

pub flat_symbols : (h : ℕ) (slots : List ℕ) → h * 3 ≤ length slots → flat (symbols h slots) ≡ take (h * 3) slots
unfolding symbols
flat_symbols zero slots l = refl
flat_symbols (suc h) slots l =
    flat_append (symbols h slots) (symbol_at slots h)
    ∙ ap (λ f. f ++ (get_or slots (h * 3) 0 ∷ get_or slots (h * 3 + 1) 0 ∷ get_or slots (h * 3 + 2) 0 ∷ [])) (flat_symbols h slots (omega arith))
    ∙ sym (three_more (h * 3) slots (omega arith)) ∙ ap (λ n. take n slots) more
  where
    more : suc (suc (suc (h * 3))) ≡ suc h * 3
    more = omega arith

-- Slots that got the first n numbers of a store, and zeros from there on.
module _ (n : ℕ) (store slots : List ℕ) (h : n ≤ length store) (l : n ≤ length slots) {mid : List ℕ} (e : mid ≡ take n store ++ drop n slots) where
  pub filled_long : length mid ≡ length slots
  filled_long =
      ap length e ∙ length-append (take n store) (drop n slots)
      ∙ rw (length-take-le n store h, length-drop n slots) (omega arith)

  pub filled_zeros : take n mid ++ replicate (length mid - n) 0 ≡ take n store ++ replicate (length slots - n) 0
  filled_zeros =
      ap (λ k. take n mid ++ replicate (k - n) 0) filled_long
      ∙ ap (λ f. f ++ replicate (length slots - n) 0) (ap (take n) e ∙ take_at (take n store) (drop n slots) n (length-take-le n store h))

-- The first 3R slots, and then those that were not lent, are the slots after the call.
pub left_and_rest : (R : ℕ) (r : Result) (slots : List ℕ) → left_by R r ++ drop (3 * R) slots ≡ slots_after R r slots
left_and_rest R (ran (pass n τ) c) slots = append_assoc (flat τ) (replicate (3 * R - 3 * length τ) 0) (drop (3 * R) slots)
left_and_rest R (ran fail c) slots = let z : 3 * R ≡ 3 * R - 0 = omega arith in ap (λ k. replicate k 0 ++ drop (3 * R) slots) z
left_and_rest R (refused n p c) slots = let z : 3 * R ≡ 3 * R - 0 = omega arith in ap (λ k. replicate k 0 ++ drop (3 * R) slots) z

-- The symbols stand in a store, and are handed over to as many slots as the room allows.
module _ (g : Grammar) (x : List ℕ) (B D R long : ℕ) (slots : List ℕ) (lent : long ≡ R * 3) (out : o.Outcome)
    (fits : kept_of out ≤ length slots)
    (says : read_back out slots ≡ tells g x B D R D 0 0 outset (node g g.start) 0 []) where
  abbrev X : Result
  X = from_start g x B D R

  -- With nothing spent before, the tally is the cost.
  from_start_lem : read_back out slots ≡ carry 0 0 0 X
  unfolding tells
  from_start_lem = let z : D - D ≡ 0 = omega arith in let b : B - 0 ≡ B = omega arith in rw (z, b) at says

  -- An outcome and what the run came to.
  data Ends : o.Outcome → Result → Type 0 where
    passing : {n n' h s d : ℕ} {τ : State} {c : Cost} → n ≡ n' → symbols h slots ≡ τ → s ≡ c.steps → d ≡ c.depth
        → Ends (ov.Passed n h s d) (ran (pass n' τ) c)
    failing : {s d : ℕ} {c : Cost} → s ≡ c.steps → d ≡ c.depth → Ends (ov.Failed s d) (ran fail c)
    stopping : {k : Stop} {k' p p' s d : ℕ} {c : Cost} → stop_number k ≡ k' → p ≡ p' → s ≡ c.steps → d ≡ c.depth → Ends (ov.Refused k p s d) (refused k' p' c)

  ends : (out : o.Outcome) (r : Result) → read_back out slots ≡ carry 0 0 0 r → Ends out r
  ends (ov.Passed n h s d) (ran (pass n' τ) c) e = let es : s ≡ 0 + c.steps = cc in let ed : d ≡ max 0 (0 + c.depth) = cc in let en : n ≡ n' = cc in let eτ : symbols h slots ≡ τ = cc in let fs : s ≡ c.steps = omega arith in let fd : d ≡ c.depth = omega arith in passing en eτ fs fd
  ends (ov.Passed n h s d) (ran fail c) e = let z : ◌≡◌ {A = ℕ} 0 1 = cc in absurd (omega arith)
  ends (ov.Passed n h s d) (refused k p c) e = let z : ◌≡◌ {A = ℕ} 0 1 = cc in absurd (omega arith)
  ends (ov.Failed s d) (ran (pass n τ) c) e = let z : ◌≡◌ {A = ℕ} 0 1 = cc in absurd (omega arith)
  ends (ov.Failed s d) (ran fail c) e = let es : s ≡ 0 + c.steps = cc in let ed : d ≡ max 0 (0 + c.depth) = cc in let fs : s ≡ c.steps = omega arith in let fd : d ≡ c.depth = omega arith in failing fs fd
  ends (ov.Failed s d) (refused k p c) e = let z : ◌≡◌ {A = ℕ} 0 1 = cc in absurd (omega arith)
  ends (ov.Refused k p s d) (ran (pass n τ) c) e = let z : ◌≡◌ {A = ℕ} 0 1 = cc in absurd (omega arith)
  ends (ov.Refused k p s d) (ran fail c) e = let z : ◌≡◌ {A = ℕ} 0 1 = cc in absurd (omega arith)
  ends (ov.Refused k p s d) (refused k' p' c) e = let es : s ≡ 0 + c.steps = cc in let ed : d ≡ max 0 (0 + c.depth) = cc in let ek : stop_number k ≡ k' = cc in let ep : p ≡ p' = cc in let fs : s ≡ c.steps = omega arith in let fd : d ≡ c.depth = omega arith in stopping ek ep fs fd

  ended : Ends out X
  ended = ends out X from_start_lem

  numbers_as : {k k' n n' s s' d d' h h' p p' : ℕ} → k ≡ k' → n ≡ n' → s ≡ s' → d ≡ d' → h ≡ h' → p ≡ p'
      → numbers k n s d h p ≡ numbers k' n' s' d' h' p'
  numbers_as a b c d e f = λ i. numbers (a i) (b i) (c i) (d i) (e i) (f i)

  pub ends_six : six_of (answer_for out) ≡ answer_of X
  ends_six = go ended
    where
      go : {w : o.Outcome} {r : Result} → Ends w r → six_of (answer_for w) ≡ answer_of r
      go (passing {h = h} a b e f) = numbers_as refl a e f (sym (symbols_length h slots) ∙ ap length b) refl
      go (failing e f) = numbers_as refl refl e f refl refl
      go (stopping a b e f) = numbers_as a refl e f refl b

  -- What is kept and the zeros behind it.
  pub ends_left : take (kept_of out) slots ++ replicate (long - kept_of out) 0 ≡ left_by R X
  ends_left = go ended fits
    where
      none : take 0 slots ++ replicate (long - 0) 0 ≡ replicate (3 * R) 0
      none = let z : long - 0 ≡ 3 * R = omega (arith, lent) in ap (λ k. replicate k 0) z

      go : {w : o.Outcome} {r : Result} → Ends w r → kept_of w ≤ length slots → take (kept_of w) slots ++ replicate (long - kept_of w) 0 ≡ left_by R r
      go (passing {h = h} {τ = τ} a b e f) l =
          let z : long - h * 3 ≡ 3 * R - 3 * length τ = omega (arith, lent, sym (symbols_length h slots) ∙ ap length b) in
          ap (λ t. t ++ replicate (long - h * 3) 0) (sym (flat_symbols h slots l) ∙ ap flat b) ∙ ap (λ k. flat τ ++ replicate k 0) z
      go (failing e f) l = none
      go (stopping a b e f) l = none

  pub ends_listed : Listed (answer_for out)
  ends_listed = listed (answer_for out)

-- ## The run from the start

module _ {code image input slots : List ℕ} {start : ℕ} (runs : Runs code image input slots start) (store : List ℕ) (roomy : length store ≡ 768) where
  abbrev g : Grammar
  g = grammar_of image

  -- It may be asked for: nothing is spent and nothing is held.
  start_ready : Ready code image input store (depth_limit code) 0 0 0 0
  unfolding symbols
  start_ready = record {
    coded = runs.coded;
    few_steps = runs.ranges.few_steps;
    small_depth = runs.ranges.small_depth;
    small_room = runs.ranges.small_room;
    lent = omega (arith, roomy, runs.ranges.small_room);
    bytes = runs.bytes;
    short = runs.short;
    place = omega arith;
    room = omega arith;
    spent = omega arith;
    deep = omega arith;
    reached = omega arith;
    entered = omega arith;
    parts = λ s m. elim m [ ];
  }

  start_numbered : Node image start
  start_numbered = subst (λ n. n < size g) (sym runs.begins) runs.coded.sound.start_named

  -- What it starts from has nothing in any part.
  module _ {from : Packed} (empty : Has from 0 0 0 0) (bytes : List ℕ) (held : bytes ≡ image ++ drop (length image) (replicate 16384 0)) where
    -- The image is the front of the bytes that are lent.
    lent_image : image_of code bytes ≡ image
    unfolding image_of
    lent_image =
        ap (λ n. take n bytes) runs.counted ∙ ap (take (length image)) held
        ∙ take_at image (drop (length image) (replicate 16384 0)) (length image) refl

    pub start_asks : Ready code (image_of code bytes) input store (depth_limit code) (at_of from) (held_of from) (steps_of from) (depth_of from)
        × Node (image_of code bytes) start × (steps_of from < step_limit code) × (1 ≤ depth_limit code)
    start_asks =
        let q = sym lent_image in (
          in_one empty (subst (λ i. Ready code i input store (depth_limit code) 0 0 0 0) q start_ready),
          subst (λ i. Node i start) q start_numbered,
          omega (arith, empty.spent, runs.ranges.some_steps),
          runs.ranges.some_depth,
        )

    abbrev said_at : (state : st.State) (steps depth at : ℕ) (σ : State) → Told
    said_at state s d p σ =
        telling code (image_of code bytes) input state (depth_limit code) s d (node (grammar_of (image_of code bytes)) start) p σ

    module _ (state : st.State) (truths : env_of state ≡ outset) {after : List ℕ} {r : Packed}
        (ends : Done (held_of from) store after r (said_at state (steps_of from) (depth_of from) (at_of from) (symbols (held_of from) store))) where
      done : Done 0 store after r (telling code image input state (depth_limit code) 0 0 (node g start) 0 (symbols 0 store))
      done =
          subst (λ i. Done 0 store after r (telling code i input state (depth_limit code) 0 0 (node (grammar_of i) start) 0 (symbols 0 store))) lent_image
          (as_parts empty (λ p h s d. said_at state s d p (symbols h store)) ends)

      bounded : Bounds (length input) 0 0 (room_limit code) (opened_of r)
      bounded = bounds_of state (node g start) start_ready done

      pub start_kept : Kept (length slots) (opened_of r)
      start_kept = go (opened_of r) bounded
        where
          go : (w : o.Outcome) → Bounds (length input) 0 0 (room_limit code) w → Kept (length slots) w
          go (ov.Passed a h s d) b = (omega (arith, b.3, runs.ranges.small_room), omega (arith, b.3, runs.lent))
          go (ov.Failed s d) b = tt
          go (ov.Refused n p s d) b = tt

      kept_fits : kept_of (opened_of r) ≤ length after
      kept_fits = go (opened_of r) start_kept
        where
          go : (w : o.Outcome) → Kept (length slots) w → kept_of w ≤ length after
          go (ov.Passed a h s d) b = omega (arith, b.0, done.frame.long, roomy)
          go (ov.Failed s d) b = omega arith
          go (ov.Refused n p s d) b = omega arith

      says : read_back (opened_of r) after ≡ tells g input (step_limit code) (depth_limit code) (room_limit code) (depth_limit code) 0 0 outset (node g g.start) 0 []
      unfolding symbols
      says =
          done.says
          ∙ ap (λ v. tells g input (step_limit code) (depth_limit code) (room_limit code) (depth_limit code) 0 0 v (node g start) 0 []) truths
          ∙ ap (λ n. tells g input (step_limit code) (depth_limit code) (room_limit code) (depth_limit code) 0 0 outset (node g n) 0 []) runs.begins

      -- What it answers and leaves.
      pub start_ends : {a : face.Answer} {end : List ℕ} → a ≡ answer_for (opened_of r)
          → end ≡ take (kept_of (opened_of r)) after ++ replicate (length slots - kept_of (opened_of r)) 0 → Ran code image input end a
      start_ends e f = record {
        answers = ap six_of e ∙ ends_six g input (step_limit code) (depth_limit code) (room_limit code) (length slots) after runs.lent (opened_of r) kept_fits says;
        leaves = f ∙ ends_left g input (step_limit code) (depth_limit code) (room_limit code) (length slots) after runs.lent (opened_of r) kept_fits says;
      }
