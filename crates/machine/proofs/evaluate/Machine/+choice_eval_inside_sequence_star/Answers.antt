-- What the members of the evaluator's cycle need of those that they call, and what they give. Assumes nothing.
use Rattle.std.proofs.Common.{ℕ, ◌+◌, ◌-◌, ◌*◌, sym, ◌∙◌, subst, ap, ap₂, ◌≡◌, refl, arith, length, drop, take, get_or, List}
use Rattle.std.specs.Prelude.{ltb, Option, None, Some, is_some, not, false}
use Rattle.std.specs.Bool.{beq}
use Rattle.grammar.specs.Grammar.{node}
use Rattle.parts.specs.declared.outcome.Packed.{Packed}
use Rattle.parts.specs.Packed.{at_of, held_of, steps_of, depth_of}
use Rattle.parts.specs.declared.outcome.Outcome.{Outcome}
use Rattle.parts.specs.declared.outcome.Outcome.TheVariants.{Passed}
use Rattle.parts.specs.PackedLaws.{opened_parts}
use Rattle.kinds.specs.Turned.{Bounds}
use Rattle.machine.specs.Ready.{image_of, grammar_of, room_limit, running, Done, Starts, saying, starring}
use Rattle.machine.specs.ReadyLaws.{bounds_of, ready_next, ready_back, below_same}
use Rattle.machine.specs.DoneLaws.{then_go, else_go, done_as, done_given, done_passed, done_failed, done_not, done_on, done_named, done_def, done_closed}
use Rattle.parts.specs.Slots.{symbols, symbol_at}
use Rattle.machine.specs.StartLaws.{in_one, as_parts, has_passed_as, has_passed, Has, in_parts, as_one, onward_given, text_lent, text_begins}
use Rattle.tally.specs.declared.Tally.{Tally}
use Rattle.tally.specs.Charged.{later_round}
use Rattle.machine.specs.StarLaws.{Rounds, rounds_from, star_ends, star_spent, star_again}
use Rattle.meaning.specs.Outcome.{same, some, part, text, begins, among}
use Rattle.machine.specs.EntryLaws.{Entry, says_one, below, fits, lower, pattern_numbered, in_image, short_text, in_list, unseen, in_view, any_seen, agrees, says_sequence, says_choice, says_star, says_not, says_call, says_block, says_local, says_on, says_def, says_is_none, says_isa_none, says_is, says_isa, says_empty, says_byte, says_range, says_any, says_text, says_match_none, says_match, says_exists, says_if}
use Rattle.machine.specs.EntryNeeds.{refuses_steps, refuses_depth, tally_fits, range_ends, place_fits, held_lent, text_ends, held_part, seen_held, seen_fits, same_symbol, is_test, plain_bounds, scope_bounds, named_bounds, room_lent, scope_lent}
use Rattle.meaning.specs.State.{visible}
use Rattle.kinds.specs.declared.state.State.{State}
use Rattle.kinds.specs.Held.{env_of}
use Rattle.parts.specs.Seen.{listed}
use Rattle.machine.specs.Told.{and_then, or_else}
use Rattle.machine.proofs.evaluate.Machine.+choice_eval_inside_sequence_star.Goals as goal
use Rattle.machine.proofs.evaluate.Machine.+choice_eval_inside_sequence_star.Goals.{star-After-opened, eval-After-held, inside-After-node_of-kind}

-- ## What was looked for

none_of : {o : Option ℕ} → ((k : ℕ) → o ≡ Some k → ⊥) → o ≡ None
none_of {o = None} f = refl
none_of {o = Some k} f = absurd (f k refl)

none_is : (o : Option ℕ) → is_some o ≡ false → o ≡ None
none_is None e = refl
none_is (Some k) e = let z : ◌≡◌ {A = ℕ} 0 1 = cc in absurd (omega arith)

-- ## sequence

pub sequence-eval-requires : goal.sequence-eval-requires
sequence-eval-requires t c = let a = c.args in
    let n = node (grammar_of (image_of a.self.now.code.now a.self.now.image.now)) a.a in
    let e = opened_parts c.eval-r.result (sym c.opened.ensures ∙ c.in-Passed.is) in
    (omega arith, (ready_next a.state n c.requires.0 c.eval-r.ensures e, c.requires.2))

pub sequence-returns : goal.sequence-returns
sequence-returns t c = let a = c.args in
    let n = node (grammar_of (image_of a.self.now.code.now a.self.now.image.now)) a.a in
    let e = opened_parts c.eval-r.result (sym c.opened.ensures ∙ c.in-Passed.is) in
    let b = bounds_of a.state n c.requires.0 c.eval-r.ensures in
    then_go c.eval-r.ensures (λ q τ s d. running a.self.now a.state a.left s d a.b q τ)
    e (subst (Bounds (length a.self.now.input.now) (at_of a.from) (held_of a.from) (room_limit a.self.now.code.now)) e b).2 c.eval.ensures

-- ## choice

pub choice-passed-back-requires : goal.choice-passed-back-requires
choice-passed-back-requires t c = let a = c.args in
    let n = node (grammar_of (image_of a.self.now.code.now a.self.now.image.now)) a.a in
    let e = sym c.opened.ensures ∙ c.in-Failed.is in
    let l = c.requires.0 in
    let b = subst (Bounds (length a.self.now.input.now) (at_of a.from) (held_of a.from) (room_limit a.self.now.code.now)) e (bounds_of a.state n l c.eval-r.ensures) in
    (omega (arith, c.at.ensures, l.place, l.short), omega (arith, c.held.ensures, l.room, l.small_room), b.0, b.1)

pub choice-eval-requires : goal.choice-eval-requires
choice-eval-requires t c = let a = c.args in
    let n = node (grammar_of (image_of a.self.now.code.now a.self.now.image.now)) a.a in
    let e = sym c.opened.ensures ∙ c.in-Failed.is in
    let h = has_passed_as c.passed-back.result c.passed-back.ensures c.at.ensures c.held.ensures in
    (omega arith, (in_one h (ready_back a.state n c.requires.0 c.eval-r.ensures e), c.requires.2))

pub choice-returns : goal.choice-returns
choice-returns t c = let a = c.args in
    let n = node (grammar_of (image_of a.self.now.code.now a.self.now.image.now)) a.a in
    let e = sym c.opened.ensures ∙ c.in-Failed.is in
    let h = has_passed_as c.passed-back.result c.passed-back.ensures c.at.ensures c.held.ensures in
    else_go c.eval-r.ensures (λ σ s d. running a.self.now a.state a.left s d a.b (at_of a.from) σ) e
    (as_parts h (λ p h s d. running a.self.now a.state a.left s d a.b p (symbols h c.eval-r.new.slots)) c.eval.ensures)

-- ## star

-- What a round came to is within its bounds.
module _ {t : ℕ} (k : star-After-opened t) where
  round : {o : Outcome} → k.opened.result ≡ o
      → Bounds (length k.args.self.now.input.now) (at_of k.loop-next.here) (held_of k.loop-next.here) (room_limit k.args.self.now.code.now) o
  round e = let a = k.args in
      subst (Bounds (length a.self.now.input.now) (at_of k.loop-next.here) (held_of k.loop-next.here) (room_limit a.self.now.code.now)) (sym k.opened.ensures ∙ e)
      (bounds_of a.state (node (grammar_of (image_of a.self.now.code.now a.self.now.image.now)) a.a) k.loop-next.invariant.ready k.eval-r.ensures)

pub star-passed-requires : goal.star-passed-requires
star-passed-requires t c = let l = c.loop-next.invariant.ready in let b = round (goal.at.star-passed-requires t c).After-opened c.in-Failed.is in
    (omega (arith, c.at-at.ensures, l.place, l.short), omega (arith, c.held.ensures, l.room, l.small_room), b.0, b.1)

pub star-returns-in-Failed : goal.star-returns-in-Failed
star-returns-in-Failed t c = let a = c.args in
    star_ends a.self.now.code.now (image_of a.self.now.code.now a.self.now.image.now) a.self.now.input.now a.slots.now a.state a.left a.a (at_of a.from) (held_of a.from) (steps_of a.from) (depth_of a.from) c.loop-next.invariant c.eval-r.ensures
    c.in-Failed.steps c.in-Failed.depth (sym c.opened.ensures ∙ c.in-Failed.is) (c.passed.ensures ∙ ap₂ (λ a h. Passed a h c.in-Failed.steps c.in-Failed.depth) c.at-at.ensures c.held.ensures)

pub star-refused-requires : goal.star-refused-requires
star-refused-requires t c = let l = c.loop-next.invariant.ready in let b = round (goal.at.star-refused-requires t c).After-opened c.in-Passed.is in
    (omega (arith, c.at-at.ensures, l.place, l.short), b.4, b.5)

pub star-refused-requires-then-self-steps : goal.star-refused-requires-then-self-steps
star-refused-requires-then-self-steps t c = let l = c.loop-next.invariant.ready in let b = round (goal.at.star-refused-requires-then-self-steps t c).After-opened c.in-Passed.is in
    (omega (arith, b.1, l.short), b.4, b.5)

pub star-returns-then-self-steps : goal.star-returns-then-self-steps
star-returns-then-self-steps t c = let a = c.args in
    star_spent a.self.now.code.now (image_of a.self.now.code.now a.self.now.image.now) a.self.now.input.now a.slots.now a.state a.left a.a (at_of a.from) (held_of a.from) (steps_of a.from) (depth_of a.from) c.loop-next.invariant c.eval-r.ensures
    c.in-Passed.next c.in-Passed.held c.in-Passed.steps c.in-Passed.depth (sym c.opened.ensures ∙ c.in-Passed.is) (omega (arith, c.if-next-at.false, c.at-at.ensures)) c.if-self-steps.true
    c.refused-then-self-steps.ensures

pub star-passed-here-requires : goal.star-passed-here-requires
star-passed-here-requires t c = let l = c.loop-next.invariant.ready in let b = round (goal.at.star-passed-here-requires t c).After-opened c.in-Passed.is in
    let t = c.entered-tally.ensures in (
      omega (arith, b.1, l.short),
      omega (arith, b.3, l.small_room),
      omega (arith, ap (λ (t : Tally). t.steps) t, c.if-self-steps.false, l.few_steps),
      omega (arith, ap (λ (t : Tally). t.depth) t, b.5),
    )

pub star-loop-next-smaller : goal.star-loop-next-smaller
star-loop-next-smaller t c = let b = round (goal.at.star-loop-next-smaller t c).After-opened c.in-Passed.is in
    let h = has_passed c.passed-here.result c.passed-here.ensures in
    omega (arith, h.place, b.1, c.if-next-at.false, c.at-at.ensures)

pub star-loop-next-preserved : goal.star-loop-next-preserved
star-loop-next-preserved t c = let a = c.args in
    rounds_from a.self.now.code.now (image_of a.self.now.code.now a.self.now.image.now) a.self.now.input.now a.slots.now a.state a.left a.a (at_of a.from) (held_of a.from) (steps_of a.from) (depth_of a.from) (has_passed c.passed-here.result c.passed-here.ensures)
    (subst (λ (t : Tally). Rounds a.self.now.code.now (image_of a.self.now.code.now a.self.now.image.now) a.self.now.input.now a.slots.now a.state a.left a.a (at_of a.from) (held_of a.from) (steps_of a.from) (depth_of a.from) c.eval-r.new.slots c.in-Passed.next c.in-Passed.held t.steps t.depth)
    (sym (c.entered-tally.ensures ∙ later_round c.in-Passed.steps c.in-Passed.depth))
    (star_again a.self.now.code.now (image_of a.self.now.code.now a.self.now.image.now) a.self.now.input.now a.slots.now a.state a.left a.a (at_of a.from) (held_of a.from) (steps_of a.from) (depth_of a.from) c.loop-next.invariant c.eval-r.ensures
    c.in-Passed.next c.in-Passed.held c.in-Passed.steps c.in-Passed.depth (sym c.opened.ensures ∙ c.in-Passed.is) (omega (arith, c.if-next-at.false, c.at-at.ensures)) c.if-self-steps.false c.requires.2))

-- ## eval

-- A single byte is asked for, at a depth that was reached before.
module _ {t : ℕ} (k : eval-After-held t) where
  byte_has : Has k.args.from k.at-at.result k.held.result k.steps-spent.result k.depth-deepest.result
  byte_has = record { place = k.at-at.ensures; names = k.held.ensures; spent = k.steps-spent.ensures; deepest = k.depth-deepest.ensures }

  byte_entry : let a = k.args in
      Entry a.self.now.code.now (image_of a.self.now.code.now a.self.now.image.now) a.self.now.input.now a.slots.now a.left a.node k.at-at.result k.held.result k.steps-spent.result
      k.depth-deepest.result k.entered-tally.result.steps k.entered-tally.result.depth
  byte_entry = record {
    ready = in_parts byte_has k.requires.0;
    numbered = k.requires.1;
    more = omega arith;
    step = omega arith;
    counted = ap (λ (t : Tally). t.steps) k.entered-tally.ensures;
    deeper = omega (arith, ap (λ (t : Tally). t.depth) k.entered-tally.ensures);
  }

pub eval-returns-then-self-spent : goal.eval-returns-then-self-spent
eval-returns-then-self-spent t c = refuses_steps c.requires.0 c.args.state c.args.node (omega (arith, c.if-self-spent.true, c.steps-spent.ensures)) c.stopped.ensures

pub eval-returns-then-left-eq0 : goal.eval-returns-then-left-eq0
eval-returns-then-left-eq0 t c = refuses_depth c.requires.0 c.args.state c.args.node (omega (arith, c.if-self-spent.false, c.steps-spent.ensures)) c.if-left-eq0.true c.stopped-then-left-eq0.ensures

pub eval-onward-requires : goal.eval-onward-requires
eval-onward-requires t c = let k = (goal.at.eval-onward-requires t c).After-held in let h = has_passed c.passed-charged.result c.passed-charged.ensures in
    (λ e. omega (arith, h.place, range_ends (byte_entry k) c.in-Some.span.lo c.in-Some.span.hi c.within-ok.ensures e), omega (arith, h.spent, (tally_fits (byte_entry k)).1))

pub eval-returns-then-self-left : goal.eval-returns-then-self-left
eval-returns-then-self-left t c = let k = (goal.at.eval-returns-then-self-left t c).After-held in let a = c.args in let E = byte_entry k in let ok = c.within-ok.result in
    let h = has_passed c.passed-charged.result c.passed-charged.ensures in
    let K = c.node_of-kind.ensures in let S = c.span_of.ensures in
    as_one (byte_has k) (λ p h s d. running a.self.now a.state a.left s d a.node p (symbols h a.slots.now))
    (done_as (done_given ok (k.at-at.result + 1) k.entered-tally.result.steps k.entered-tally.result.depth (onward_given c.passed-charged.result ok c.onward.result h c.onward.ensures))
    (says_one E a.state c.node_of-kind.result K (sym S ∙ c.in-Some.is) c.within-ok.ensures))

-- ## inside

-- A node whose word is read was entered.
module _ {t : ℕ} (k : inside-After-node_of-kind t) where
  -- What it started from, in its parts; what it was charged to; and the number that what stands inside starts from.
  abbrev at : ℕ
  at = k.at-at.result

  abbrev held : ℕ
  held = k.held-held.result

  abbrev spent : ℕ
  spent = k.steps.result

  abbrev deepest : ℕ
  deepest = k.depth.result

  abbrev charged : Tally
  charged = k.entered-tally.result

  abbrev now : Packed
  now = k.passed-charged.result

  has : Has k.args.from at held spent deepest
  has = record {
    place = k.at-at.ensures;
    names = k.held-held.ensures;
    spent = k.steps.ensures;
    deepest = k.depth.ensures;
  }

  next : Has now at held charged.steps charged.depth
  next = has_passed now k.passed-charged.ensures

  entry : let a = k.args in
      Entry a.self.now.code.now (image_of a.self.now.code.now a.self.now.image.now) a.self.now.input.now a.slots.now a.left a.node at held spent deepest charged.steps charged.depth
  entry = record {
    ready = in_parts has k.requires.0;
    numbered = k.requires.1;
    more = k.requires.3;
    step = omega (arith, k.steps.ensures, k.requires.2);
    counted = ap (λ (t : Tally). t.steps) k.entered-tally.ensures;
    deeper = ap (λ (t : Tally). t.depth) k.entered-tally.ensures;
  }

  falls : k.args.left * 3 ≡ t
  falls = k.decreases

  -- What stands inside starts there, and what is said of it is said in its parts.
  starts : let a = k.args in Starts a.self.now a.slots.now (a.left - 1) now
  starts = in_one next (below entry)

  inner : (state : State) (n : ℕ) {after : List ℕ} {r : Packed} → let a = k.args in
      Done (held_of now) a.slots.now after r (saying a.self.now state a.slots.now (a.left - 1) now n)
      → Done held a.slots.now after r (running a.self.now state (a.left - 1) charged.steps charged.depth n at (symbols held a.slots.now))
  inner state n = let a = k.args in
      as_parts next (λ p h s d. running a.self.now state (a.left - 1) s d n p (symbols h a.slots.now))

  -- What is said in its parts is said of the number that it started from.
  finish : {after : List ℕ} {r : Packed} → let a = k.args in
      Done held a.slots.now after r (running a.self.now a.state a.left spent deepest a.node at (symbols held a.slots.now))
      → Done (held_of a.from) a.slots.now after r (saying a.self.now a.state a.slots.now a.left a.from a.node)
  finish = let a = k.args in
      as_one has (λ p h s d. running a.self.now a.state a.left s d a.node p (symbols h a.slots.now))

pub inside-slice_bounds-text-end : goal.inside-slice_bounds-text-end
inside-slice_bounds-text-end t c = let k = (goal.at.inside-slice_bounds-text-end t c).After-node_of-kind in let a = c.args in let E = entry k in
    omega (arith, text_lent a.self.now.code.now a.self.now.image.now c.in-Text.place c.in-Text.count (in_image E c.in-Text.ensures), c.well_formed)

pub inside-overflow_add-at-in-Text : goal.inside-overflow_add-at-in-Text
inside-overflow_add-at-in-Text t c = let k = (goal.at.inside-overflow_add-at-in-Text t c).After-node_of-kind in let E = entry k in
    let K = c.in-Text.ensures in
    omega (arith, E.ready.place, E.ready.short, short_text E K)

pub inside-given-requires-in-Text : goal.inside-given-requires-in-Text
inside-given-requires-in-Text t c = let k = (goal.at.inside-given-requires-in-Text t c).After-node_of-kind in let a = c.args in let E = entry k in
    let K = c.in-Text.ensures in
    let q = text_begins a.self.now.code.now a.self.now.image.now c.in-Text.place c.in-Text.count (in_image E K) a.self.now.input.now (at k) c.starts_with-ok.ensures.value in
    let f = tally_fits E in (text_ends E K q, f.0, f.1, f.2)

pub inside-sequence-requires : goal.inside-sequence-requires
inside-sequence-requires t c = let k = (goal.at.inside-sequence-requires t c).After-node_of-kind in let E = entry k in
    let K = c.in-Sequence.ensures in
    (omega (arith, falls k, E.more), (starts k, lower E (fits E K).0, lower E (fits E K).1))

pub inside-choice-requires : goal.inside-choice-requires
inside-choice-requires t c = let k = (goal.at.inside-choice-requires t c).After-node_of-kind in let E = entry k in
    let K = c.in-Choice.ensures in
    (omega (arith, falls k, E.more), (starts k, lower E (fits E K).0, lower E (fits E K).1))

pub inside-star-requires : goal.inside-star-requires
inside-star-requires t c = let k = (goal.at.inside-star-requires t c).After-node_of-kind in let E = entry k in
    let K = c.in-Star.ensures in
    (omega (arith, falls k, E.more), (starts k, lower E (fits E K), omega (arith, E.ready.deep, E.more)))

pub inside-eval-r-requires : goal.inside-eval-r-requires
inside-eval-r-requires t c = let k = (goal.at.inside-eval-r-requires t c).After-node_of-kind in let E = entry k in
    let K = c.in-Not.ensures in
    (omega (arith, falls k, E.more), (starts k, lower E (fits E K)))

pub inside-negated-requires : goal.inside-negated-requires
inside-negated-requires t c = let k = (goal.at.inside-negated-requires t c).After-node_of-kind in let a = c.args in let E = entry k in
    (place_fits E, (tally_fits E).0, plain_bounds E a.state c.in-Not.a (inner k a.state c.in-Not.a c.eval-r.ensures))

pub inside-eval-requires : goal.inside-eval-requires
inside-eval-requires t c = let k = (goal.at.inside-eval-requires t c).After-node_of-kind in let E = entry k in
    let K = c.in-Call.ensures in
    (omega (arith, falls k, E.more), (starts k, fits E K))

pub inside-eval-r-requires-in-Def : goal.inside-eval-r-requires-in-Def
inside-eval-r-requires-in-Def t c = let k = (goal.at.inside-eval-r-requires-in-Def t c).After-node_of-kind in let E = entry k in
    let K = c.in-Def.ensures in
    (omega (arith, falls k, E.more), (starts k, pattern_numbered E (fits E K)))

pub inside-defined-requires : goal.inside-defined-requires
inside-defined-requires t c = let k = (goal.at.inside-defined-requires t c).After-node_of-kind in let a = c.args in let E = entry k in
    let d = inner k a.state (get_or a.self.now.code.now (512 + c.in-Def.t) 0) c.eval-r-in-Def.ensures in
    (E.ready.small_room, room_lent E a.state (get_or a.self.now.code.now (512 + c.in-Def.t) 0) d, place_fits E, plain_bounds E a.state (get_or a.self.now.code.now (512 + c.in-Def.t) 0) d)

pub inside-returns-in_default : goal.inside-returns-in_default
inside-returns-in_default t c = let k = (goal.at.inside-returns-in_default t c).After-node_of-kind in let a = c.args in let E = entry k in
    let K = c.in-Match.ensures in
    finish k (done_as (done_failed (charged k).steps (charged k).depth c.failed.ensures) (says_match_none E a.state K (unseen c.in-Match.t a.state a.slots.now (held k) c.floor.ensures c.latest.ensures (none_of c.in_default.not-Some))))

pub inside-again-requires : goal.inside-again-requires
inside-again-requires t c = let k = (goal.at.inside-again-requires t c).After-node_of-kind in let a = c.args in let E = entry k in
    let f = tally_fits E in
    let g = seen_fits E c.in-Match.t c.floor.result c.latest.ensures c.in-Some.is (below_same (held k) a.slots.now) in
    (E.ready.short, E.ready.place, g.0, g.1, g.2, f.0, f.1, f.2)

pub inside-returns-in_default-latest : goal.inside-returns-in_default-latest
inside-returns-in_default-latest t c = let k = (goal.at.inside-returns-in_default-latest t c).After-node_of-kind in let a = c.args in let E = entry k in
    let K = c.in-Is.ensures in
    finish k (done_as (done_failed (charged k).steps (charged k).depth c.failed-in_default-latest.ensures) (says_is_none E a.state K (unseen c.in-Is.t a.state a.slots.now (held k) c.floor-in-Is.ensures c.latest-in-Is.ensures (none_of c.in_default-latest.not-Some))))

pub inside-eval-r-requires-in-Is : goal.inside-eval-r-requires-in-Is
inside-eval-r-requires-in-Is t c = let k = (goal.at.inside-eval-r-requires-in-Is t c).After-node_of-kind in let E = entry k in
    let K = c.in-Is.ensures in
    (omega (arith, falls k, E.more), (starts k, pattern_numbered E (fits E K)))

pub inside-is_latest-requires : goal.inside-is_latest-requires
inside-is_latest-requires t c = let k = (goal.at.inside-is_latest-requires t c).After-node_of-kind in let a = c.args in let E = entry k in
    let d = inner k a.state (get_or a.self.now.code.now (512 + c.in-Is.t) 0) c.eval-r-in-Is.ensures in
    let g = seen_fits E c.in-Is.t c.floor-in-Is.result c.latest-in-Is.ensures c.in-Some-latest.is d.frame in
    (E.ready.short, g.0, g.1, g.2, (tally_fits E).0, named_bounds E a.state (get_or a.self.now.code.now (512 + c.in-Is.t) 0) d)

pub inside-returns-then-is_none : goal.inside-returns-then-is_none
inside-returns-then-is_none t c = let k = (goal.at.inside-returns-then-is_none t c).After-node_of-kind in let a = c.args in let E = entry k in
    let K = c.in-Isa.ensures in
    finish k (done_as (done_failed (charged k).steps (charged k).depth c.failed-then-is_none.ensures) (says_isa_none E a.state K (unseen c.in-Isa.t a.state a.slots.now (held k) c.floor-low.ensures c.latest-in-Isa.ensures (none_is c.latest-in-Isa.result (c.is_none.ensures ∙ ap not c.if-is_none.true)))))

pub inside-eval-r-requires-in-Isa : goal.inside-eval-r-requires-in-Isa
inside-eval-r-requires-in-Isa t c = let k = (goal.at.inside-eval-r-requires-in-Isa t c).After-node_of-kind in let E = entry k in
    let K = c.in-Isa.ensures in
    (omega (arith, falls k, E.more), (starts k, pattern_numbered E (fits E K)))

pub inside-is_some-requires : goal.inside-is_some-requires
inside-is_some-requires t c = let k = (goal.at.inside-is_some-requires t c).After-node_of-kind in let a = c.args in let E = entry k in
    let d = inner k a.state (get_or a.self.now.code.now (512 + c.in-Isa.t) 0) c.eval-r-in-Isa.ensures in
    let l = held_lent E in (E.ready.short, l.0, omega (arith, l.1, d.frame.long), held_part E d.frame, named_bounds E a.state (get_or a.self.now.code.now (512 + c.in-Isa.t) 0) d)

pub inside-eval-r-requires-in-Block : goal.inside-eval-r-requires-in-Block
inside-eval-r-requires-in-Block t c = let k = (goal.at.inside-eval-r-requires-in-Block t c).After-node_of-kind in let E = entry k in
    let K = c.in-Block.ensures in
    (omega (arith, falls k, E.more), (starts k, lower E (fits E K).1))

pub inside-closed-requires : goal.inside-closed-requires
inside-closed-requires t c = let k = (goal.at.inside-closed-requires t c).After-node_of-kind in let a = c.args in let E = entry k in
    let d = inner k a.state c.in-Block.a c.eval-r-in-Block.ensures in (scope_bounds E a.state c.in-Block.a d, scope_lent E a.state c.in-Block.a d)

pub inside-eval-r-requires-in-Local : goal.inside-eval-r-requires-in-Local
inside-eval-r-requires-in-Local t c = let k = (goal.at.inside-eval-r-requires-in-Local t c).After-node_of-kind in let E = entry k in
    let K = c.in-Local.ensures in
    (omega (arith, falls k, E.more), (starts k, lower E (fits E K).1))

pub inside-closed-requires-in-Local : goal.inside-closed-requires-in-Local
inside-closed-requires-in-Local t c = let k = (goal.at.inside-closed-requires-in-Local t c).After-node_of-kind in let E = entry k in
    let v = c.with_floor-hidden.result in let d = inner k v c.in-Local.a c.eval-r-in-Local.ensures in (scope_bounds E v c.in-Local.a d, scope_lent E v c.in-Local.a d)

pub inside-eval-r-requires-in-On : goal.inside-eval-r-requires-in-On
inside-eval-r-requires-in-On t c = let k = (goal.at.inside-eval-r-requires-in-On t c).After-node_of-kind in let E = entry k in
    let K = c.in-On.ensures in
    (omega (arith, falls k, E.more), (starts k, lower E (fits E K).1))

pub inside-restored-requires : goal.inside-restored-requires
inside-restored-requires t c = let k = (goal.at.inside-restored-requires t c).After-node_of-kind in let E = entry k in
    ((tally_fits E).0, plain_bounds E c.with_truth-switched.result c.in-On.a (inner k c.with_truth-switched.result c.in-On.a c.eval-r-in-On.ensures))

pub inside-returns-in-Empty : goal.inside-returns-in-Empty
inside-returns-in-Empty t c = let k = (goal.at.inside-returns-in-Empty t c).After-node_of-kind in let a = c.args in let E = entry k in
    let K = c.in-Empty.ensures in
    finish k (done_as (done_passed (at k) (charged k).steps (charged k).depth k.passed-charged.ensures) (says_empty E a.state K))

pub inside-returns-in-Byte : goal.inside-returns-in-Byte
inside-returns-in-Byte t c = let k = (goal.at.inside-returns-in-Byte t c).After-node_of-kind in let a = c.args in let E = entry k in
    let K = c.in-Byte.ensures in
    finish k (done_as (done_given c.within.result (at k + 1) (charged k).steps (charged k).depth c.given.ensures) (says_byte E a.state K c.within.ensures))

pub inside-returns-in-Range : goal.inside-returns-in-Range
inside-returns-in-Range t c = let k = (goal.at.inside-returns-in-Range t c).After-node_of-kind in let a = c.args in let E = entry k in
    let K = c.in-Range.ensures in
    finish k (done_as (done_given c.within-in-Range.result (at k + 1) (charged k).steps (charged k).depth c.given-in-Range.ensures) (says_range E a.state K c.within-in-Range.ensures))

pub inside-returns-in-Any : goal.inside-returns-in-Any
inside-returns-in-Any t c = let k = (goal.at.inside-returns-in-Any t c).After-node_of-kind in let a = c.args in let E = entry k in
    let K = c.in-Any.ensures in
    finish k (done_as (done_given (ltb (at k) (length a.self.now.input.now)) (at k + 1) (charged k).steps (charged k).depth c.given-in-Any.ensures) (says_any E a.state K refl))

pub inside-returns-in-Text : goal.inside-returns-in-Text
inside-returns-in-Text t c = let k = (goal.at.inside-returns-in-Text t c).After-node_of-kind in let a = c.args in let E = entry k in
    let K = c.in-Text.ensures in
    let q = text_begins a.self.now.code.now a.self.now.image.now c.in-Text.place c.in-Text.count (in_image E K) a.self.now.input.now (at k) c.starts_with-ok.ensures.value in
    finish k (done_as (done_given c.starts_with-ok.result (at k + c.in-Text.count) (charged k).steps (charged k).depth c.given-in-Text.ensures) (says_text E a.state K q))

pub inside-returns-in-Sequence : goal.inside-returns-in-Sequence
inside-returns-in-Sequence t c = let k = (goal.at.inside-returns-in-Sequence t c).After-node_of-kind in let a = c.args in let E = entry k in
    let K = c.in-Sequence.ensures in
    finish k (done_as (as_parts (next k) (λ p h s d. and_then (running a.self.now a.state (a.left - 1) s d c.in-Sequence.a p (symbols h a.slots.now)) (λ q τ s d. running a.self.now a.state (a.left - 1) s d c.in-Sequence.b q τ)) c.sequence.ensures) (says_sequence E a.state K))

pub inside-returns-in-Choice : goal.inside-returns-in-Choice
inside-returns-in-Choice t c = let k = (goal.at.inside-returns-in-Choice t c).After-node_of-kind in let a = c.args in let E = entry k in
    let K = c.in-Choice.ensures in
    finish k (done_as (as_parts (next k) (λ p h s d. or_else (running a.self.now a.state (a.left - 1) s d c.in-Choice.a p (symbols h a.slots.now)) (λ s d. running a.self.now a.state (a.left - 1) s d c.in-Choice.b p (symbols h a.slots.now))) c.choice.ensures) (says_choice E a.state K))

pub inside-returns-in-Star : goal.inside-returns-in-Star
inside-returns-in-Star t c = let k = (goal.at.inside-returns-in-Star t c).After-node_of-kind in let a = c.args in let E = entry k in
    let K = c.in-Star.ensures in
    finish k (done_as (as_parts (next k) (λ p h s d. starring a.self.now.code.now (image_of a.self.now.code.now a.self.now.image.now) a.self.now.input.now a.state (a.left - 1) s d c.in-Star.a p (symbols h a.slots.now)) c.star.ensures) (says_star E a.state K))

pub inside-returns-in-Not : goal.inside-returns-in-Not
inside-returns-in-Not t c = let k = (goal.at.inside-returns-in-Not t c).After-node_of-kind in let a = c.args in let E = entry k in
    let K = c.in-Not.ensures in
    finish k (done_as (done_not (inner k a.state c.in-Not.a c.eval-r.ensures) (at k) c.negated.ensures) (says_not E a.state K))

pub inside-returns-in-Call : goal.inside-returns-in-Call
inside-returns-in-Call t c = let k = (goal.at.inside-returns-in-Call t c).After-node_of-kind in let a = c.args in let E = entry k in
    let K = c.in-Call.ensures in
    finish k (done_as (inner k a.state c.in-Call.a c.eval.ensures) (says_call E a.state K))

pub inside-returns-in-Def : goal.inside-returns-in-Def
inside-returns-in-Def t c = let k = (goal.at.inside-returns-in-Def t c).After-node_of-kind in let a = c.args in let E = entry k in
    let K = c.in-Def.ensures in
    let d = inner k a.state (get_or a.self.now.code.now (512 + c.in-Def.t) 0) c.eval-r-in-Def.ensures in let q = c.defined.ensures in
    finish k (done_as (done_def d (room_limit a.self.now.code.now) c.in-Def.t (at k) (omega (arith, E.ready.lent)) q.0 q.1) (says_def E a.state K))

pub inside-returns-in-Some : goal.inside-returns-in-Some
inside-returns-in-Some t c = let k = (goal.at.inside-returns-in-Some t c).After-node_of-kind in let a = c.args in let E = entry k in
    let K = c.in-Match.ensures in
    let y = symbol_at a.slots.now c.in-Some.seen in
    finish k (done_as (done_given (begins (text a.self.now.input.now y) (drop (at k) a.self.now.input.now)) (at k + length (text a.self.now.input.now y)) (charged k).steps (charged k).depth c.again.ensures)
    (says_match E a.state y (listed c.in-Match.t c.floor.result a.slots.now c.in-Some.seen) K (in_view c.in-Match.t a.state a.slots.now (held k) c.floor.ensures c.latest.ensures c.in-Some.is)))

pub inside-returns-in-Some-latest : goal.inside-returns-in-Some-latest
inside-returns-in-Some-latest t c = let k = (goal.at.inside-returns-in-Some-latest t c).After-node_of-kind in let a = c.args in let E = entry k in
    let K = c.in-Is.ensures in
    let d = inner k a.state (get_or a.self.now.code.now (512 + c.in-Is.t) 0) c.eval-r-in-Is.ensures in
    let w = in_view c.in-Is.t a.state a.slots.now (held k) c.floor-in-Is.ensures c.latest-in-Is.ensures c.in-Some-latest.is in
    let j = c.in-Some-latest.seen in
    let same_one = same_symbol d.frame j (seen_held E c.in-Is.t c.floor-in-Is.result c.latest-in-Is.ensures c.in-Some-latest.is) in
    finish k (done_as (done_named d a.self.now.input.now (at k) (take 1 (visible (env_of a.state) c.in-Is.t (symbols (held k) a.slots.now))) (λ end. same (part a.self.now.input.now (at k) end) (text a.self.now.input.now (symbol_at c.eval-r-in-Is.new.slots j)))
    (λ end. is_test a.self.now.input.now (at k) end (listed c.in-Is.t c.floor-in-Is.result a.slots.now j) same_one w) c.is_latest.ensures) (says_is E a.state K (ap some w)))

pub inside-returns-else-is_none : goal.inside-returns-else-is_none
inside-returns-else-is_none t c = let k = (goal.at.inside-returns-else-is_none t c).After-node_of-kind in let a = c.args in let E = entry k in
    let K = c.in-Isa.ensures in
    let d = inner k a.state (get_or a.self.now.code.now (512 + c.in-Isa.t) 0) c.eval-r-in-Isa.ensures in
    let w = sym (any_seen c.in-Isa.t a.state a.slots.now (held k) c.floor-low.ensures c.latest-in-Isa.ensures) ∙ c.is_none.ensures ∙ ap not c.if-is_none.false in
    finish k (done_as (done_named d a.self.now.input.now (at k) (visible (env_of a.state) c.in-Isa.t (symbols (held k) a.slots.now)) (λ end. among a.self.now.input.now (part a.self.now.input.now (at k) end) (listed c.in-Isa.t c.floor-low.result c.eval-r-in-Isa.new.slots (held k)))
    (λ end. ap (among a.self.now.input.now (part a.self.now.input.now (at k) end)) (in_list c.in-Isa.t a.state a.slots.now (held k) c.floor-low.ensures d.frame)) c.is_some.ensures) (says_isa E a.state K w))

pub inside-returns-in-Exists : goal.inside-returns-in-Exists
inside-returns-in-Exists t c = let k = (goal.at.inside-returns-in-Exists t c).After-node_of-kind in let a = c.args in let E = entry k in
    let K = c.in-Exists.ensures in
    finish k (done_as (done_given c.is_some-in-Exists.result (at k) (charged k).steps (charged k).depth c.given-in-Exists.ensures) (says_exists E a.state K (c.is_some-in-Exists.ensures ∙ any_seen c.in-Exists.t a.state a.slots.now (held k) c.floor-in-Exists.ensures c.latest-seen.ensures)))

pub inside-returns-in-Block : goal.inside-returns-in-Block
inside-returns-in-Block t c = let k = (goal.at.inside-returns-in-Block t c).After-node_of-kind in let a = c.args in let E = entry k in
    let K = c.in-Block.ensures in
    finish k (done_as (done_closed (inner k a.state c.in-Block.a c.eval-r-in-Block.ensures) c.in-Block.t c.closed.ensures) (says_block E a.state K))

pub inside-returns-in-Local : goal.inside-returns-in-Local
inside-returns-in-Local t c = let k = (goal.at.inside-returns-in-Local t c).After-node_of-kind in let a = c.args in let E = entry k in
    let K = c.in-Local.ensures in
    let v = c.with_floor-hidden in finish k (done_as (done_closed (inner k v.result c.in-Local.a c.eval-r-in-Local.ensures) c.in-Local.t c.closed-in-Local.ensures) (says_local E a.state v.result K v.ensures))

pub inside-returns-in-If : goal.inside-returns-in-If
inside-returns-in-If t c = let k = (goal.at.inside-returns-in-If t c).After-node_of-kind in let a = c.args in let E = entry k in
    let K = c.in-If.ensures in
    finish k (done_as (done_given (beq c.truth.result c.in-If.w) (at k) (charged k).steps (charged k).depth c.given-in-If.ensures) (says_if E a.state K (agrees c.in-If.w c.truth.ensures)))

pub inside-returns-in-On : goal.inside-returns-in-On
inside-returns-in-On t c = let k = (goal.at.inside-returns-in-On t c).After-node_of-kind in let a = c.args in let E = entry k in
    let K = c.in-On.ensures in
    let v = c.with_truth-switched in finish k (done_as (done_on (inner k v.result c.in-On.a c.eval-r-in-On.ensures) c.restored.ensures) (says_on E a.state v.result K v.ensures))
