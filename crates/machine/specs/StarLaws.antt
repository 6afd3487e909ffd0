-- The rounds of a Star: what holds where a round begins, and what follows from the round.
use Rattle.std.specs.Prelude.{ℕ, ◌+◌, ◌-◌, ◌≤◌, ◌<◌, max, ◌≡◌, refl, List, length}
use Rattle.std.proofs.Common.{ap, sym, ◌∙◌, subst, arith, le-ltb, lt-ltb}
use Rattle.grammar.specs.Expr.{Star}
use Rattle.grammar.specs.Grammar.{node}
use Rattle.format.specs.Reading.{pick}
use Rattle.meaning.specs.State.{State as Symbols}
use Rattle.meaning.specs.Outcome.{pass}
use Rattle.parts.specs.declared.outcome.Stop.TheVariants.{Steps, Round}
use Rattle.parts.specs.declared.outcome.Packed.{Packed}
use Rattle.parts.specs.declared.outcome.Outcome.{Outcome}
use Rattle.parts.specs.declared.outcome.Outcome.TheVariants.{Passed, Failed, Refused}
use Rattle.kinds.specs.declared.state.State.{State}
use Rattle.parts.specs.Packed.{at_of, held_of, steps_of, depth_of, opened_of}
use Rattle.parts.specs.Slots.{symbols, Below}
use Rattle.kinds.specs.Held.{env_of}
use Rattle.kinds.specs.Turned.{Bounds}
use Rattle.kinds.specs.TurnedLaws.{Stops, at_failed, at_refused, Stays, on_refused}
use Rattle.machine.specs.Told.{Told, came, stopped, after_round}
use Rattle.machine.specs.ToldLaws.{tells_no_steps, tells_star}
use Rattle.machine.specs.Ready.{grammar_of, step_limit, depth_limit, room_limit, Ready, read_back, Done, telling, starring}
use Rattle.machine.specs.StartLaws.{Has}
use Rattle.machine.specs.ReadyLaws.{kept_below, below_then, below_same, moved, bounds_of, ready_next}

module _ (code image input before : List ℕ) (state : State) (left a at held s d : ℕ) where
  abbrev whole : Told
  whole = starring code image input state left s d a at (symbols held before)

  -- The rounds from here, of which the next is charged, come to what the whole Star comes to.
  pub record Rounds (now : List ℕ) (here stored charged reached : ℕ) : Type 0 where
    pub ready : Ready code image input now left here stored charged reached
    pub same : starring code image input state left charged reached a here (symbols stored now) ≡ whole
    pub frame : Below held before now
    pub more : held ≤ stored

  pub rounds_start : Ready code image input before left at held s d → Rounds before at held s d
  rounds_start r = record { ready = r; same = refl; frame = below_same held before; more = omega arith }

  -- The next starts from one number.
  pub rounds_from : {now : List ℕ} {next : Packed} {here stored charged reached : ℕ} → Has next here stored charged reached → Rounds now here stored charged reached
      → Rounds now (at_of next) (held_of next) (steps_of next) (depth_of next)
  rounds_from h r = rw (sym h.place, sym h.names, sym h.spent, sym h.deepest) r

  module _ {now after : List ℕ} {here stored charged reached : ℕ} {r : Packed} (inv : Rounds now here stored charged reached)
      (done : Done stored now after r (telling code image input state left charged reached (node (grammar_of image) a) here (symbols stored now))) where
    abbrev again : ℕ → Symbols → ℕ → ℕ → Told
    again q τ s d = telling code image input state (left + 1) s d (Star a) q τ

    -- What the round came to, and then the rest, is the whole.
    follows : (o : Outcome) → opened_of r ≡ o → after_round here (symbols stored now) (read_back o after) again ≡ whole
    follows o e =
        ap (λ T. after_round here (symbols stored now) T again) (ap (λ o. read_back o after) (sym e) ∙ done.says) ∙ inv.same

    framed : Below held before after
    framed = below_then inv.more inv.frame done.frame

    pub star_refuses : Stops (opened_of r) → Stays (opened_of r) → Done held before after r whole
    star_refuses h i = record { says = go (opened_of r) h i ∙ follows (opened_of r) refl; frame = framed }
      where
        go : (o : Outcome) → Stops o → Stays o → read_back o after ≡ after_round here (symbols stored now) (read_back o after) again
        go _ at_failed i = elim i [ ]
        go _ at_refused on_refused = refl

    pub star_ends : (s' d' : ℕ) → opened_of r ≡ Failed s' d' → {q : Packed} → opened_of q ≡ Passed here stored s' d' → Done held before after q whole
    star_ends s' d' e f = record {
      says = ap (λ o. read_back o after) f ∙ ap (λ τ. came (pass here τ) s' d') (kept_below done.frame) ∙ follows (Failed s' d') e;
      frame = framed;
    }

    module _ (n h s' d' : ℕ) (e : opened_of r ≡ Passed n h s' d') where
      abbrev next : Told
      next = again n (symbols h after) s' d'

      pub star_empty : n ≤ here → {q : Packed} → opened_of q ≡ Refused Round here s' d' → Done held before after q whole
      star_empty l f = record {
        says =
            ap (λ o. read_back o after) f ∙ sym (ap (λ b. pick b next (stopped 15 here s' d')) (le-ltb here n l)) ∙ follows (Passed n h s' d') e;
        frame = framed;
      }

      gone : Ready code image input after left n h s' d'
      gone = ready_next state (node (grammar_of image) a) inv.ready done e

      rest : here < n → next ≡ whole
      rest l = sym (ap (λ b. pick b next (stopped 15 here s' d')) (lt-ltb here n l)) ∙ follows (Passed n h s' d') e

      pub star_spent : here < n → step_limit code ≤ s' → {q : Packed} → opened_of q ≡ Refused Steps n s' d' → Done held before after q whole
      star_spent l m f = record {
        says =
            ap (λ o. read_back o after) f
            ∙ sym (tells_no_steps (grammar_of image) input (step_limit code) (depth_limit code) (room_limit code) (left + 1) s' d' (env_of state) (Star a) n (symbols h after) m (omega (arith, gone.reached)))
            ∙ rest l;
        frame = framed;
      }

      pub star_again : here < n → s' < step_limit code → left + 1 ≤ depth_limit code → Rounds after n h (s' + 1) d'
      star_again l m i =
          let g = gone in
          record {
            ready = moved g refl g.place g.room (omega (arith, m)) g.deep g.reached g.entered g.parts;
            same = charged_as g.reached ∙ rest l;
            frame = framed;
            more = omega (arith, inv.more, held_more);
          }
        where
          held_more : stored ≤ h
          held_more =
              (subst (Bounds (length input) here stored (room_limit code)) e (bounds_of state (node (grammar_of image) a) inv.ready done)).2

          charged_as : depth_limit code - left ≤ d' → starring code image input state left (s' + 1) d' a n (symbols h after) ≡ next
          charged_as z =
              let l : left + 1 - 1 ≡ left = omega arith in
              let w : max d' (depth_limit code - left) ≡ d' = omega arith in
              sym (tells_star (grammar_of image) input (step_limit code) (depth_limit code) (room_limit code) (left + 1) s' d' (omega arith) i m (env_of state) a n (symbols h after)
              ∙ rw (l, w))
