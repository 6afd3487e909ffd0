-- How what a call gives becomes what its caller gives.
use Rattle.std.specs.Prelude.{ℕ, ◌+◌, ◌*◌, ◌≤◌, ◌≡◌, Bool, List, [], ◌∷◌, ◌++◌, ltb, length, drop, get_or}
use Rattle.std.proofs.Math.Path.{refl, ap}
use Rattle.std.proofs.Common.{sym, ◌∙◌, arith, add-one, ltb-true}
use Rattle.std.proofs.Math.Bool.{true, false}
use Rattle.format.specs.Reading.{pick}
use Rattle.meaning.specs.State.{State as Symbols, others}
use Rattle.meaning.specs.Outcome.{Outcome as Meant, pass, fail, part, among, pass_if, swap, restored, closed, compared}
use Rattle.meaning.specs.Rules.{symbol}
use Rattle.parts.specs.declared.outcome.Outcome.{Outcome}
use Rattle.parts.specs.declared.outcome.Outcome.TheVariants.{Passed, Failed, Refused}
use Rattle.parts.specs.declared.outcome.Stop.{Stop}
use Rattle.parts.specs.declared.outcome.Stop.TheVariants.{Room}
use Rattle.parts.specs.declared.outcome.Packed.{Packed}
use Rattle.parts.specs.Packed.{number_of, opened_of}
use Rattle.parts.specs.Slots.{symbols, putting, Below}
use Rattle.parts.specs.SlotsLaws.{symbols_length, putting_length, putting_other, putting_more}
use Rattle.kinds.specs.Turned.{given_of, negated_of, restored_of, compared_of, defined_of, defined_in, ClosedOf}
use Rattle.kinds.specs.TurnedLaws.{Stops, at_failed, at_refused, Stays, on_passed, on_refused}
use Rattle.machine.specs.Told.{Told, came, stopped, and_then, or_else, become}
use Rattle.machine.specs.Ready.{read_back, Done}
use Rattle.machine.specs.ReadyLaws.{kept_below, below_then, below_same}

pub done_as : {held : ℕ} {before after : List ℕ} {r : Packed} {T U : Told} → Done held before after r T → T ≡ U → Done held before after r U
done_as d e = record { says = d.says ∙ e; frame = d.frame }

-- A test that nothing stands inside of.
pub done_given : {held : ℕ} {slots : List ℕ} (ok : Bool) (at s d : ℕ) {q : Packed} → opened_of q ≡ given_of ok at held s d
    → Done held slots slots q (came (pass_if ok at (symbols held slots)) s d)
unfolding pass_if
done_given {held} {slots} ok at s d e =
    record { says = ap (λ o. read_back o slots) e ∙ go ok; frame = below_same held slots }
  where
    go : (b : Bool) → read_back (given_of b at held s d) slots ≡ came (pass_if b at (symbols held slots)) s d
    go true = refl
    go false = refl

pub done_passed : {held : ℕ} {slots : List ℕ} (at s d : ℕ) {q : Packed} → opened_of q ≡ Passed at held s d
    → Done held slots slots q (came (pass at (symbols held slots)) s d)
done_passed {held} {slots} at s d e = record { says = ap (λ o. read_back o slots) e; frame = below_same held slots }

pub done_failed : {held : ℕ} {slots : List ℕ} (s d : ℕ) {q : Packed} → opened_of q ≡ Failed s d → Done held slots slots q (came fail s d)
done_failed {held} {slots} s d e = record { says = ap (λ o. read_back o slots) e; frame = below_same held slots }

pub done_refused : {held : ℕ} {slots : List ℕ} (n : Stop) (p s d : ℕ) {q : Packed} → opened_of q ≡ Refused n p s d → Done held slots slots q (stopped (number_of n) p s d)
done_refused {held} {slots} n p s d e = record { says = ap (λ o. read_back o slots) e; frame = below_same held slots }

module _ {held : ℕ} {before after : List ℕ} {r : Packed} {T : Told} (done : Done held before after r T) where
  -- ## Sequence and Choice

  pub then_stop : (k : ℕ → Symbols → ℕ → ℕ → Told) → Stops (opened_of r) → Done held before after r (and_then T k)
  then_stop k h = record { says = go (opened_of r) h ∙ ap (λ T. and_then T k) done.says; frame = done.frame }
    where
      go : (o : Outcome) → Stops o → read_back o after ≡ and_then (read_back o after) k
      go _ at_failed = refl
      go _ at_refused = refl

  pub then_go : (k : ℕ → Symbols → ℕ → ℕ → Told) {a h s d : ℕ} → opened_of r ≡ Passed a h s d → held ≤ h → {end : List ℕ} {q : Packed}
      → Done h after end q (k a (symbols h after) s d) → Done held before end q (and_then T k)
  then_go k e l n = record {
    says = n.says ∙ ap (λ T. and_then T k) (ap (λ o. read_back o after) (sym e) ∙ done.says);
    frame = below_then l done.frame n.frame;
  }

  pub else_stay : (k : ℕ → ℕ → Told) → Stays (opened_of r) → Done held before after r (or_else T k)
  else_stay k h = record { says = go (opened_of r) h ∙ ap (λ T. or_else T k) done.says; frame = done.frame }
    where
      go : (o : Outcome) → Stays o → read_back o after ≡ or_else (read_back o after) k
      go _ on_passed = refl
      go _ on_refused = refl

  pub else_go : (k : Symbols → ℕ → ℕ → Told) {s d : ℕ} → opened_of r ≡ Failed s d → {end : List ℕ} {q : Packed}
      → Done held after end q (k (symbols held after) s d) → Done held before end q (or_else T (k (symbols held before)))
  else_go k {s} {d} e n = record {
    says =
        n.says ∙ ap (λ σ. k σ s d) (kept_below done.frame)
        ∙ ap (λ T. or_else T (k (symbols held before))) (ap (λ o. read_back o after) (sym e) ∙ done.says);
    frame = below_then (omega arith) done.frame n.frame;
  }

  -- ## The kinds that make something of the outcome inside them

  -- One function on outcomes against another.
  turned : (f : Outcome → Outcome) (k : Meant → Meant) → ((o : Outcome) → read_back (f o) after ≡ become k (read_back o after))
      → {q : Packed} → opened_of q ≡ f (opened_of r) → Done held before after q (become k T)
  turned f k h e = record { says = ap (λ o. read_back o after) e ∙ h (opened_of r) ∙ ap (become k) done.says; frame = done.frame }

  abbrev σ : Symbols
  σ = symbols held before

  back : symbols held after ≡ σ
  back = kept_below done.frame

  pub done_not : (at : ℕ) {q : Packed} → opened_of q ≡ negated_of at held (opened_of r) → Done held before after q (become (swap at σ) T)
  unfolding swap
  done_not at = turned (negated_of at held) (swap at σ) go
    where
      go : (o : Outcome) → read_back (negated_of at held o) after ≡ become (swap at σ) (read_back o after)
      go (Passed a h s d) = refl
      go (Failed s d) = ap (λ τ. came (pass at τ) s d) back
      go (Refused n p s d) = refl

  pub done_on : {q : Packed} → opened_of q ≡ restored_of held (opened_of r) → Done held before after q (become (restored σ) T)
  unfolding restored
  done_on = turned (restored_of held) (restored σ) go
    where
      go : (o : Outcome) → read_back (restored_of held o) after ≡ become (restored σ) (read_back o after)
      go (Passed a h s d) = ap (λ τ. came (pass a τ) s d) back
      go (Failed s d) = refl
      go (Refused n p s d) = refl

  pub done_named : (x : List ℕ) (at : ℕ) (list : Symbols) (test : ℕ → Bool) → ((end : ℕ) → test end ≡ among x (part x at end) list)
      → {q : Packed} → opened_of q ≡ compared_of test held (opened_of r) → Done held before after q (become (compared x at σ list) T)
  unfolding pass_if compared
  done_named x at list test same = turned (compared_of test held) (compared x at σ list) go
    where
      tested : (b : Bool) (a s d : ℕ) → read_back (given_of b a held s d) after ≡ came (pass_if b a σ) s d
      tested true a s d = ap (λ τ. came (pass a τ) s d) back
      tested false a s d = refl

      go : (o : Outcome) → read_back (compared_of test held o) after ≡ become (compared x at σ list) (read_back o after)
      go (Passed a h s d) = tested (test a) a s d ∙ ap (λ b. came (pass_if b a σ) s d) (same a)
      go (Failed s d) = refl
      go (Refused n p s d) = refl

  framed : {end : List ℕ} → end ≡ after → Below held before end
  framed f = record { long = ap length f ∙ done.frame.long; same = λ k m. ap (λ l. get_or l k 0) f ∙ done.frame.same k m }

  -- A name is stored where there is room for it.
  pub done_def : (room table at : ℕ) → room * 3 ≤ length before → {end : List ℕ} {q : Packed}
      → opened_of q ≡ defined_of room table at held (opened_of r) → end ≡ defined_in room table at held (opened_of r) after
      → Done held before end q (and_then T (λ a τ s d. pick (ltb (length σ) room) (came (pass a (σ ++ (symbol table at a ∷ []))) s d) (stopped 14 at s d)))
  done_def room table at lent {end} {q} e f = go (opened_of r) done.says e f
    where
      next : ℕ → Symbols → ℕ → ℕ → Told
      next a τ s d = pick (ltb (length σ) room) (came (pass a (σ ++ (symbol table at a ∷ []))) s d) (stopped 14 at s d)

      stored : (a s d : ℕ) (b : Bool) → ltb held room ≡ b → opened_of q ≡ pick b (Passed a (held + 1) s d) (Refused Room at s d)
          → end ≡ pick b (putting after held table at a) after
          → (read_back (opened_of q) end ≡ pick b (came (pass a (σ ++ (symbol table at a ∷ []))) s d) (stopped 14 at s d)) × Below held before end
      stored a s d true l e f =
          let room' : held * 3 + 3 ≤ length after = omega (arith, ltb-true held room l, done.frame.long) in (
            ap (λ o. read_back o end) e
                ∙ ap (λ τ. came (pass a τ) s d) (ap (symbols (held + 1)) f ∙ ap (λ n. symbols n (putting after held table at a)) (add-one held)
                ∙ putting_more after held table at a room' ∙ ap (λ τ. τ ++ (symbol table at a ∷ [])) back),
            record {
              long = ap length f ∙ putting_length after held table at a room' ∙ done.frame.long;
              same =
                  λ k m. ap (λ l. get_or l k 0) f ∙ putting_other after held table at a room' k (λ z. omega arith) (λ z. omega arith) (λ z. omega arith)
                  ∙ done.frame.same k m;
            },
          )
      stored a s d false l e f = (
        ap (λ o. read_back o end) e,
        framed f,
      )

      go : (o : Outcome) → read_back o after ≡ T → opened_of q ≡ defined_of room table at held o → end ≡ defined_in room table at held o after
          → Done held before end q (and_then T next)
      go (Passed a h s d) t e f =
          let w = stored a s d (ltb held room) refl e f in
          let long : ltb (length σ) room ≡ ltb held room = ap (λ n. ltb n room) (symbols_length held before) in
          record {
            says =
                w.0 ∙ ap (λ b. pick b (came (pass a (σ ++ (symbol table at a ∷ []))) s d) (stopped 14 at s d)) (sym long)
                ∙ ap (λ T. and_then T next) t;
            frame = w.1;
          }
      go (Failed s d) t e f = record {
        says = ap (λ o. read_back o end) e ∙ ap (λ T. and_then T next) t;
        frame = framed f;
      }
      go (Refused n p s d) t e f = record {
        says = ap (λ o. read_back o end) e ∙ ap (λ T. and_then T next) t;
        frame = framed f;
      }

  -- A scope is closed.
  pub done_closed : (table : ℕ) {end : List ℕ} {q : Packed} → ClosedOf table held (opened_of r) after end (opened_of q)
      → Done held before end q (become (closed table σ) T)
  unfolding closed
  done_closed table {end} {q} = go (opened_of r) done.says
    where
      go : (o : Outcome) → read_back o after ≡ T → ClosedOf table held o after end (opened_of q) → Done held before end q (become (closed table σ) T)
      go (Passed a h s d) t w =
          let k = w.0 in let c = w.2 in
          record {
            says =
                ap (λ o. read_back o end) w.1
                ∙ ap (λ τ. came (pass a τ) s d) (c.holds ∙ ap (λ τ. τ ++ others table (drop held (symbols h after))) back
                ∙ ap (λ n. σ ++ others table (drop n (symbols h after))) (sym (symbols_length held before)))
                ∙ ap (become (closed table σ)) t;
            frame = below_then (omega arith) done.frame c.frame;
          }
      go (Failed s d) t w = record {
        says = ap (λ o. read_back o end) w.0 ∙ ap (become (closed table σ)) t;
        frame = framed w.1;
      }
      go (Refused n p s d) t w = record {
        says = ap (λ o. read_back o end) w.0 ∙ ap (become (closed table σ)) t;
        frame = framed w.1;
      }
