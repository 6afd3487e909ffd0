-- What follows from what a call gives: where the next may start, and within which bounds.
use Prim.Native.Nat.{ℕ, ◌+◌, ◌-◌, ◌≤◌, max}
use Rattle.std.proofs.Math.Path.{◌≡◌, refl, ap}
use Rattle.std.proofs.Common.{sym, ◌∙◌, subst, inl, inr, arith}
use Rattle.std.specs.Prelude.{◌⊎◌}
use mathlib.Core.List.Memᴰ
use mathlib.Core.List.{List, ◌++◌, Memᴰ}
use Rattle.std.proofs.Math.ListN.{length, length-append}
use Rattle.grammar.specs.Expr.{Expr}
use Rattle.grammar.specs.Grammar.{Grammar}
use Rattle.meaning.specs.State.{Symbol, State as Symbols, Env}
use Rattle.meaning.specs.Outcome.{pass, fail}
use Rattle.meaning.specs.Kept.{kept}
use Rattle.meaning.specs.Run.{Result, ran, refused, run}
use Rattle.meaning.proofs.Exact.{exact}
use Rattle.meaning.specs.Forward.{forward, ahead_pass}
use Rattle.meaning.proofs.Remain.{remain, ends_eq}
use Rattle.meaning.proofs.Room.{room_enough, of_pass}
use Rattle.meaning.specs.Inside.{Part, kept_inside}
use Rattle.parts.specs.declared.outcome.Outcome.{Outcome}
use Rattle.parts.specs.declared.outcome.Outcome.TheVariants.{Passed, Failed, Refused}
use Rattle.kinds.specs.declared.state.State.{State}
use Rattle.parts.specs.declared.outcome.Packed.{Packed}
use Rattle.parts.specs.Packed.{opened_of}
use Rattle.parts.specs.Slots.{symbols, Below}
use Rattle.parts.specs.SlotsLaws.{symbols_length, symbols_same}
use Rattle.kinds.specs.Held.{env_of}
use Rattle.kinds.specs.Turned.{Bounds}
use Rattle.machine.specs.Told.{came, carry, tells}
use Rattle.machine.specs.Ready.{grammar_of, step_limit, depth_limit, room_limit, Ready, read_back, Done, telling}

-- ## What is said where an expression passes, and where it fails

module _ (g : Grammar) (x : List ℕ) (B D R left s d : ℕ) (v : Env) (e : Expr) (p : ℕ) (σ : Symbols) where
  pub record Passes (q : ℕ) (τ : Symbols) (s' d' : ℕ) : Type 0 where
    pub on : p ≤ q
    pub inside : q ≤ length x
    pub more : length σ ≤ length τ
    pub room : length τ ≤ R
    pub spent : s' ≤ B
    pub deeper : d ≤ d'
    pub entered : d' ≤ D
    pub parts : ((y : Symbol) → Memᴰ y σ → Part (length x) y) → (y : Symbol) → Memᴰ y τ → Part (length x) y

  pub record Fails (s' d' : ℕ) : Type 0 where
    pub spent : s' ≤ B
    pub deeper : d ≤ d'
    pub entered : d' ≤ D

  module _ (place : p ≤ length x) (room : length σ ≤ R) (spent : s ≤ B) (deep : left ≤ D) (entered : d ≤ D) where
    pub passes : {q : ℕ} {τ : Symbols} {s' d' : ℕ} → came (pass q τ) s' d' ≡ tells g x B D R left s d v e p σ → Passes q τ s' d'
    unfolding tells
    passes {q} {τ} {s'} {d'} h = go (run g x R left (B - s) v e p σ) refl h
      where
        go : (r : Result) → run g x R left (B - s) v e p σ ≡ r → came (pass q τ) s' d' ≡ carry s d (D - left) r → Passes q τ s' d'
        go (ran (pass q' τ') c) f h =
            let w = (exact g x v e p σ R left (B - s) (pass q' τ') c).0 f in
            let eq : q ≡ q' = cc in
            let eτ : τ ≡ τ' = cc in
            let es : s' ≡ s + c.steps = cc in
            let ed : d' ≡ max d (D - left + c.depth) = cc in
            let a = ahead_pass (forward g x w.0 place) in
            let k : τ ≡ σ ++ kept g x w.0 = eτ ∙ ends_eq g x (remain g x w.0) in
            let m = of_pass (room_enough g x w.0) in
            record {
              on = omega (arith, eq, a.0);
              inside = omega (arith, eq, a.1);
              more = omega (arith, ap length k ∙ length-append σ (kept g x w.0));
              room = omega (arith, ap length eτ, m, w.1);
              spent = omega (arith, es, w.1);
              deeper = omega (arith, ed);
              entered = omega (arith, ed, w.1);
              parts = λ old y i. which old y (kept g x w.0) (kept_inside g x w.0 place y) (subst (Memᴰ y) k i);
            }
          where
            which : ((y : Symbol) → Memᴰ y σ → Part (length x) y) → (y : Symbol) (l : Symbols) → (Memᴰ y l → Part (length x) y)
                → Memᴰ y (σ ++ l) → Part (length x) y
            which old y l new i = pick (Memᴰ.append_cases σ i)
              where
                pick : Memᴰ y σ ⊎ Memᴰ y l → Part (length x) y
                pick (inl i) = old y i
                pick (inr i) = new i
        go (ran fail c) f h = let z : ◌≡◌ {A = ℕ} 0 1 = cc in absurd (omega arith)
        go (refused n a c) f h = let z : ◌≡◌ {A = ℕ} 0 1 = cc in absurd (omega arith)

    pub fails : {s' d' : ℕ} → came fail s' d' ≡ tells g x B D R left s d v e p σ → Fails s' d'
    unfolding tells
    fails {s'} {d'} h = go (run g x R left (B - s) v e p σ) refl h
      where
        go : (r : Result) → run g x R left (B - s) v e p σ ≡ r → came fail s' d' ≡ carry s d (D - left) r → Fails s' d'
        go (ran fail c) f h =
            let w = (exact g x v e p σ R left (B - s) fail c).0 f in
            let es : s' ≡ s + c.steps = cc in
            let ed : d' ≡ max d (D - left + c.depth) = cc in
            record { spent = omega (arith, es, w.1); deeper = omega (arith, ed); entered = omega (arith, ed, w.1) }
        go (ran (pass q τ) c) f h = let z : ◌≡◌ {A = ℕ} 0 1 = cc in absurd (omega arith)
        go (refused n a c) f h = let z : ◌≡◌ {A = ℕ} 0 1 = cc in absurd (omega arith)

-- ## From one call to the next

-- Symbols below a mark that was kept are as they were.
pub kept_below : {held : ℕ} {before after : List ℕ} → Below held before after → symbols held after ≡ symbols held before
kept_below {held} {before} {after} f = symbols_same held before after f.same

pub below_then : {held more : ℕ} {before mid after : List ℕ} → held ≤ more → Below held before mid → Below more mid after → Below held before after
below_then l f h = record { long = h.long ∙ f.long; same = λ k m. h.same k (omega arith) ∙ f.same k m }

pub below_same : (held : ℕ) (slots : List ℕ) → Below held slots slots
below_same held slots = record { long = refl; same = λ k m. refl }

-- What stays in a run stays: the array, the limits, the input, the length of the slots. The rest is to be shown anew.
pub moved : {code image input before after : List ℕ} {left left' at at' held held' s s' d d' : ℕ} → Ready code image input before left at held s d
    → length after ≡ length before → at' ≤ length input → held' ≤ room_limit code → s' ≤ step_limit code → left' ≤ depth_limit code
    → depth_limit code - left' ≤ d' → d' ≤ depth_limit code → ((y : Symbol) → Memᴰ y (symbols held' after) → Part (length input) y)
    → Ready code image input after left' at' held' s' d'
moved ready long place room spent deep reached entered parts = record {
  coded = ready.coded;
  few_steps = ready.few_steps;
  small_depth = ready.small_depth;
  small_room = ready.small_room;
  lent = omega (arith, long, ready.lent);
  bytes = ready.bytes;
  short = ready.short;
  place = place;
  room = room;
  spent = spent;
  deep = deep;
  reached = reached;
  entered = entered;
  parts = parts;
}

module _ {code image input before after : List ℕ} {left at held s d : ℕ} {r : Packed} (state : State) (e : Expr)
    (ready : Ready code image input before left at held s d)
    (done : Done held before after r (telling code image input state left s d e at (symbols held before))) where
  abbrev σ : Symbols
  σ = symbols held before

  fits_room : length σ ≤ room_limit code
  fits_room = omega (arith, symbols_length held before, ready.room)

  abbrev said : Outcome → Type 0
  said o = read_back o after ≡ telling code image input state left s d e at σ

  went : {a : ℕ} (h : ℕ) {s' d' : ℕ} → said (Passed a h s' d')
      → Passes (grammar_of image) input (step_limit code) (depth_limit code) (room_limit code) left s d (env_of state) e at σ a (symbols h after) s' d'
  went h q =
      passes (grammar_of image) input (step_limit code) (depth_limit code) (room_limit code) left s d (env_of state) e at σ ready.place fits_room
      ready.spent ready.deep ready.entered q

  stayed : {s' d' : ℕ} → said (Failed s' d')
      → Fails (grammar_of image) input (step_limit code) (depth_limit code) (room_limit code) left s d (env_of state) e at σ s' d'
  stayed q =
      fails (grammar_of image) input (step_limit code) (depth_limit code) (room_limit code) left s d (env_of state) e at σ ready.place fits_room
      ready.spent ready.deep ready.entered q

  -- An outcome is within its bounds.
  pub bounds_of : Bounds (length input) at held (room_limit code) (opened_of r)
  bounds_of = go (opened_of r) done.says
    where
      go : (o : Outcome) → said o → Bounds (length input) at held (room_limit code) o
      go (Passed a h s' d') q =
          let w = went h q in (
            w.on,
            w.inside,
            omega (arith, w.more, symbols_length held before, symbols_length h after),
            omega (arith, w.room, symbols_length h after),
            omega (arith, w.spent, ready.few_steps),
            omega (arith, w.entered, ready.small_depth),
          )
      go (Failed s' d') q = let w = stayed q in (omega (arith, w.spent, ready.few_steps), omega (arith, w.entered, ready.small_depth))
      go (Refused n p s' d') q = tt

  -- Where it passed, the next starts from there;
  pub ready_next : {a h s' d' : ℕ} → opened_of r ≡ Passed a h s' d' → Ready code image input after left a h s' d'
  ready_next {a} {h} {s'} {d'} f =
      let w = went h (ap (λ o. read_back o after) (sym f) ∙ done.says) in
      moved ready done.frame.long w.inside (omega (arith, w.room, symbols_length h after)) w.spent ready.deep
      (omega (arith, ready.reached, w.deeper)) w.entered (w.parts ready.parts)

  -- where it failed, from the same place with the same symbols.
  pub ready_back : {s' d' : ℕ} → opened_of r ≡ Failed s' d' → Ready code image input after left at held s' d'
  ready_back {s'} {d'} f =
      let w = stayed (ap (λ o. read_back o after) (sym f) ∙ done.says) in
      moved ready done.frame.long ready.place ready.room w.spent ready.deep (omega (arith, ready.reached, w.deeper))
      w.entered (λ y i. ready.parts y (subst (Memᴰ y) (kept_below done.frame) i))
