-- A node that was entered: what it may ask of the functions that it calls.
use Rattle.std.specs.Prelude.{ℕ, zero, suc, ◌+◌, ◌-◌, ◌*◌, ◌≤◌, ◌<◌, ◌≡◌, refl, Option, Some, Bool, true, false, ltb, length, take, drop}
use Rattle.std.proofs.Common.{ap, sym, ◌∙◌, subst, arith, length-drop, ltb-true, ltb-false}
use mathlib.Core.List.Memᴰ
use mathlib.Core.List.{List, [], ◌∷◌, ◌++◌, Memᴰ}
use Rattle.grammar.specs.Grammar.{node}
use Rattle.image.specs.declared.node.Node.TheVariants.{Text}
use Rattle.meaning.specs.State.{Symbol, State as Symbols}
use Rattle.meaning.specs.Outcome.{begins, in_range, same, part, among, text}
use Rattle.meaning.specs.Forward.{begins_fits, range_fits}
use Rattle.meaning.specs.Inside.{Part}
use Rattle.parts.specs.declared.outcome.Outcome.TheVariants.{Refused}
use Rattle.kinds.specs.declared.state.State.{State}
use Rattle.parts.specs.declared.outcome.Stop.TheVariants.{Steps, Depth}
use Rattle.parts.specs.declared.outcome.Packed.{Packed}
use Rattle.parts.specs.Packed.{opened_of}
use Rattle.parts.specs.Slots.{symbol_at, symbols, latest_of, Below, Parts}
use Rattle.parts.specs.Seen.{seen_below}
use Rattle.kinds.specs.Held.{env_of}
use Rattle.kinds.specs.Turned.{Bounds, Lent}
use Rattle.kinds.specs.TurnedLaws.{wider, lent_by}
use Rattle.machine.specs.ToldLaws.{tells_no_steps, tells_no_depth}
use Rattle.machine.specs.Ready.{grammar_of, step_limit, depth_limit, room_limit, Ready, Done, telling}
use Rattle.machine.specs.ReadyLaws.{kept_below, bounds_of}
use Rattle.machine.specs.DoneLaws.{done_as, done_refused}
use Rattle.machine.specs.EntryLaws.{Entry, below, Kind, long_text_lem}

-- A symbol of the slots is one of those held.
pub symbol_held : (h : ℕ) (slots : List ℕ) (k : ℕ) → k < h → Memᴰ (symbol_at slots k) (symbols h slots)
unfolding symbols
symbol_held zero slots k l = absurd (omega arith)
symbol_held (suc h) slots k l = go (λ m. symbol_held h slots k m) (ltb k h) refl
  where
    go : (k < h → Memᴰ (symbol_at slots k) (symbols h slots)) → (b : Bool) → ltb k h ≡ b
        → Memᴰ (symbol_at slots k) (symbols h slots ++ (symbol_at slots h ∷ []))
    go i true e = Memᴰ.append_left (symbol_at slots h ∷ []) (i (ltb-true k h e))
    go i false e =
        let z : k ≡ h = omega (arith, ltb-false k h e) in
        Memᴰ.append_right (symbols h slots) (Memᴰ.head (ap (symbol_at slots) z))

-- ## No entry

module _ {code image input slots : List ℕ} {left at held spent deepest : ℕ} (ready : Ready code image input slots left at held spent deepest)
    (state : State) (n : ℕ) where
  pub refuses_steps : step_limit code ≤ spent → {q : Packed} → opened_of q ≡ Refused Steps at spent deepest
      → Done held slots slots q (telling code image input state left spent deepest (node (grammar_of image) n) at (symbols held slots))
  refuses_steps h e =
      done_as (done_refused Steps at spent deepest e)
      (sym (tells_no_steps (grammar_of image) input (step_limit code) (depth_limit code) (room_limit code) left spent deepest (env_of state)
      (node (grammar_of image) n) at (symbols held slots) h ready.reached))

  pub refuses_depth : spent < step_limit code → left ≡ 0 → {q : Packed} → opened_of q ≡ Refused Depth at spent deepest
      → Done held slots slots q (telling code image input state left spent deepest (node (grammar_of image) n) at (symbols held slots))
  refuses_depth h z e =
      done_as (done_refused Depth at spent deepest e)
      (sym (tells_no_depth (grammar_of image) input (step_limit code) (depth_limit code) (room_limit code) left spent deepest (env_of state)
      (node (grammar_of image) n) at (symbols held slots) h z (omega (arith, ready.reached))))

-- ## An entry

module _ {code image input slots : List ℕ} {left number at held spent deepest steps depth : ℕ}
    (E : Entry code image input slots left number at held spent deepest steps depth) where
  pub place_fits : at ≤ 65535
  place_fits = omega (arith, E.ready.place, E.ready.short)

  -- The symbols held and the charged tally fit an outcome.
  pub tally_fits : (held ≤ 256) × (steps ≤ 1000000) × (depth ≤ 256)
  tally_fits =
      let r = E.ready in let b = below E in
      (omega (arith, r.room, r.small_room), omega (arith, E.step, E.counted, r.few_steps), omega (arith, b.entered, r.small_depth))

  pub held_lent : (held ≤ 256) × (held * 3 ≤ length slots)
  held_lent = let r = E.ready in (omega (arith, r.room, r.small_room), omega (arith, r.room, r.lent))

  -- Where a test passes, the place that it passes to fits.
  pub range_ends : (lo hi : ℕ) {ok : Bool} → ok ≡ in_range lo hi (drop at input) → ok ≡ true → at + 1 ≤ 65535
  range_ends lo hi h e =
      omega (arith, E.ready.short, length-drop at input, range_fits lo hi (drop at input) (sym h ∙ e))

  pub any_ends : ltb at (length input) ≡ true → at + 1 ≤ 65535
  any_ends e = omega (arith, E.ready.short, ltb-true at (length input) e)

  pub text_ends : {place count : ℕ} {ok : Bool} → Kind E (Text place count) → ok ≡ begins (take count (drop place image)) (drop at input)
      → ok ≡ true → at + count ≤ 65535
  text_ends {place} {count} k h e =
      omega (
        arith,
        E.ready.short,
        E.ready.place,
        length-drop at input,
        long_text_lem E k,
        begins_fits (take count (drop place image)) (drop at input) (sym h ∙ e),
      )

  -- A symbol that is held is a part of the input, also in slots of which nothing below the held was written.
  pub held_part : {after : List ℕ} → Below held slots after → Parts (length input) held after
  held_part {after} f k l =
      E.ready.parts (symbol_at after k) (subst (Memᴰ (symbol_at after k)) (kept_below f) (symbol_held held after k l))

  module _ (table low : ℕ) {seen : Option ℕ} (e : seen ≡ latest_of table low held slots) {k : ℕ} (some : seen ≡ Some k) where
    -- What is seen is held.
    pub seen_held : k < held
    seen_held = seen_below table low slots held e some

    pub seen_fits : {after : List ℕ} → Below held slots after → (k ≤ 255) × (k * 3 + 3 ≤ length after) × Part (length input) (symbol_at after k)
    seen_fits f =
        let l = seen_held in (
          omega (arith, held_lent.0),
          omega (arith, held_lent.1, f.long),
          held_part f k l,
        )

  -- What the expression inside gives is within bounds.
  module _ {after : List ℕ} {r : Packed} (state : State) (n : ℕ)
      (done : Done held slots after r (telling code image input state (left - 1) steps depth (node (grammar_of image) n) at (symbols held slots))) where
    inner_bounds : Bounds (length input) at held (room_limit code) (opened_of r)
    inner_bounds = bounds_of state (node (grammar_of image) n) (below E) done

    pub plain_bounds : Bounds 65535 0 0 256 (opened_of r)
    plain_bounds =
        wider (length input) at held (room_limit code) 65535 0 0 256 (opened_of r) E.ready.short (omega arith) (omega arith)
        E.ready.small_room inner_bounds

    pub scope_bounds : Bounds 65535 0 held 256 (opened_of r)
    scope_bounds =
        wider (length input) at held (room_limit code) 65535 0 held 256 (opened_of r) E.ready.short (omega arith) (omega arith)
        E.ready.small_room inner_bounds

    pub named_bounds : Bounds (length input) at 0 256 (opened_of r)
    named_bounds =
        wider (length input) at held (room_limit code) (length input) at 0 256 (opened_of r) (omega arith) (omega arith) (omega arith)
        E.ready.small_room inner_bounds

    pub room_lent : room_limit code * 3 ≤ length after
    room_lent = omega (arith, done.frame.long, E.ready.lent)

    pub scope_lent : Lent after (opened_of r)
    scope_lent = lent_by (length input) at held (room_limit code) after (opened_of r) room_lent inner_bounds

-- ## The lists that Is and Isa compare with

-- One symbol is among a list of itself.
pub among_one : (x bytes : List ℕ) (s : Symbol) → same bytes (text x s) ≡ among x bytes (s ∷ [])
among_one x bytes s = go (same bytes (text x s))
  where
    go : (b : Bool) → b ≡ elim b [ true ↦ true | false ↦ false ]
    go true = refl
    go false = refl

-- A symbol below the held is the same where nothing below them was written.
pub same_symbol : {held : ℕ} {before after : List ℕ} → Below held before after → (k : ℕ) → k < held → symbol_at after k ≡ symbol_at before k
same_symbol f k l =
    cc (f.same (k * 3) (omega arith), f.same (k * 3 + 1) (omega arith), f.same (k * 3 + 2) (omega arith))

pub is_test : (x : List ℕ) (at end : ℕ) {list : Symbols} {s s' : Symbol} (l : Symbols) → s' ≡ s → list ≡ s ∷ l
    → same (part x at end) (text x s') ≡ among x (part x at end) (take 1 list)
is_test x at end {s = s} l e f =
    ap (λ s. same (part x at end) (text x s)) e ∙ among_one x (part x at end) s ∙ ap (λ l. among x (part x at end) (take 1 l)) (sym f)
