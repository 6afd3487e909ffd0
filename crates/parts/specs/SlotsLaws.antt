-- Laws of the slot buffer.
use Prim.Native.Nat.{ℕ, zero, suc, ◌+◌, ◌-◌, ◌*◌, ◌≤◌, ◌<◌}
use Rattle.std.specs.Prelude.{◌≡◌, None, Some, Bool, true, false, List, [], ◌∷◌, ◌++◌, eqb, ltb, length, take, drop, get_or, set, replicate}
use Rattle.std.proofs.Math.Path.{refl, ap}
use Rattle.std.proofs.Common.{sym, ◌∙◌, subst, append_assoc, append-nil, add-one, length-set, length-append, drop_of_length-le, get_or-set_same, get_or-set_other, ext_get_or, take-append-drop, drop-cons, length-take-le}
use native.Mathlib.Omega.{arith}
use Rattle.std.proofs.lemmas.List.{drop-append-le, length-replicate, set_at}
use Rattle.std.proofs.Math.Seq.{take-append_seam, drop-append_seam}
use borrow.Author.Tests.{le-ltb, lt-ltb, ltb-true, ltb-false, eq-eqb, ne_eqb}
use Rattle.format.specs.Reading.{pick}
use Rattle.meaning.specs.State.{Symbol, State, others}
use Rattle.meaning.specs.Rules.{symbol}
use Rattle.parts.specs.Slots.{symbol_at, symbols, putting, latest_of, Below, Closes}

-- ## The latest symbol of a table

module _ (table low : ℕ) (slots : List ℕ) where
  pub latest_end : (from : ℕ) → from ≤ low → None ≡ latest_of table low from slots
  unfolding latest_of
  latest_end zero h = refl
  latest_end (suc h) l = rw (lt-ltb h low (omega arith))

  -- The search from `held` down has come to `from`.
  pub record Sought (held from : ℕ) : Type 0 where
    pub on : from ≤ held
    pub is : latest_of table low held slots ≡ latest_of table low from slots

  pub latest_step :
      (from : ℕ) → low < from
      → latest_of table low from slots
      ≡ pick (eqb (get_or slots ((from - 1) * 3) 0) table) (Some (from - 1)) (latest_of table low (from - 1) slots)
  unfolding latest_of
  latest_step zero h = absurd (omega arith)
  latest_step (suc h) l = let e : suc h - 1 ≡ h = omega arith in rw (e, le-ltb h low (omega arith))

  module _ {held from : ℕ} (s : Sought held from) (h : low < from) where
    pub sought_here : get_or slots ((from - 1) * 3) 0 ≡ table → Some (from - 1) ≡ latest_of table low held slots
    sought_here e = sym (s.is ∙ latest_step from h ∙ rw (eq-eqb (get_or slots ((from - 1) * 3) 0) table e))

    pub sought_on : (get_or slots ((from - 1) * 3) 0 ≡ table → ⊥) → Sought held (from - 1)
    sought_on e =
        record { on = omega (arith, s.on); is = s.is ∙ latest_step from h ∙ rw (ne_eqb (get_or slots ((from - 1) * 3) 0) table e) }

-- ## Symbols and stores

pub symbols_length : (h : ℕ) (slots : List ℕ) → length (symbols h slots) ≡ h
unfolding symbols
symbols_length zero slots = refl
symbols_length (suc h) slots = length-append (symbols h slots) (symbol_at slots h ∷ []) ∙ omega (arith, symbols_length h slots)

-- Symbols that lie where nothing was written are as they were.
pub symbols_same : (h : ℕ) (s s' : List ℕ) → ((k : ℕ) → k < h * 3 → get_or s' k 0 ≡ get_or s k 0) → symbols h s' ≡ symbols h s
unfolding symbols
symbols_same zero s s' e = refl
symbols_same (suc h) s s' e =
    cc (e (h * 3) (omega arith), e (h * 3 + 1) (omega arith), e (h * 3 + 2) (omega arith), symbols_same h s s' (λ k l. e k (omega arith)))

module _ (slots : List ℕ) (h table from to : ℕ) (room : h * 3 + 3 ≤ length slots) where
  pub putting_length : length (putting slots h table from to) ≡ length slots
  putting_length = simp length-set

  pub putting_other :
      (k : ℕ) → (k ≡ h * 3 → ⊥) → (k ≡ h * 3 + 1 → ⊥) → (k ≡ h * 3 + 2 → ⊥) → get_or (putting slots h table from to) k 0 ≡ get_or slots k 0
  putting_other k n0 n1 n2 =
      get_or-set_other (set (set slots (h * 3) table) (h * 3 + 1) from) (h * 3 + 2) k to 0 n2
      ∙ get_or-set_other (set slots (h * 3) table) (h * 3 + 1) k from 0 n1
      ∙ get_or-set_other slots (h * 3) k table 0 n0

  -- What was put down stands there.
  pub putting_symbol : symbol_at (putting slots h table from to) h ≡ symbol table from to
  putting_symbol =
      let one = set slots (h * 3) table in
      let two = set one (h * 3 + 1) from in
      let a : get_or (putting slots h table from to) (h * 3) 0 ≡ table =
      get_or-set_other two (h * 3 + 2) (h * 3) to 0 (λ e. omega arith) ∙ get_or-set_other one (h * 3 + 1) (h * 3) from 0 (λ e. omega arith)
      ∙ get_or-set_same slots (h * 3) table 0 (omega arith) in
      let b : get_or (putting slots h table from to) (h * 3 + 1) 0 ≡ from =
      get_or-set_other two (h * 3 + 2) (h * 3 + 1) to 0 (λ e. omega arith)
      ∙ get_or-set_same one (h * 3 + 1) from 0 (rw (length-set slots (h * 3) table) (omega arith)) in
      let c : get_or (putting slots h table from to) (h * 3 + 2) 0 ≡ to =
      get_or-set_same two (h * 3 + 2) to 0 (rw (length-set one (h * 3 + 1) from, length-set slots (h * 3) table) (omega arith)) in
      cc

  -- One symbol more is held.
  pub putting_more : symbols (suc h) (putting slots h table from to) ≡ symbols h slots ++ (symbol table from to ∷ [])
  unfolding symbols
  putting_more =
      cc (
        symbols_same h slots (putting slots h table from to)
            (λ k l. putting_other k (λ e. omega arith) (λ e. omega arith) (λ e. omega arith)),
        putting_symbol,
      )

-- ## A scope that closes

others_append : (t : ℕ) (σ τ : State) → others t (σ ++ τ) ≡ others t σ ++ others t τ
others_append t [] τ = refl
others_append t (s ∷ σ) τ = go (eqb s.table t) (others_append t σ τ)
  where
    go : (b : Bool) → others t (σ ++ τ) ≡ others t σ ++ others t τ
        → (elim b [ true ↦ others t (σ ++ τ) | false ↦ s ∷ others t (σ ++ τ) ])
        ≡ (elim b [ true ↦ others t σ | false ↦ s ∷ others t σ ]) ++ others t τ
    go true e = e
    go false e = ap (λ l. s ∷ l) e

one_dropped : (t : ℕ) (s : Symbol) → s.table ≡ t → others t (s ∷ []) ≡ []
one_dropped t s e = rw (eq-eqb s.table t e, others)

one_kept : (t : ℕ) (s : Symbol) → (s.table ≡ t → ⊥) → others t (s ∷ []) ≡ s ∷ []
one_kept t s e = rw (ne_eqb s.table t e, others)

module _ (table mark held : ℕ) (before : List ℕ) where
  -- Of the symbols from the mark up to `from` those that stay have slid down, up to `to`; what lies from `to` on is as it was.
  pub record Closing (after : List ℕ) (from to : ℕ) : Type 0 where
    pub start : mark ≤ to
    pub behind : to ≤ from
    pub on : from ≤ held
    pub holds : symbols to after ≡ symbols mark before ++ others table (drop mark (symbols from before))
    pub frame : Below mark before after
    pub ahead : (k : ℕ) → to * 3 ≤ k → get_or after k 0 ≡ get_or before k 0

  stays :
      (from : ℕ) → mark ≤ from
      → others table (drop mark (symbols (suc from) before))
      ≡ others table (drop mark (symbols from before)) ++ others table (symbol_at before from ∷ [])
  unfolding symbols
  stays from h =
      ap (others table) (drop-append-le mark (symbols from before) (symbol_at before from ∷ [])
      (omega (arith, symbols_length from before)))
      ∙ others_append table (drop mark (symbols from before)) (symbol_at before from ∷ [])

  pub closing_starts : mark ≤ held → Closing before mark mark
  closing_starts h = record {
    start = omega arith;
    behind = omega arith;
    on = h;
    holds = rw (drop_of_length-le (symbols mark before) {i = mark} (omega (arith, symbols_length mark before)))
        (sym (append-nil (symbols mark before)));
    frame = record { long = refl; same = λ k l. refl };
    ahead = λ k l. refl;
  }

  module _ {after : List ℕ} {from to : ℕ} (c : Closing after from to) (h : from < held) where
    module _ {s : Symbol} (read : s ≡ symbol_at after from) where
      as_before : symbol_at after from ≡ symbol_at before from
      as_before =
          cc (
            c.ahead (from * 3) (omega (arith, c.behind)),
            c.ahead (from * 3 + 1) (omega (arith, c.behind)),
            c.ahead (from * 3 + 2) (omega (arith, c.behind)),
          )

      table_as : s.table ≡ get_or before (from * 3) 0
      table_as = ap (λ s. s.table) (read ∙ as_before)

      -- A symbol of the table is passed over.
      pub closing_drops : s.table ≡ table → Closing after (from + 1) to
      closing_drops e = record {
        start = c.start;
        behind = omega (arith, c.behind);
        on = omega arith;
        holds = rw (add-one from) (c.holds ∙ ap (λ l. symbols mark before ++ l) (sym (stays from (omega (arith, c.start, c.behind))
            ∙ rw (one_dropped table (symbol_at before from) (sym table_as ∙ e)) (append-nil (others table (drop mark (symbols from before)))))));
        frame = c.frame;
        ahead = c.ahead;
      }

      -- A symbol of another table slides down.
      pub closing_keeps : (s.table ≡ table → ⊥) → held * 3 ≤ length after
          → Closing (putting after to s.table s.from s.to) (from + 1) (to + 1)
      closing_keeps e room =
          let fits : to * 3 + 3 ≤ length after = omega (arith, c.behind) in
          record {
            start = omega (arith, c.start);
            behind = omega (arith, c.behind);
            on = omega arith;
            holds = rw (add-one from, add-one to) (putting_more after to s.table s.from s.to fits ∙ ap (λ l. l ++ (s ∷ [])) c.holds
                ∙ append_assoc (symbols mark before) (others table (drop mark (symbols from before))) (s ∷ [])
                ∙ ap (λ l. symbols mark before ++ l) (ap (λ s. others table (drop mark (symbols from before)) ++ (s ∷ [])) (read ∙ as_before)
                ∙ sym (stays from (omega (arith, c.start, c.behind)) ∙ rw (one_kept table (symbol_at before from) (λ z. e (table_as ∙ z))))));
            frame = record {
              long = putting_length after to s.table s.from s.to fits ∙ c.frame.long;
              same =
                  λ k l. putting_other after to s.table s.from s.to fits k (λ z. omega (arith, c.start)) (λ z. omega (arith, c.start))
                  (λ z. omega (arith, c.start)) ∙ c.frame.same k l;
            };
            ahead =
                λ k l. putting_other after to s.table s.from s.to fits k (λ z. omega arith) (λ z. omega arith) (λ z. omega arith)
                ∙ c.ahead k (omega arith);
          }

  pub closing_ends : {after : List ℕ} {from to : ℕ} → Closing after from to → held ≤ from → Closes table mark held before after to
  closing_ends {after} {from} {to} c h =
      let e : from ≡ held = omega (arith, c.on) in
      record { least = c.start; most = omega (arith, c.behind, c.on); holds = rw e at c.holds; frame = c.frame; past = c.ahead }

-- ## A closed scope leaves one buffer

-- The symbols held fix the numbers that keep them.
symbols_numbers : (h : ℕ) (a b : List ℕ) → symbols h a ≡ symbols h b → (k : ℕ) → k < h * 3 → get_or a k 0 ≡ get_or b k 0
unfolding symbols
symbols_numbers zero a b e k l = absurd (omega arith)
symbols_numbers (suc h) a b e k l = go (λ f k l. symbols_numbers h a b f k l) (ltb k (h * 3)) refl
  where
    front_of : (c : List ℕ) → take h (symbols h c ++ (symbol_at c h ∷ [])) ≡ symbols h c
    front_of c =
        subst (λ n. take n (symbols h c ++ (symbol_at c h ∷ [])) ≡ symbols h c) (symbols_length h c)
        (take-append_seam (symbols h c) (symbol_at c h ∷ []))

    end_of : (c : List ℕ) → drop h (symbols h c ++ (symbol_at c h ∷ [])) ≡ symbol_at c h ∷ []
    end_of c =
        subst (λ n. drop n (symbols h c ++ (symbol_at c h ∷ [])) ≡ symbol_at c h ∷ []) (symbols_length h c)
        (drop-append_seam (symbols h c) (symbol_at c h ∷ []))

    last : symbol_at a h ≡ symbol_at b h
    last = ap (λ l. get_or l 0 (symbol_at a h)) (sym (end_of a) ∙ ap (drop h) e ∙ end_of b)

    three : (i : ℕ) → i < 3 → get_or a (h * 3 + i) 0 ≡ get_or b (h * 3 + i) 0
    three zero m = let z : h * 3 + 0 ≡ h * 3 = omega arith in rw z (ap (λ s. s.table) last)
    three (suc zero) m = ap (λ s. s.from) last
    three (suc (suc zero)) m = ap (λ s. s.to) last
    three (suc (suc (suc i))) m = absurd (omega arith)

    go :
        (symbols h a ≡ symbols h b → (k : ℕ) → k < h * 3 → get_or a k 0 ≡ get_or b k 0) → (t : Bool) → ltb k (h * 3) ≡ t
        → get_or a k 0 ≡ get_or b k 0
    go before true q = before (sym (front_of a) ∙ ap (take h) e ∙ front_of b) k (ltb-true k (h * 3) q)
    go before false q =
        let z : h * 3 + (k - h * 3) ≡ k = omega (arith, ltb-false k (h * 3) q) in
        subst (λ k. get_or a k 0 ≡ get_or b k 0) z (three (k - h * 3) (omega (arith, ltb-false k (h * 3) q)))

-- Two outcomes that `Closes` permits are equal.
pub closes_once : {table mark held : ℕ} {before a b : List ℕ} {r q : ℕ}
    → Closes table mark held before a r → Closes table mark held before b q → (r ≡ q) × (a ≡ b)
closes_once {before =
    before} {a} {b} {r} {q} c d = (same, ext_get_or 0 a b (c.frame.long ∙ sym d.frame.long) (λ k l. go k (ltb k (r * 3)) refl))
  where
    same : r ≡ q
    same = sym (symbols_length r a) ∙ ap length (c.holds ∙ sym d.holds) ∙ symbols_length q b

    go : (k : ℕ) (t : Bool) → ltb k (r * 3) ≡ t → get_or a k 0 ≡ get_or b k 0
    go k true e =
        symbols_numbers r a b (c.holds ∙ sym d.holds ∙ ap (λ n. symbols n b) (sym same)) k (ltb-true k (r * 3) e)
    go k false e =
        let h = ltb-false k (r * 3) e in c.past k h ∙ sym (d.past k (omega (arith, same)))

-- ## Zeros

abbrev pub zeroed : (start i : ℕ) → List ℕ → List ℕ
zeroed start i slots = take start slots ++ (replicate (i - start) 0 ++ drop i slots)

module _ (start : ℕ) (slots : List ℕ) where
  pub zeroed_none : start ≤ length slots → slots ≡ zeroed start start slots
  zeroed_none h = let e : start - start ≡ 0 = omega arith in rw e (sym (take-append-drop start slots))

  one_more : (n : ℕ) (l : List ℕ) → replicate n 0 ++ (0 ∷ l) ≡ replicate (suc n) 0 ++ l
  one_more zero l = refl
  one_more (suc n) l = ap (λ m. 0 ∷ m) (one_more n l)

  pub zeroed_more : (i : ℕ) → start ≤ i → i < length slots → set (zeroed start i slots) i 0 ≡ zeroed start (i + 1) slots
  zeroed_more i h l =
      let p = take start slots ++ replicate (i - start) 0 in
      let long : length p ≡ i = length-append (take start slots) (replicate (i - start) 0)
      ∙ rw (length-take-le start slots (omega arith), length-replicate {A = ℕ} (i - start) 0) (omega arith) in
      let count : i + 1 - start ≡ suc (i - start) = omega arith in
      ap (λ m. set m i 0) (sym (append_assoc (take start slots) (replicate (i - start) 0) (drop i slots))
      ∙ ap (λ m. p ++ m) (drop-cons slots i 0 l))
      ∙ set_at p (get_or slots i 0) (drop (suc i) slots) 0 i long
      ∙ append_assoc (take start slots) (replicate (i - start) 0) (0 ∷ drop (suc i) slots)
      ∙ rw (count, add-one i) (ap (λ m. take start slots ++ m) (one_more (i - start) (drop (suc i) slots)))

  pub zeroed_all :
      (i : ℕ) → length slots ≤ i → start ≤ length slots → i ≤ length slots
      → zeroed start i slots ≡ take start slots ++ replicate (length slots - start) 0
  zeroed_all i h l m =
      let e : i ≡ length slots = omega arith in
      rw (e, drop_of_length-le slots {i = length slots} (omega arith), append-nil {A = ℕ} (replicate (length slots - start) 0))
