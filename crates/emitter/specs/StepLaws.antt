-- What the arms of a step do to the arrays is what a symbol does to what is known.
use Prim.Native.Nat.{ℕ, zero, suc, ◌+◌, ◌-◌, ◌≤◌}
use Rattle.std.specs.Prelude.{◌≡◌, take}
use Rattle.std.proofs.Math.Path.{refl, ap, ap₂, sym}
use Rattle.std.proofs.Common.{◌∙◌, subst, length-append}
use mathlib.Core.List.{List, [], ◌∷◌, ◌++◌, append-nil}
use Rattle.std.proofs.Math.Option.{Option}
use native.Mathlib.Omega.{arith}
use Rattle.std.proofs.Math.ListN.{length, drop, get_or}
use Rattle.format.specs.Written.{written, encode_node}
use Rattle.grammar.specs.Expr.{Expr}
use Rattle.notation.specs.Tree.{Name, Leaf, Prefix, and, not, Suffix, option, star, plus, sequence, choice, Opener}
use Rattle.notation.specs.Stream.{Symbol, named, stands, enters, leaves, front, back, joins}
use Rattle.notation.specs.Compile.{leaf_nodes, prefix_count, suffix_count, prefix_nodes, suffix_nodes, operator_node}
use Rattle.notation.specs.Patterns.{ends_at, brings, note}
use Rattle.lexer.specs.Meant.{suffix_of}
use Rattle.writer.specs.declared.node.Made.{Made}
use Rattle.writer.specs.declared.operator.Unary.{Unary}
use Rattle.writer.specs.declared.operator.Unary.TheVariants.{And, Not, After}
use Rattle.writer.specs.declared.operator.Binary.{Binary}
use Rattle.writer.specs.declared.operator.Binary.TheVariants.{Sequence, Choice}
use Rattle.emitter.specs.declared.state.State.{State}
use Rattle.emitter.specs.declared.state.Opened.{Opened}
use Rattle.writer.specs.Put.{Room, Adds}
use Rattle.writer.specs.PutLaws.{written_on}
use Rattle.writer.specs.Operator.{unary_nodes, binary_of}
use Rattle.emitter.specs.Known.{Tells}
use Rattle.emitter.specs.Stage.{Stage, latest, bringing, closing, new_nodes, over, complete_after, openers_after, brought_after, known_after, ends_after, after}
use Rattle.emitter.specs.Shown.{row_of, opener_in, brought_in, openers_at, brought_at, Ends, Enters, complete_at, Grows, Starts, Holds, Shown}
use Rattle.emitter.specs.ShownLaws.{leaf_length, leaf_some}

-- ## What is written

holds_on : {out now : List ℕ} {m r : Made} {xs new : List Expr} → Holds out m xs → Adds out m now r new → Holds now r (xs ++ new)
holds_on {out} {now} {m} {r} {xs} {new} h a = record {
  front = a.wrote.front ∙ ap (λ l. l ++ written encode_node new) h.front ∙ sym (written_on encode_node xs new);
  place = omega (arith, a.wrote.place, h.place, ap length (written_on encode_node xs new), length-append (written encode_node xs) (written encode_node new));
  many = omega (arith, a.many, h.many, length-append xs new);
  low = a.low;
  long = a.wrote.long ∙ h.long;
}

pub room_for : {out : List ℕ} {m : Made} {xs : List Expr} (n : ℕ) → Holds out m xs → m.nodes + n ≤ 512 → Room out m n
room_for n h k = record { long = h.long; low = h.low; few = k }

-- ## The latest of a row

module _ {A : Type 0} (f : ℕ → A) where
  row_drop : (n : ℕ) → 1 ≤ n → drop 1 (row_of f n) ≡ row_of f (n - 1)
  unfolding row_of
  row_drop zero h = absurd (omega arith)
  row_drop (suc n) h = let e : suc n - 1 ≡ n = omega arith in rw e

  row_drop_two : (n : ℕ) → 2 ≤ n → drop 2 (row_of f n) ≡ row_of f (n - 2)
  unfolding row_of
  row_drop_two zero h = absurd (omega arith)
  row_drop_two (suc zero) h = absurd (omega arith)
  row_drop_two (suc (suc n)) h = let e : suc (suc n) - 2 ≡ n = omega arith in rw e

  pub row_first : (n : ℕ) → 1 ≤ n → row_of f n ≡ f (n - 1) ∷ row_of f (n - 1)
  unfolding row_of
  row_first zero h = absurd (omega arith)
  row_first (suc n) h = let e : suc n - 1 ≡ n = omega arith in rw e

row_latest : (f : ℕ → ℕ) (n : ℕ) → 1 ≤ n → latest (row_of f n) ≡ f (n - 1)
row_latest f n h = ap latest (row_first f n h)

row_second : (f : ℕ → ℕ) (n : ℕ) → 2 ≤ n → latest (drop 1 (row_of f n)) ≡ f (n - 2)
row_second f n h =
    let e : n - 1 - 1 ≡ n - 2 = omega arith in
    ap latest (row_drop f n (omega arith)) ∙ row_latest f (n - 1) (omega arith) ∙ ap f e

-- ## Prefixes, suffixes and what joins two

abbrev pub unary_symbol : Unary → Symbol
unary_symbol And = front and
unary_symbol Not = front not
unary_symbol (After s) = back (suffix_of s)

abbrev pub binary_symbol : Binary → Symbol
binary_symbol Sequence = joins sequence
binary_symbol Choice = joins choice

pub prefix_length : (p : Prefix) (a k : ℕ) → length (prefix_nodes p a k) ≡ prefix_count p
prefix_length and a k = refl
prefix_length not a k = refl

pub suffix_length : (q : Suffix) (a k : ℕ) → length (suffix_nodes q a k) ≡ suffix_count q
suffix_length option a k = refl
suffix_length star a k = refl
suffix_length plus a k = refl

-- ## A symbol is taken

module _
    (production table condition : Name → ℕ)
    {text : List ℕ} {ts : List Name} {out patterns ends done : List ℕ} {opened : List Opened} {s : State} {st : Stage}
    (S : Shown text ts out patterns ends done opened s st)
  where
    -- What nodes were added, and what is complete and open behind them, is what the symbol says.
    shown_grown :
        (x : Symbol) {now laid known : List ℕ} {r : State} {depth openers : ℕ} {new : List Expr} → Grows out done s depth openers new now laid r
        → depth + 1 ≤ s.made.nodes + length new → new ≡ new_nodes production table condition x st
        → over st.nodes new (complete_at done depth) ≡ complete_after production table condition x st
        → openers_at text opened openers ≡ openers_after x st
        → brought_at text opened openers ≡ brought_after x st
        → Tells known ts (known_after x st) → st.ends ≡ ends_after x st
        → Shown text ts now known ends laid opened r (after production table condition x st)
    unfolding after
    shown_grown x {laid = laid} {r = r} {depth = depth} {new = new} g h e f o b k n = record {
      holds = rw (← e) (holds_on S.holds g.adds);
      complete_shown = g.row ∙ ap (λ m. (m + length new - 1) ∷ complete_at done depth) S.holds.many ∙ f;
      openers_shown = rw g.open_then o;
      brought_shown = rw g.open_then b;
      known_shown = k;
      ends_shown = rw g.ended (S.ends_shown ∙ n);
      tall = omega (arith, g.tall, g.adds.many);
      few_ends = omega (arith, g.ended, S.few_ends);
      long_ends = S.long_ends;
      long_done = g.long ∙ S.long_done;
      long_opened = S.long_opened;
    }

    pub shown_stand :
        (l : Leaf) {now laid : List ℕ} {r : State}
        → Grows out done s s.complete s.openers (leaf_nodes production table condition s.made.nodes l) now laid r
        → Shown text ts now patterns ends laid opened r (after production table condition (stands l) st)
    unfolding new_nodes complete_after openers_after brought_after known_after ends_after
    shown_stand l g =
        let e : leaf_nodes production table condition s.made.nodes l ≡ leaf_nodes production table condition (length st.nodes) l =
        ap (λ k. leaf_nodes production table condition k l) S.holds.many in
        shown_grown (stands l) g (omega (arith, S.tall, leaf_length production table condition s.made.nodes l, leaf_some l)) e
        (ap₂ (λ new below. (length st.nodes + length new - 1) ∷ below) e S.complete_shown) S.openers_shown S.brought_shown S.known_shown refl

    -- The operand is the latest that is complete.
    module _ (h : 1 ≤ s.complete) where
      operand : latest st.complete ≡ get_or done (s.complete - 1) 0
      operand = ap latest (sym S.complete_shown) ∙ row_latest (λ i. get_or done i 0) s.complete h

      below : complete_at done (s.complete - 1) ≡ drop 1 st.complete
      below = sym (row_drop (λ i. get_or done i 0) s.complete h) ∙ ap (drop 1) S.complete_shown

      operands : (u : Unary) → unary_nodes u (get_or done (s.complete - 1) 0) s.made.nodes ≡ unary_nodes u (latest st.complete) (length st.nodes)
      operands u = ap₂ (unary_nodes u) (sym operand) S.holds.many

      complete : (u : Unary)
          → over st.nodes (unary_nodes u (get_or done (s.complete - 1) 0) s.made.nodes) (complete_at done (s.complete - 1))
          ≡ over st.nodes (unary_nodes u (latest st.complete) (length st.nodes)) (drop 1 st.complete)
      complete u = ap₂ (λ new below. (length st.nodes + length new - 1) ∷ below) (operands u) below

      pub shown_follow :
          (u : Unary) {now laid : List ℕ} {r : State}
          → Grows out done s (s.complete - 1) s.openers (unary_nodes u (get_or done (s.complete - 1) 0) s.made.nodes) now laid r
          → Shown text ts now patterns ends laid opened r (after production table condition (unary_symbol u) st)
      unfolding new_nodes complete_after openers_after brought_after known_after ends_after unary_nodes
      shown_follow And g = shown_grown (front and) g (omega (arith, S.tall)) (operands And) (complete And) S.openers_shown S.brought_shown S.known_shown refl
      shown_follow Not g = shown_grown (front not) g (omega (arith, S.tall)) (operands Not) (complete Not) S.openers_shown S.brought_shown S.known_shown refl
      shown_follow (After q) g =
          shown_grown (back (suffix_of q)) g (omega (arith, S.tall)) (operands (After q)) (complete (After q)) S.openers_shown S.brought_shown S.known_shown refl

      -- The latest operator ends.
      pub shown_leave :
          1 ≤ s.openers → {now known laid : List ℕ} {r : State}
          → Grows out done s (s.complete - 1) (s.openers - 1)
          (operator_node production table condition (opener_in text opened (s.openers - 1)) (get_or done (s.complete - 1) 0) ∷ [])
          now laid r
          → Ends patterns ts (brought_in text opened (s.openers - 1)) (s.made.nodes - 1) known
          → Shown text ts now known ends laid opened r (after production table condition leaves st)
      unfolding new_nodes complete_after openers_after brought_after known_after ends_after
      shown_leave k {known = known} g d =
          let fo : ℕ → Opener = opener_in text opened in
          let fb : ℕ → Option Name = brought_in text opened in
          let o : fo (s.openers - 1) ∷ row_of fo (s.openers - 1) ≡ st.openers = sym (row_first fo s.openers k) ∙ S.openers_shown in
          let b : fb (s.openers - 1) ∷ row_of fb (s.openers - 1) ≡ st.brought = sym (row_first fb s.openers k) ∙ S.brought_shown in
          let v : operator_node production table condition (fo (s.openers - 1)) (get_or done (s.complete - 1) 0) ∷ [] ≡ closing production table condition st.openers (latest st.complete) =
          ap₂ (closing production table condition) o (sym operand) in
          shown_grown leaves g (omega (arith, S.tall)) v (ap₂ (λ new below. (length st.nodes + length new - 1) ∷ below) v below)
          (ap (drop 1) o) (ap (drop 1) b)
          (subst (λ m. Tells known ts (note m (ends_at (length st.nodes - 1)) st.known)) (ap bringing b)
          (subst (λ n. Tells known ts (note (fb (s.openers - 1)) (ends_at (n - 1)) st.known)) S.holds.many (d.tells st.known S.known_shown))) refl

    module _ (h : 2 ≤ s.complete) where
      pair : (x : Binary) → binary_of x (get_or done (s.complete - 2) 0) (get_or done (s.complete - 1) 0) ∷ [] ≡ binary_of x (latest (drop 1 st.complete)) (latest st.complete) ∷ []
      pair x =
          let f : ℕ → ℕ = λ i. get_or done i 0 in
          let e : latest (drop 1 st.complete) ≡ f (s.complete - 2) = ap (λ l. latest (drop 1 l)) (sym S.complete_shown) ∙ row_second f s.complete h in
          ap₂ (λ a b. binary_of x a b ∷ []) (sym e) (sym (operand (omega arith)))

      joined : (x : Binary)
          → over st.nodes (binary_of x (get_or done (s.complete - 2) 0) (get_or done (s.complete - 1) 0) ∷ []) (complete_at done (s.complete - 2))
          ≡ over st.nodes (binary_of x (latest (drop 1 st.complete)) (latest st.complete) ∷ []) (drop 2 st.complete)
      joined x =
          ap₂ (λ new below. (length st.nodes + length new - 1) ∷ below) (pair x)
          (sym (row_drop_two (λ i. get_or done i 0) s.complete h) ∙ ap (drop 2) S.complete_shown)

      pub shown_join :
          (x : Binary) {now laid : List ℕ} {r : State}
          → Grows out done s (s.complete - 2) s.openers (binary_of x (get_or done (s.complete - 2) 0) (get_or done (s.complete - 1) 0) ∷ []) now laid r
          → Shown text ts now patterns ends laid opened r (after production table condition (binary_symbol x) st)
      unfolding new_nodes complete_after openers_after brought_after known_after ends_after binary_of
      shown_join Sequence g = shown_grown (joins sequence) g (omega (arith, S.tall)) (pair Sequence) (joined Sequence) S.openers_shown S.brought_shown S.known_shown refl
      shown_join Choice g = shown_grown (joins choice) g (omega (arith, S.tall)) (pair Choice) (joined Choice) S.openers_shown S.brought_shown S.known_shown refl

    -- What adds no node.
    shown_none :
        (x : Symbol) {known ended : List ℕ} {laid : List Opened} {r : State} → r.made ≡ s.made → new_nodes production table condition x st ≡ []
        → complete_at done r.complete ≡ complete_after production table condition x st → r.complete ≤ r.made.nodes
        → openers_at text laid r.openers ≡ openers_after x st
        → brought_at text laid r.openers ≡ brought_after x st
        → Tells known ts (known_after x st) → take r.ended ended ≡ ends_after x st
        → r.ended ≤ length ended → length ended ≡ length ends → length laid ≡ length opened
        → Shown text ts out known ended done laid r (after production table condition x st)
    unfolding after
    shown_none x m e c l o b k n i u v = record {
      holds = rw (m, e, append-nil st.nodes) S.holds;
      complete_shown = c;
      openers_shown = o;
      brought_shown = b;
      known_shown = k;
      ends_shown = n;
      tall = l;
      few_ends = i;
      long_ends = u ∙ S.long_ends;
      long_done = S.long_done;
      long_opened = v ∙ S.long_opened;
    }

    pub shown_enter :
        {o : Opener} {known : List ℕ} {laid : List Opened} {r : State} → Enters text ts patterns opened s o known laid r
        → Shown text ts out known ends done laid r (after production table condition (enters o) st)
    unfolding new_nodes complete_after openers_after brought_after known_after ends_after
    shown_enter {o = o} {r = r} g =
        let m = ap (λ r. r.made) g.state in
        let c = ap (λ r. r.complete) g.state in
        let n = ap (λ r. r.openers) g.state in
        let e = ap (λ r. r.ended) g.state in
        shown_none (enters o) m refl (rw c S.complete_shown) (rw (c, m) S.tall) (rw n (g.openers ∙ ap (λ l. o ∷ l) S.openers_shown))
        (rw n (g.brought st.known S.known_shown ∙ ap (λ l. brings o st.known ∷ l) S.brought_shown)) (g.tells st.known S.known_shown)
        (rw e S.ends_shown) (rw e S.few_ends) refl g.long.1

    pub shown_begin :
        (n : Name) {ended : List ℕ} {r : State} → Starts ends s ended r
        → Shown text ts out patterns ended done opened r (after production table condition (named n) st)
    unfolding new_nodes complete_after openers_after brought_after known_after ends_after row_of
    shown_begin n {ended} {r} g =
        let m = ap (λ r. r.made) g.state in
        let c = ap (λ r. r.complete) g.state in
        let o = ap (λ r. r.openers) g.state in
        let d = g.ends_one in
        shown_none (named n) m refl (rw c) (rw c (omega arith)) (rw o) (rw o) S.known_shown
        (d.front ∙ rw (S.holds.many, S.holds.place, S.ends_shown)) (omega (arith, d.few, d.long)) d.long refl
