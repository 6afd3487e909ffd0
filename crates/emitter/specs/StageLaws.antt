-- BEHIND A READING'S SYMBOLS WHAT IS KNOWN IS WHAT `compile` SAYS.
use Prim.Native.Nat.{ℕ, zero, suc, ◌+◌, ◌-◌, ◌≤◌}
use Rattle.std.specs.Prelude.{◌≡◌, Bool, true, false}
use Rattle.std.proofs.Math.Path.{refl, ap, sym}
use Rattle.std.proofs.Common.{◌∙◌}
use mathlib.Core.List.{List, [], ◌∷◌, ◌++◌, append_assoc, append-nil}
use Rattle.std.proofs.Math.Option.{Option, some, none}
use native.Mathlib.Omega.{arith}
use Rattle.std.proofs.Math.Numerals.{add-one}
use Rattle.std.proofs.Math.ListN.{length, length-append}
use Rattle.grammar.specs.Expr.{Expr}
use Rattle.notation.specs.Tree.{Name, Opener, def, block, local, on, Tree, leaf, prefix, suffix, binary, within}
use Rattle.notation.specs.Stream.{Symbol, named, stands, enters, leaves, front, back, joins, post}
use Rattle.notation.specs.Naming.{all, member, per_leaf, per_operator, table_in}
use Rattle.notation.specs.Limits.{short}
use Rattle.notation.specs.Compile.{leaf_count, prefix_count, suffix_count, leaf_nodes, prefix_nodes, suffix_nodes, binary_node, operator_node}
use Rattle.notation.specs.CompileLaws.{member-here, member_later, member-left, member_right}
use Rattle.notation.specs.MemberLaws.{all_both}
use Rattle.format.specs.Reading.{pick}
use Rattle.notation.specs.Build.{built}
use Rattle.notation.specs.Patterns.{Known, known_behind, is_new, brings}
use Rattle.emitter.specs.Stage.{Stage, new_nodes, complete_after, openers_after, brought_after, known_after, after, run}
use Rattle.emitter.specs.Shown.{Tabled, Brought}
use Rattle.emitter.specs.ShownLaws.{leaf_length}
use Rattle.emitter.specs.StepLaws.{prefix_length, suffix_length}

-- ## Symbols that a walk puts out

-- For each symbol enough is complete and open; quoted text is short, and a table that is defined is one of these.
module _ (ts : List Name) where
  abbrev pub Proper : List Symbol → (complete openers : ℕ) → Type 0
  Proper [] r o = o ≡ 0
  Proper (named n ∷ ss) r o = (o ≡ 0) × Proper ss 0 0
  Proper (stands l ∷ ss) r o = (all (λ b. b) (short l) ≡ true) × Proper ss (suc r) o
  Proper (enters x ∷ ss) r o = Tabled ts x × Proper ss r (suc o)
  Proper (leaves ∷ ss) zero o = ⊥
  Proper (leaves ∷ ss) (suc r) zero = ⊥
  Proper (leaves ∷ ss) (suc r) (suc o) = Proper ss (suc r) o
  Proper (front p ∷ ss) zero o = ⊥
  Proper (front p ∷ ss) (suc r) o = Proper ss (suc r) o
  Proper (back q ∷ ss) zero o = ⊥
  Proper (back q ∷ ss) (suc r) o = Proper ss (suc r) o
  Proper (joins b ∷ ss) zero o = ⊥
  Proper (joins b ∷ ss) (suc zero) o = ⊥
  Proper (joins b ∷ ss) (suc (suc r)) o = Proper ss (suc r) o

  abbrev Tables : List Name → Type 0
  Tables ns = (t : Name) → member t ns ≡ true → member t ts ≡ true

  -- An expression's symbols are proper, and leave it complete.
  pub proper_post :
      (a : Tree) (ss : List Symbol) (r o : ℕ) → all (λ b. b) (per_leaf short a) ≡ true → Tables (per_operator table_in a) → Proper ss (suc r) o
      → Proper (post a ++ ss) r o
  unfolding post
  proper_post (leaf l) ss r o h t p = (h, p)
  proper_post (prefix q a) ss r o h t p = rw (append_assoc (post a) (front q ∷ []) ss) (proper_post a (front q ∷ ss) r o h t p)
  proper_post (suffix q a) ss r o h t p = rw (append_assoc (post a) (back q ∷ []) ss) (proper_post a (back q ∷ ss) r o h t p)
  proper_post (binary b x y) ss r o h t p =
      let k = all_both (per_leaf short x) (per_leaf short y) h in
      rw (append_assoc (post x) (post y ++ (joins b ∷ [])) ss, append_assoc (post y) (joins b ∷ []) ss)
      (proper_post x (post y ++ (joins b ∷ ss)) r o k.0 (λ n m. t n (member-left n (per_operator table_in x) (per_operator table_in y) m))
      (proper_post y (joins b ∷ ss) (suc r) o k.1 (λ n m. t n (member_right n (per_operator table_in x) (per_operator table_in y) m)) p))
  proper_post (within (def n) a) ss r o h t p = (
    t n (member-here n (per_operator table_in a)),
    rw (append_assoc (post a) (leaves ∷ []) ss) (proper_post a (leaves ∷ ss) r (suc o) h (λ u m. t u (member_later u n (per_operator table_in a) m)) p),
  )
  proper_post (within (block n) a) ss r o h t p = (
    tt,
    rw (append_assoc (post a) (leaves ∷ []) ss) (proper_post a (leaves ∷ ss) r (suc o) h (λ u m. t u (member_later u n (per_operator table_in a) m)) p),
  )
  proper_post (within (local n) a) ss r o h t p = (
    tt,
    rw (append_assoc (post a) (leaves ∷ []) ss) (proper_post a (leaves ∷ ss) r (suc o) h (λ u m. t u (member_later u n (per_operator table_in a) m)) p),
  )
  proper_post (within (on c w) a) ss r o h t p =
      (tt, rw (append_assoc (post a) (leaves ∷ []) ss) (proper_post a (leaves ∷ ss) r (suc o) h t p))

-- ## One symbol

abbrev stage : List Expr → List ℕ → List Opener → List (Option Name) → (Name → Known) → List ℕ → Stage
stage xs rs os ms f es = record { nodes = xs; complete = rs; openers = os; brought = ms; known = f; ends = es }

module _ (ts : List Name) (production table condition : Name → ℕ) where
  module _ (ss : List Symbol) (xs : List Expr) (ms : List (Option Name)) (f : Name → Known) (es : List ℕ) where
    -- The nodes that it adds, and those that the rest adds.
    built_on :
        (x : Symbol) (rs : List ℕ) (os : List Opener) → Proper ts (x ∷ ss) (length rs) (length os)
        → (let st = stage xs rs os ms f es in
        built production table condition (x ∷ ss) (length xs) rs os
        ≡ new_nodes production table condition x st ++ built production table condition ss (length (xs ++ new_nodes production table condition x st))
        (complete_after production table condition x st) (openers_after x st))
    unfolding built new_nodes complete_after openers_after
    built_on (named n) rs os p = rw (append-nil xs)
    built_on (stands l) rs os p =
        rw (length-append xs (leaf_nodes production table condition (length xs) l), leaf_length production table condition (length xs) l)
    built_on (enters o) rs os p = rw (append-nil xs)
    built_on leaves [] os p = absurd p
    built_on leaves (a ∷ rs) [] p = absurd p
    built_on leaves (a ∷ rs) (o ∷ os) p =
        let e : length xs + 1 - 1 ≡ length xs = omega arith in
        rw (length-append xs (operator_node production table condition o a ∷ []), e, add-one (length xs))
    built_on (front q) [] os p = absurd p
    built_on (front q) (a ∷ rs) os p = rw (length-append xs (prefix_nodes q a (length xs)), prefix_length q a (length xs))
    built_on (back q) [] os p = absurd p
    built_on (back q) (a ∷ rs) os p = rw (length-append xs (suffix_nodes q a (length xs)), suffix_length q a (length xs))
    built_on (joins b) [] os p = absurd p
    built_on (joins b) (y ∷ []) os p = absurd p
    built_on (joins b) (y ∷ x ∷ rs) os p =
        let e : length xs + 1 - 1 ≡ length xs = omega arith in
        rw (length-append xs (binary_node b x y ∷ []), e, add-one (length xs))

    -- The rest is proper behind it.
    proper_on :
        (x : Symbol) (rs : List ℕ) (os : List Opener) → Proper ts (x ∷ ss) (length rs) (length os)
        → (let st = stage xs rs os ms f es in
        Proper ts ss (length (complete_after production table condition x st)) (length (openers_after x st)))
    unfolding complete_after openers_after
    proper_on (named n) rs os p = p.1
    proper_on (stands l) rs os p = p.1
    proper_on (enters o) rs os p = p.1
    proper_on leaves [] os p = absurd p
    proper_on leaves (a ∷ rs) [] p = absurd p
    proper_on leaves (a ∷ rs) (o ∷ os) p = p
    proper_on (front q) [] os p = absurd p
    proper_on (front q) (a ∷ rs) os p = p
    proper_on (back q) [] os p = absurd p
    proper_on (back q) (a ∷ rs) os p = p
    proper_on (joins b) [] os p = absurd p
    proper_on (joins b) (y ∷ []) os p = absurd p
    proper_on (joins b) (y ∷ x ∷ rs) os p = p

  pub proper_after : (x : Symbol) (ss : List Symbol) (st : Stage) → Proper ts (x ∷ ss) (length st.complete) (length st.openers)
      → Proper ts ss (length (after production table condition x st).complete) (length (after production table condition x st).openers)
  unfolding after
  proper_after x ss st p = proper_on ss st.nodes st.brought st.known st.ends x st.complete st.openers p

  -- ## All symbols

  pub run_nodes : (ss : List Symbol) (st : Stage) → Proper ts ss (length st.complete) (length st.openers)
      → (run production table condition ss st).nodes ≡ st.nodes ++ built production table condition ss (length st.nodes) st.complete st.openers
  unfolding run built after
  run_nodes [] st p = sym (append-nil st.nodes)
  run_nodes (x ∷ ss) st p =
      run_nodes ss (after production table condition x st) (proper_after x ss st p)
      ∙ append_assoc st.nodes (new_nodes production table condition x st) _
      ∙ ap (λ l. st.nodes ++ l) (sym (built_on ss st.nodes st.brought st.known st.ends x st.complete st.openers p))

  -- Each operator that is open adds a node yet.
  open_few : (ss : List Symbol) (k : ℕ) (rs : List ℕ) (os : List Opener) → Proper ts ss (length rs) (length os)
      → length os ≤ length (built production table condition ss k rs os)
  unfolding built
  open_few [] k rs os p = omega arith
  open_few (named n ∷ ss) k rs os p = omega (arith, p.0)
  open_few (stands l ∷ ss) k rs os p =
      omega (
        arith,
        open_few ss (k + leaf_count l) ((k + leaf_count l - 1) ∷ rs) os p.1,
        length-append (leaf_nodes production table condition k l) (built production table condition ss (k + leaf_count l) ((k + leaf_count l - 1) ∷ rs) os),
      )
  open_few (enters o ∷ ss) k rs os p = omega (arith, open_few ss k rs (o ∷ os) p.1)
  open_few (leaves ∷ ss) k [] os p = absurd p
  open_few (leaves ∷ ss) k (a ∷ rs) [] p = absurd p
  open_few (leaves ∷ ss) k (a ∷ rs) (o ∷ os) p = omega (arith, open_few ss (suc k) (k ∷ rs) os p)
  open_few (front q ∷ ss) k [] os p = absurd p
  open_few (front q ∷ ss) k (a ∷ rs) os p =
      omega (
        arith,
        open_few ss (k + prefix_count q) ((k + prefix_count q - 1) ∷ rs) os p,
        length-append (prefix_nodes q a k) (built production table condition ss (k + prefix_count q) ((k + prefix_count q - 1) ∷ rs) os),
      )
  open_few (back q ∷ ss) k [] os p = absurd p
  open_few (back q ∷ ss) k (a ∷ rs) os p =
      omega (
        arith,
        open_few ss (k + suffix_count q) ((k + suffix_count q - 1) ∷ rs) os p,
        length-append (suffix_nodes q a k) (built production table condition ss (k + suffix_count q) ((k + suffix_count q - 1) ∷ rs) os),
      )
  open_few (joins b ∷ ss) k [] os p = absurd p
  open_few (joins b ∷ ss) k (y ∷ []) os p = absurd p
  open_few (joins b ∷ ss) k (y ∷ x ∷ rs) os p = omega (arith, open_few ss (suc k) (k ∷ rs) os p)

  -- So all nodes are more than those so far and those yet to come.
  pub run_few : (ss : List Symbol) (st : Stage) → Proper ts ss (length st.complete) (length st.openers)
      → length st.nodes + length st.openers ≤ length (run production table condition ss st).nodes
  run_few ss st p =
      omega (
        arith,
        ap length (run_nodes ss st p),
        length-append st.nodes (built production table condition ss (length st.nodes) st.complete st.openers),
        open_few ss (length st.nodes) st.complete st.openers p,
      )

  -- ## What is known of the tables

  module _ (ss : List Symbol) (xs : List Expr) (f : Name → Known) (es : List ℕ) where
    known_on :
        (x : Symbol) (rs : List ℕ) (os : List Opener) (ms : List (Option Name)) → Proper ts (x ∷ ss) (length rs) (length os) → length ms ≡ length os
        → (let st = stage xs rs os ms f es in
        known_behind (x ∷ ss) (length xs) ms f
        ≡ known_behind ss (length (xs ++ new_nodes production table condition x st)) (brought_after x st) (known_after x st))
    unfolding known_behind new_nodes brought_after known_after
    known_on (named n) rs os ms p e = rw (append-nil xs)
    known_on (stands l) rs os ms p e =
        rw (length-append xs (leaf_nodes production table condition (length xs) l), leaf_length production table condition (length xs) l)
    known_on (enters o) rs os ms p e = rw (append-nil xs)
    known_on leaves [] os ms p e = absurd p
    known_on leaves (a ∷ rs) [] ms p e = absurd p
    known_on leaves (a ∷ rs) (o ∷ os) [] p e = absurd (omega arith)
    known_on leaves (a ∷ rs) (o ∷ os) (m ∷ ms) p e = rw (length-append xs (operator_node production table condition o a ∷ []), add-one (length xs))
    known_on (front q) [] os ms p e = absurd p
    known_on (front q) (a ∷ rs) os ms p e = rw (length-append xs (prefix_nodes q a (length xs)), prefix_length q a (length xs))
    known_on (back q) [] os ms p e = absurd p
    known_on (back q) (a ∷ rs) os ms p e = rw (length-append xs (suffix_nodes q a (length xs)), suffix_length q a (length xs))
    known_on (joins b) [] os ms p e = absurd p
    known_on (joins b) (y ∷ []) os ms p e = absurd p
    known_on (joins b) (y ∷ x ∷ rs) os ms p e = rw (length-append xs (binary_node b x y ∷ []), add-one (length xs))

    -- Each operator that is open has its table, or none; and these are tables.
    matched_on :
        (x : Symbol) (rs : List ℕ) (os : List Opener) (ms : List (Option Name)) → Proper ts (x ∷ ss) (length rs) (length os) → length ms ≡ length os
        → (let st = stage xs rs os ms f es in
        length (brought_after x st) ≡ length (openers_after x st))
    unfolding brought_after openers_after
    matched_on (named n) rs os ms p e = refl
    matched_on (stands l) rs os ms p e = e
    matched_on (enters o) rs os ms p e = ap suc e
    matched_on leaves [] os ms p e = absurd p
    matched_on leaves (a ∷ rs) [] ms p e = absurd p
    matched_on leaves (a ∷ rs) (o ∷ os) [] p e = absurd (omega arith)
    matched_on leaves (a ∷ rs) (o ∷ os) (m ∷ ms) p e = omega arith
    matched_on (front q) rs os ms p e = e
    matched_on (back q) rs os ms p e = e
    matched_on (joins b) rs os ms p e = e

    brings_tabled : (o : Opener) (ms : List (Option Name)) → Tabled ts o → Brought ts ms → Brought ts (brings o f ∷ ms)
    brings_tabled (def t) ms h b = go (is_new (f t))
      where
        go : (n : Bool) → Brought ts (pick n (some t) none ∷ ms)
        go true = (h, b)
        go false = b
    brings_tabled (block t) ms h b = b
    brings_tabled (local t) ms h b = b
    brings_tabled (on c w) ms h b = b

    brought_rest : (m : Option Name) (ms : List (Option Name)) → Brought ts (m ∷ ms) → Brought ts ms
    brought_rest (some t) ms b = b.1
    brought_rest none ms b = b

    brought_on :
        (x : Symbol) (rs : List ℕ) (os : List Opener) (ms : List (Option Name)) → Proper ts (x ∷ ss) (length rs) (length os) → Brought ts ms
        → Brought ts (brought_after x (stage xs rs os ms f es))
    unfolding brought_after
    brought_on (named n) rs os ms p b = tt
    brought_on (stands l) rs os ms p b = b
    brought_on (enters o) rs os ms p b = brings_tabled o ms p.0 b
    brought_on leaves rs os [] p b = tt
    brought_on leaves rs os (m ∷ ms) p b = brought_rest m ms b
    brought_on (front q) rs os ms p b = b
    brought_on (back q) rs os ms p b = b
    brought_on (joins k) rs os ms p b = b

  -- What holds between two symbols, the rest of them being these.
  pub record Sane (ss : List Symbol) (st : Stage) : Type 0 where
    pub proper : Proper ts ss (length st.complete) (length st.openers)
    pub matched : length st.brought ≡ length st.openers
    pub tabled : Brought ts st.brought

  pub sane_after : (x : Symbol) (ss : List Symbol) (st : Stage) → Sane (x ∷ ss) st → Sane ss (after production table condition x st)
  unfolding after
  sane_after x ss st h = record {
    proper = proper_after x ss st h.proper;
    matched = matched_on ss st.nodes st.known st.ends x st.complete st.openers st.brought h.proper h.matched;
    tabled = brought_on ss st.nodes st.known st.ends x st.complete st.openers st.brought h.proper h.tabled;
  }

  pub run_known : (ss : List Symbol) (st : Stage) → Sane ss st
      → (run production table condition ss st).known ≡ known_behind ss (length st.nodes) st.brought st.known
  unfolding run known_behind after
  run_known [] st h = refl
  run_known (x ∷ ss) st h =
      run_known ss (after production table condition x st) (sane_after x ss st h)
      ∙ sym (known_on ss st.nodes st.known st.ends x st.complete st.openers st.brought h.proper h.matched)
