-- On the way through a text's symbols: what is known, and what is still to come, come to what the whole comes to.
use Prim.Native.Nat.{ℕ, zero, suc, ◌+◌, ◌≤◌, ◌<◌}
use mathlib.Core.Path.{◌≡◌, refl, ap, ap₂, sym, ◌∙◌, subst, fun_ext}
use mathlib.Core.Bool.{Bool, true, false}
use mathlib.Core.List.{List, [], ◌∷◌, ◌++◌, map}
use native.Mathlib.Omega.{arith}
use lib.Dec.{eqb}
use lib.ListN.{length, take, get_or, replicate, length-append, length-map, length-take}
use lib.Seq.{length-take-le, get_or-take}
use Rattle.format.specs.Reading.{pick}
use Rattle.format.specs.Written.{written, encode_node}
use Rattle.notation.specs.Tree.{Name, Opener, Production}
use Rattle.notation.specs.Token.{bare}
use Rattle.notation.specs.Text.{ReadsAs}
use Rattle.notation.specs.TextLaws.{lexes_once, one_reading}
use Rattle.notation.specs.Stream.{Symbol, named, stands, enters, leaves, front, back, joins, symbols, Stream, ◌▸◌, ◌▸▸◌, ended, broken, start, streamed}
use Rattle.notation.specs.StreamLaws.{reads_derived}
use Rattle.notation.specs.Lexer.{tokens}
use Rattle.notation.specs.LexicalText.{no_way}
use Rattle.notation.specs.Naming.{per_leaf, per_operator, everywhere, table_of, table_in, names, conditions, member}
use Rattle.notation.specs.Naming as Naming
use Rattle.notation.specs.Compile.{sorted, place, entry, leaf_nodes, prefix_nodes, suffix_nodes, emit_all, compile}
use Rattle.notation.specs.Compile as Compile
use Rattle.notation.specs.CompileLaws.{member_right}
use Rattle.notation.specs.OrderLaws.{sorted_ascending, sorted_member}
use Rattle.notation.specs.Patterns.{none_yet, known_behind, nothing_known}
use Rattle.index.specs.Listed.{Ascending}
use Rattle.index.specs.PlaceLaws.{names_length}
use Rattle.walker.specs.declared.walk.Walk.{Walk}
use Rattle.lexer.specs.declared.token.Token.{Token}
use Rattle.walker.specs.declared.act.Open.{Open}
use Rattle.walker.specs.declared.walk.Symbol as W
use Rattle.walker.specs.declared.walk.Step.{Step}
use Rattle.walker.specs.Walks.{rest, Walks, symbol_at, Gives, NextsBy, Nexts, Begins}
use Rattle.emitter.specs.declared.state.Opened.{Opened}
use Rattle.emitter.specs.declared.state.State.{State}
use Rattle.writer.specs.Named.{names_of, place_by, production_by, Numbered}
use Rattle.emitter.specs.Known.{known_of, Tells}
use Rattle.emitter.specs.Stage.{Stage, nothing_made, bytes_of, ended_by, new_nodes, openers_after, ends_after, after, run}
use Rattle.emitter.specs.StageLaws.{Proper, Sane, sane_after, run_few}
use Rattle.emitter.specs.Shown.{row_of, EndsOne, Shown, Apt}
use Rattle.emitter.specs.ShownLaws.{row_length, leaf_length}
use Rattle.emitter.specs.StepLaws.{prefix_length, suffix_length}
use Rattle.emitter.specs.Emitted.{Ready, nodes_up_to, Emits}
use Rattle.emitter.specs.EmittedLaws.{Fine, up_to_length, whole_sane, whole_nodes, whole_known, whole_ends, whole_few, patterns_found}

map_at : (f : ℕ → ℕ) (l : List ℕ) (i : ℕ) → i < length l → get_or (map f l) i 0 ≡ f (get_or l i 0)
map_at f [] i h = absurd (omega arith)
map_at f (x ∷ l) zero h = refl
map_at f (x ∷ l) (suc i) h = map_at f l i (omega arith)

-- ## What the slices stand for

module _ {text heads roots tables switches : List ℕ} (R : Ready text heads roots tables switches) where
  abbrev ps : List Production
  ps = R.productions

  pub heads_listed : Ascending (names_of text heads)
  heads_listed = subst Ascending (sym R.heads_are) (sorted_ascending (names ps))

  pub numbered : Numbered text tables switches
  numbered = record {
    tables_listed = subst Ascending (sym R.tables_are) (sorted_ascending (Naming.tables ps));
    switches_listed = subst Ascending (sym R.switches_are) (sorted_ascending (conditions ps));
    few_tables = R.few_tables;
    few_switches = R.few_switches;
  }

  fine : Fine (names_of text tables) ps
  fine = (
    R.short_texts,
    λ t m. subst (λ ts. member t ts ≡ true) (sym R.tables_are)
        (sorted_member t (Naming.tables ps) ∙ member_right t (everywhere (per_leaf table_of) ps) (everywhere (per_operator table_in) ps) m),
  )

  -- The nodes are those of the grammar.
  nodes_compiled : emit_all (production_by text heads roots) (place_by text tables) (place_by text switches) 0 ps ≡ (compile ps).nodes
  unfolding compile
  nodes_compiled =
      ap (λ f. emit_all f (place_by text tables) (place_by text switches) 0 ps) (fun_ext R.roots_are)
      ∙ ap₂ (λ ts cs. emit_all (λ n. entry n (Compile.roots 0 ps)) (λ t. place t ts) (λ c. place c cs) 0 ps) R.tables_are R.switches_are

-- ## On the way

pub record Going (text heads roots tables switches out patterns ends : List ℕ) (stack : List Open) (done : List ℕ) (opened : List Opened) (s : State) (w : Walk) : Type 0 where
  pub ready : Ready text heads roots tables switches
  pub left : List Symbol
  pub stage : Stage
  pub shown : Shown text (names_of text tables) out patterns ends done opened s stage
  pub sane : Sane (names_of text tables) (production_by text heads roots) (place_by text tables) (place_by text switches) left stage
  pub comes : run (production_by text heads roots) (place_by text tables) (place_by text switches) left stage
      ≡ run (production_by text heads roots) (place_by text tables) (place_by text switches) (symbols ready.productions) nothing_made
  pub goes : rest text stack w ≡ (left ▸▸ ended)
  pub walks : Walks text w
  pub long : length stack ≡ 65536

-- No table is known of.
none_known : (ts : List Name) (n : ℕ) → length ts ≡ n → Tells (replicate n 512) ts nothing_known
unfolding known_of
none_known [] zero e = refl
none_known [] (suc n) e = absurd (omega arith)
none_known (t ∷ ts) zero e = absurd (omega arith)
none_known (t ∷ ts) (suc n) e = ap (λ l. none_yet ∷ l) (none_known ts n (omega arith))

-- The walk over the text is the productions' symbols.
read_symbols : (text : List ℕ) (ps : List Production) → ReadsAs text ps → streamed (tokens text) ≡ (symbols ps ▸▸ ended)
read_symbols text ps r = ap (λ ls. streamed (bare ls)) (lexes_once r.lexes) ∙ reads_derived r.derives

pub going_first :
    {text heads roots tables switches out patterns ends : List ℕ} {stack : List Open} {done : List ℕ} {opened : List Opened} {w : Walk} → Ready text heads roots tables switches → length out ≡ 33792
    → patterns ≡ replicate (length tables) 512 → length ends ≡ 512 → length stack ≡ 65536 → length done ≡ 512 → length opened ≡ 512
    → Begins text 0 start w
    → Going text heads roots tables switches out patterns ends stack done opened (record { made = record { nodes = 0; length = 0 }; complete = 0; openers = 0; ended = 0 }) w
unfolding row_of
going_first {text} {heads} {roots} {tables} {switches} {stack = stack} R o p e k d l b = record {
  ready = R;
  left = symbols R.productions;
  stage = nothing_made;
  shown = record {
    holds = record { front = refl; place = refl; many = refl; low = omega arith; long = o };
    complete_shown = refl;
    openers_shown = refl;
    brought_shown = refl;
    known_shown = rw p (none_known (names_of text tables) (length tables) (names_length text tables (length tables) (omega arith)));
    ends_shown = refl;
    tall = omega arith;
    few_ends = omega arith;
    long_ends = e;
    long_done = d;
    long_opened = l;
  };
  sane = whole_sane (names_of text tables) (production_by text heads roots) (place_by text tables) (place_by text switches) R.productions (fine R);
  comes = refl;
  goes = b.comes stack ∙ read_symbols text R.productions R.reading;
  walks = b.walks;
  long = k;
}

-- A walk that goes on has a symbol left, and one that has ended none.
left_some : (ss : List Symbol) {x : Symbol} {r : Stream} → (ss ▸▸ ended) ≡ x ▸ r → (us : List Symbol) × (ss ≡ x ∷ us) × (r ≡ (us ▸▸ ended))
unfolding ◌▸▸◌
left_some [] e = no_way (cc)
left_some (y ∷ ss) e = (ss, ap (λ z. z ∷ ss) (cc), cc)

left_none : (ss : List Symbol) → (ss ▸▸ ended) ≡ ended → ss ≡ []
unfolding ◌▸▸◌
left_none [] e = refl
left_none (y ∷ ss) e = no_way (cc)

not_broken : (ss : List Symbol) → (ss ▸▸ ended) ≡ broken → ⊥
unfolding ◌▸▸◌
not_broken [] e = no_way (cc)
not_broken (y ∷ ss) e = no_way (cc)

-- Productions that have ended stay so.
ends_more : (production table condition : Name → ℕ) (ss : List Symbol) (st : Stage) → length st.ends ≤ length (run production table condition ss st).ends
unfolding run after
ends_more production table condition [] st = omega arith
ends_more production table condition (x ∷ ss) st = omega (arith, one x, ends_more production table condition ss (after production table condition x st))
  where
    some : (b : Bool) → length st.ends ≤ length (pick b st.ends (st.ends ++ (bytes_of st.nodes ∷ [])))
    some true = omega arith
    some false = omega (arith, length-append st.ends (bytes_of st.nodes ∷ []))

    one : (x : Symbol) → length st.ends ≤ length (ends_after x st)
    one (named n) = unfold ends_after in some (eqb (length st.nodes) 0)
    one (stands l) = unfold ends_after in omega arith
    one (enters o) = unfold ends_after in omega arith
    one leaves = unfold ends_after in omega arith
    one (front q) = unfold ends_after in omega arith
    one (back q) = unfold ends_after in omega arith
    one (joins b) = unfold ends_after in omega arith

-- ## What a symbol asks for is there

module _ (ts : List Name) (production table condition : Name → ℕ) (ss : List Symbol) (s : State) (st : Stage) (k : s.made.nodes ≡ length st.nodes) (e : s.ended < 512) where
  abbrev at : List ℕ → List Opener → Stage
  at rs os = record { nodes = st.nodes; complete = rs; openers = os; brought = st.brought; known = st.known; ends = st.ends }

  apt_by :
      (x : Symbol) (rs : List ℕ) (os : List Opener) → Proper ts (x ∷ ss) (length rs) (length os) → s.complete ≡ length rs → s.openers ≡ length os
      → length (st.nodes ++ new_nodes production table condition x (at rs os)) + length (openers_after x (at rs os)) ≤ 512 → Apt ts x s
  unfolding new_nodes openers_after
  apt_by (named n) rs os p c o f = (e, omega (arith, length-append st.nodes []))
  apt_by (stands l) rs os p c o f = (
    p.0,
    omega (
      arith,
      length-append st.nodes (leaf_nodes production table condition (length st.nodes) l),
      leaf_length production table condition (length st.nodes) l,
    ),
  )
  apt_by (enters x) rs os p c o f = (p.0, omega (arith, length-append st.nodes []))
  apt_by leaves [] os p c o f = absurd p
  apt_by leaves (a ∷ rs) [] p c o f = absurd p
  apt_by leaves (a ∷ rs) (x ∷ os) p c o f =
      let l = length-append st.nodes (new_nodes production table condition leaves (at (a ∷ rs) (x ∷ os))) in
      (omega arith, omega arith, omega arith, omega arith)
  apt_by (front q) [] os p c o f = absurd p
  apt_by (front q) (a ∷ rs) os p c o f =
      (omega arith, omega (arith, length-append st.nodes (prefix_nodes q a (length st.nodes)), prefix_length q a (length st.nodes)))
  apt_by (back q) [] os p c o f = absurd p
  apt_by (back q) (a ∷ rs) os p c o f =
      (omega arith, omega (arith, length-append st.nodes (suffix_nodes q a (length st.nodes)), suffix_length q a (length st.nodes)))
  apt_by (joins b) [] os p c o f = absurd p
  apt_by (joins b) (y ∷ []) os p c o f = absurd p
  apt_by (joins b) (y ∷ x ∷ rs) os p c o f =
      let l = length-append st.nodes (new_nodes production table condition (joins b) (at (y ∷ x ∷ rs) os)) in (omega arith, omega arith)

module _ {text : List ℕ} {ts : List Name} {out patterns ends done : List ℕ} {opened : List Opened} {s : State} {st : Stage} (S : Shown text ts out patterns ends done opened s st) where
  complete_many : s.complete ≡ length st.complete
  complete_many = sym (row_length (λ i. get_or done i 0) s.complete) ∙ ap length S.complete_shown

  openers_many : s.openers ≡ length st.openers
  openers_many = sym (row_length _ s.openers) ∙ ap length S.openers_shown

  ends_many : s.ended ≡ length st.ends
  ends_many = sym (length-take-le s.ended ends S.few_ends) ∙ ap length S.ends_shown

  apt :
      (production table condition : Name → ℕ) (x : Symbol) (ss : List Symbol) → Sane ts production table condition (x ∷ ss) st
      → length (run production table condition (x ∷ ss) st).nodes ≤ 512 → length (run production table condition (x ∷ ss) st).ends < 512 → Apt ts x s
  unfolding run after
  apt production table condition x ss h n e =
      let f = run_few ts production table condition ss (after production table condition x st) (sane_after ts production table condition x ss st h).proper in
      apt_by ts production table condition ss s st S.holds.many (omega (arith, ends_many, ends_more production table condition (x ∷ ss) st)) x st.complete st.openers
      h.proper complete_many openers_many (omega arith)

-- ## A symbol on

module _
    {text heads roots tables switches out patterns ends : List ℕ} {stack : List Open} {done : List ℕ} {opened : List Opened} {s : State} {w : Walk}
    (G : Going text heads roots tables switches out patterns ends stack done opened s w)
  where
    abbrev calls : Name → ℕ
    calls = production_by text heads roots

    abbrev numbers : Name → ℕ
    numbers = place_by text tables

    abbrev turns : Name → ℕ
    turns = place_by text switches

    -- All that comes of it.
    abbrev all_made : Stage
    all_made = run calls numbers turns (symbols G.ready.productions) nothing_made

    all_nodes : all_made.nodes ≡ (compile G.ready.productions).nodes
    all_nodes = whole_nodes (names_of text tables) calls numbers turns G.ready.productions (fine G.ready) ∙ nodes_compiled G.ready

    few : length all_made.nodes ≤ 512
    few = omega (arith, ap length all_nodes, G.ready.few_nodes)

    soon : length all_made.ends < 512
    soon = whole_few (names_of text tables) calls numbers turns G.ready.productions (fine G.ready) few

    pub going_nodes : s.made.nodes ≤ 512
    going_nodes = omega (arith, run_few (names_of text tables) calls numbers turns G.left G.stage G.sane.proper, ap (λ r. length r.nodes) G.comes, few, G.shown.holds.many)

    pub going_ends : s.ended < 512
    going_ends = omega (arith, ends_many G.shown, ends_more calls numbers turns G.left G.stage, ap (λ r. length r.ends) G.comes, soon)

    module _ {now : List Open} {x : W.Symbol} {t : Token} {v : Walk} (g : Gives text stack now w x t v) where
      abbrev symbol : Symbol
      symbol = symbol_at text t x

      some_left : (us : List Symbol) × (G.left ≡ symbol ∷ us) × (rest text now v ≡ (us ▸▸ ended))
      some_left = left_some G.left (sym G.goes ∙ g.goes)

      sane_here : Sane (names_of text tables) calls numbers turns (symbol ∷ some_left.0) G.stage
      sane_here = subst (λ ss. Sane (names_of text tables) calls numbers turns ss G.stage) some_left.1 G.sane

      comes_here : run calls numbers turns (symbol ∷ some_left.0) G.stage ≡ all_made
      comes_here = ap (λ ss. run calls numbers turns ss G.stage) (sym some_left.1) ∙ G.comes

      pub going_apt : Apt (names_of text tables) symbol s
      going_apt =
          apt G.shown calls numbers turns symbol some_left.0 sane_here (omega (arith, ap (λ r. length r.nodes) comes_here, few))
          (omega (arith, ap (λ r. length r.ends) comes_here, soon))

      pub going_on :
          {out' patterns' ends' done' : List ℕ} {opened' : List Opened} {r : State}
          → Shown text (names_of text tables) out' patterns' ends' done' opened' r (after calls numbers turns symbol G.stage) → length now ≡ length stack
          → Going text heads roots tables switches out' patterns' ends' now done' opened' r v
      unfolding run
      going_on S l = record {
        ready = G.ready;
        left = some_left.0;
        stage = after calls numbers turns symbol G.stage;
        shown = S;
        sane = sane_after (names_of text tables) calls numbers turns symbol some_left.0 G.stage sane_here;
        comes = comes_here;
        goes = some_left.2;
        walks = g.walks;
        long = l ∙ G.long;
      }

    -- What gives no symbol has ended.
    pub last : {now : List Open} {step : Step} → Nexts text stack now w step → ((x : W.Symbol) (t : Token) (v : Walk) → step ≡ Step.Symbol x t v → ⊥) → rest text stack w ≡ ended
    last {now} {step} n h = go step refl n.nexts
      where
        go : (z : Step) → step ≡ z → NextsBy text stack now w z → rest text stack w ≡ ended
        go (Step.Symbol x t v) e k = absurd (h x t v e)
        go Step.Ended e k = k
        go Step.Broken e k = absurd (not_broken G.left (sym G.goes ∙ k))

    -- ## At the end

    module _ (e : rest text stack w ≡ ended) where
      all_done : G.stage ≡ all_made
      unfolding run
      all_done = ap (λ ss. run calls numbers turns ss G.stage) (sym (left_none G.left (sym G.goes ∙ e))) ∙ G.comes

      nodes_are : G.stage.nodes ≡ (compile G.ready.productions).nodes
      nodes_are = ap (λ r. r.nodes) all_done ∙ all_nodes

      known_are : Tells patterns (sorted (Naming.tables G.ready.productions)) (known_behind (symbols G.ready.productions) 0 [] nothing_known)
      known_are =
          subst (λ ts. Tells patterns ts (known_behind (symbols G.ready.productions) 0 [] nothing_known)) G.ready.tables_are
          (subst (Tells patterns (names_of text tables))
          (ap (λ r. r.known) all_done ∙ whole_known (names_of text tables) calls numbers turns G.ready.productions (fine G.ready)) G.shown.known_shown)

      ends_are : {ends' : List ℕ} {r : ℕ} → EndsOne ends s.made s.ended ends' r
          → take r ends' ≡ map (λ n. bytes_of (take n (compile G.ready.productions).nodes)) (nodes_up_to 0 G.ready.productions)
      ends_are d =
          d.front ∙ rw (G.shown.holds.many, G.shown.holds.place, G.shown.ends_shown) refl ∙ ap (λ r. ended_by r.nodes r.ends) all_done
          ∙ whole_ends (names_of text tables) calls numbers turns G.ready.productions (fine G.ready)
          ∙ ap (λ xs. map (λ n. bytes_of (take n xs)) (nodes_up_to 0 G.ready.productions)) all_nodes

      emitted : {ends' : List ℕ} {r : ℕ} → EndsOne ends s.made s.ended ends' r → Emits G.ready.productions out patterns ends' s.made
      emitted {ends'} {r} d = record {
        nodes_written = G.shown.holds.front ∙ ap (written encode_node) nodes_are;
        length-written = G.shown.holds.place ∙ ap bytes_of nodes_are;
        nodes_many = G.shown.holds.many ∙ ap length nodes_are;
        patterns_are = patterns_found G.ready.productions patterns G.ready.names_defined known_are;
        ends_are = λ i h.
            let qs = nodes_up_to 0 G.ready.productions in
            let f : ℕ → ℕ = λ n. bytes_of (take n (compile G.ready.productions).nodes) in
            let l : length (take r ends') ≡ length G.ready.productions = ap length (ends_are d) ∙ length-map qs f ∙ up_to_length 0 G.ready.productions in
            sym (get_or-take r ends' i 0 (omega (arith, l, length-take r ends'))) ∙ ap (λ es. get_or es i 0) (ends_are d)
            ∙ map_at f qs i (omega (arith, up_to_length 0 G.ready.productions));
      }

      -- For whatever the text reads as.
      pub going_last : {ends' : List ℕ} {r : ℕ} → EndsOne ends s.made s.ended ends' r → (ps : List Production) → ReadsAs text ps → Emits ps out patterns ends' s.made
      going_last {ends'} d ps h = subst (λ ps. Emits ps out patterns ends' s.made) (one_reading text G.ready.productions ps G.ready.reading h) (emitted d)
