-- What is known behind all symbols of a reading.
use Rattle.std.specs.Prelude.{ℕ, suc, ◌+◌, ◌≤◌, ◌<◌, ◌≡◌, Bool, true, false, eqb, length}
use Rattle.std.proofs.Math.Path.{refl, ap, ap₂, sym, subst}
use Rattle.std.proofs.Common.{◌∙◌, arith, length-append, eqb-true, eq-eqb, ne_eqb}
use mathlib.Core.List.{List, [], ◌∷◌, ◌++◌, map, append_assoc, append-nil}
use Rattle.std.proofs.Math.ListN.{take}
use Rattle.std.proofs.lemmas.List.{length-map}
use Rattle.std.proofs.Math.Seq.{take_at}
use Rattle.std.proofs.lemmas.Bool.{eqb-false}
use Rattle.grammar.specs.Expr.{Expr}
use Rattle.notation.specs.Tree.{Name, Tree, leaf, prefix, suffix, binary, within, Production}
use Rattle.notation.specs.Stream.{Symbol, named, enters, leaves, front, back, joins, post, symbols}
use Rattle.notation.specs.Naming.{per_leaf, per_operator, everywhere, table_in, names, calls, tables, definitions, member, all, all_defined}
use Rattle.notation.specs.Limits.{short}
use Rattle.notation.specs.Compile.{sorted, entry, count, emit, emit_all, patterns_all, compile}
use Rattle.notation.specs.CompileLaws.{member-here, member_later, member-left, member_right}
use Rattle.notation.specs.MeansLaws.{emit_length}
use Rattle.notation.specs.BelowLaws.{emitted_many, body_some, one_each}
use Rattle.notation.specs.MemberLaws.{all_of, all_both}
use Rattle.notation.specs.OrderLaws.{sorted_member}
use Rattle.notation.specs.LexicalText.{no_way}
use Rattle.notation.specs.Build.{built, built_post, built_symbols}
use Rattle.notation.specs.Patterns.{Known, ends_at, known_behind, nothing_known}
use Rattle.notation.specs.PatternsLaws.{pattern_known}
use Rattle.emitter.specs.Stage.{Stage, nothing_made, bytes_of, ended_by, new_nodes, complete_after, openers_after, ends_after, after, run}
use Rattle.emitter.specs.StageLaws.{Proper, proper_post, proper_after, run_nodes, Sane, run_known}
use Rattle.emitter.specs.Known.{known_of, Tells}
use Rattle.emitter.specs.KnownLaws.{node_known}
use Rattle.emitter.specs.Emitted.{nodes_up_to}

pub up_to_length : (k : ℕ) (ps : List Production) → length (nodes_up_to k ps) ≡ length ps
unfolding nodes_up_to
up_to_length k [] = refl
up_to_length k (p ∷ ps) = ap suc (up_to_length (k + count p.body) ps)

ended_none : (xs : List Expr) (es : List ℕ) → length xs ≡ 0 → ended_by xs es ≡ es
ended_none xs es e = rw (eq-eqb (length xs) 0 e)

ended_one : (xs : List Expr) (es : List ℕ) → (length xs ≡ 0 → ⊥) → ended_by xs es ≡ es ++ (bytes_of xs ∷ [])
ended_one xs es e = rw (ne_eqb (length xs) 0 e)

module _ (ts : List Name) where
  -- The symbols of productions are proper, if their quoted text is short and the tables are these.
  abbrev pub Fine : List Production → Type 0
  Fine ps = (all (λ b. b) (everywhere (per_leaf short) ps) ≡ true) × ((t : Name) → member t (everywhere (per_operator table_in) ps) ≡ true → member t ts ≡ true)

  fine_body : (p : Production) (ps : List Production) → Fine (p ∷ ps) → Fine (p ∷ []) × Fine ps
  fine_body p ps h =
      let s = all_both (per_leaf short p.body) (everywhere (per_leaf short) ps) h.0 in (
        (rw (append-nil (per_leaf short p.body)) s.0, λ t m. h.1 t (member-left t (per_operator table_in p.body) (everywhere (per_operator table_in) ps) (rw (append-nil (per_operator table_in p.body)) at m))),
        (s.1, λ t m. h.1 t (member_right t (per_operator table_in p.body) (everywhere (per_operator table_in) ps) m)),
      )

  proper_body : (p : Production) (ss : List Symbol) → Fine (p ∷ []) → Proper ts ss 1 0 → Proper ts (post p.body ++ ss) 0 0
  proper_body p ss h q =
      proper_post ts p.body ss 0 0 (rw (append-nil (per_leaf short p.body)) at h.0)
      (λ t m. h.1 t (rw (append-nil (per_operator table_in p.body)) m)) q

  proper_symbols : (ps : List Production) (r : ℕ) → Fine ps → Proper ts (symbols ps) r 0
  unfolding symbols
  proper_symbols [] r h = refl
  proper_symbols (p ∷ ps) r h =
      let k = fine_body p ps h in (refl, proper_body p (symbols ps) k.0 (proper_symbols ps 1 k.1))

  module _ (production table condition : Name → ℕ) where
    run_on : (xs ys : List Symbol) (st : Stage) → run production table condition (xs ++ ys) st ≡ run production table condition ys (run production table condition xs st)
    unfolding run
    run_on [] ys st = refl
    run_on (x ∷ xs) ys st = run_on xs ys (after production table condition x st)

    -- ## The ends of productions

    -- No production ends within an expression.
    post_ends : (a : Tree) (st : Stage) → (run production table condition (post a) st).ends ≡ st.ends
    unfolding run post after ends_after
    post_ends (leaf l) st = refl
    post_ends (prefix q a) st = ap (λ s. s.ends) (run_on (post a) (front q ∷ []) st) ∙ post_ends a st
    post_ends (suffix q a) st = ap (λ s. s.ends) (run_on (post a) (back q ∷ []) st) ∙ post_ends a st
    post_ends (binary b x y) st =
        ap (λ s. s.ends) (run_on (post x) (post y ++ (joins b ∷ [])) st)
        ∙ ap (λ s. s.ends) (run_on (post y) (joins b ∷ []) (run production table condition (post x) st))
        ∙ post_ends y (run production table condition (post x) st) ∙ post_ends x st
    post_ends (within o a) st =
        ap (λ s. s.ends) (run_on (post a) (leaves ∷ []) (after production table condition (enters o) st))
        ∙ post_ends a (after production table condition (enters o) st)

    -- A production's symbols add its nodes, and end the one before it.
    module _ (p : Production) (h : Fine (p ∷ [])) (st : Stage) where
      abbrev begun : Stage
      begun = after production table condition (named p.name) st

      abbrev through : Stage
      through = run production table condition (post p.body) begun

      through_nodes : through.nodes ≡ st.nodes ++ emit production table condition (length st.nodes) p.body
      unfolding after new_nodes complete_after openers_after built
      through_nodes =
          let q : Proper ts (post p.body) 0 0 = subst (λ l. Proper ts l 0 0) (append-nil (post p.body)) (proper_body p [] h refl) in
          run_nodes ts production table condition (post p.body) begun q
          ∙ rw (append-nil st.nodes)
          (ap (λ l. st.nodes ++ l)
          (ap (λ l. built production table condition l (length st.nodes) [] []) (sym (append-nil (post p.body)))
          ∙ built_post production table condition p.body [] (length st.nodes) [] []
          ∙ append-nil (emit production table condition (length st.nodes) p.body)))

      through_ends : through.ends ≡ ended_by st.nodes st.ends
      unfolding after ends_after
      through_ends = post_ends p.body begun

      through_many : length through.nodes ≡ length st.nodes + count p.body
      through_many =
          ap length through_nodes ∙ length-append st.nodes (emit production table condition (length st.nodes) p.body)
          ∙ ap (λ n. length st.nodes + n) (emit_length production table condition (length st.nodes) p.body)

      -- Then it ends in its turn.
      through_ended : ended_by through.nodes through.ends ≡ ended_by st.nodes st.ends ++ (bytes_of through.nodes ∷ [])
      through_ended =
          ended_one through.nodes through.ends (λ z. omega (arith, through_many, body_some p))
          ∙ ap (λ l. l ++ (bytes_of through.nodes ∷ [])) through_ends

    proper_begun : (p : Production) (ps : List Production) → Fine (p ∷ ps) → (st : Stage)
        → (let b = after production table condition (named p.name) st in Proper ts (post p.body ++ symbols ps) (length b.complete) (length b.openers))
    unfolding after complete_after openers_after
    proper_begun p ps h st = let k = fine_body p ps h in proper_body p (symbols ps) k.0 (proper_symbols ps 1 k.1)

    -- What is proper stays so on the way.
    run_proper : (xs ys : List Symbol) (st : Stage) → Proper ts (xs ++ ys) (length st.complete) (length st.openers)
        → (let u = run production table condition xs st in Proper ts ys (length u.complete) (length u.openers))
    unfolding run
    run_proper [] ys st p = p
    run_proper (x ∷ xs) ys st p = run_proper xs ys (after production table condition x st) (proper_after ts production table condition x (xs ++ ys) st p)

    abbrev ended : Stage → List ℕ
    ended r = ended_by r.nodes r.ends

    abbrev up_to : Stage → ℕ → ℕ
    up_to r n = bytes_of (take n r.nodes)

    ends_run : (ps : List Production) (st : Stage) → Fine ps
        → (let r = run production table condition (symbols ps) st in ended r ≡ ended st ++ map (up_to r) (nodes_up_to (length st.nodes) ps))
    unfolding run symbols nodes_up_to
    ends_run [] st h = sym (append-nil (ended st))
    ends_run (p ∷ ps) st h =
        let k = fine_body p ps h in
        let u = through p k.0 st in
        let r = run production table condition (symbols ps) u in
        let n = through_many p k.0 st in
        let i : r.nodes ≡ u.nodes ++ built production table condition (symbols ps) (length u.nodes) u.complete u.openers =
        run_nodes ts production table condition (symbols ps) u (run_proper (post p.body) (symbols ps) (begun p k.0 st) (proper_begun p ps h st)) in
        let t : u.nodes ≡ take (length st.nodes + count p.body) r.nodes = sym (ap (take (length st.nodes + count p.body)) i ∙ take_at u.nodes _ _ n) in
        subst (λ r. ended r ≡ ended st ++ (up_to r (length st.nodes + count p.body) ∷ map (up_to r) (nodes_up_to (length st.nodes + count p.body) ps)))
        (sym (run_on (post p.body) (symbols ps) (begun p k.0 st)))
        (ends_run ps u k.1 ∙ ap (λ l. l ++ map (up_to r) (nodes_up_to (length u.nodes) ps)) (through_ended p k.0 st)
        ∙ append_assoc (ended st) (bytes_of u.nodes ∷ []) (map (up_to r) (nodes_up_to (length u.nodes) ps))
        ∙ ap₂ (λ xs m. ended st ++ (bytes_of xs ∷ map (up_to r) (nodes_up_to m ps))) t n)

    -- ## The whole

    module _ (ps : List Production) (h : Fine ps) where
      abbrev pub whole : Stage
      whole = run production table condition (symbols ps) nothing_made

      pub whole_sane : Sane ts production table condition (symbols ps) nothing_made
      whole_sane = record { proper = proper_symbols ps 0 h; matched = refl; tabled = tt }

      pub whole_nodes : whole.nodes ≡ emit_all production table condition 0 ps
      whole_nodes = run_nodes ts production table condition (symbols ps) nothing_made (proper_symbols ps 0 h) ∙ built_symbols production table condition ps 0 [] []

      pub whole_known : whole.known ≡ known_behind (symbols ps) 0 [] nothing_known
      whole_known = run_known ts production table condition (symbols ps) nothing_made whole_sane

      pub whole_ends : ended_by whole.nodes whole.ends ≡ map (λ n. bytes_of (take n whole.nodes)) (nodes_up_to 0 ps)
      whole_ends = ends_run ps nothing_made h

      -- Fewer productions have ended than there are nodes.
      whole_many : length (ended_by whole.nodes whole.ends) ≤ length whole.nodes
      whole_many =
          omega (
            arith,
            ap length whole_ends,
            length-map (nodes_up_to 0 ps) (λ n. bytes_of (take n whole.nodes)),
            up_to_length 0 ps,
            ap length whole_nodes,
            emitted_many production table condition 0 ps,
            one_each ps,
          )

      pub whole_few : length whole.nodes ≤ 512 → length whole.ends < 512
      whole_few l = go (eqb (length whole.nodes) 0) refl
        where
          go : (b : Bool) → eqb (length whole.nodes) 0 ≡ b → length whole.ends < 512
          go true e =
              let z = eqb-true (length whole.nodes) 0 e in
              omega (arith, whole_many, ap length (ended_none whole.nodes whole.ends z))
          go false e =
              let z = eqb-false (length whole.nodes) 0 e in
              omega (
                arith,
                whole_many,
                ap length (ended_one whole.nodes whole.ends z),
                length-append whole.ends (bytes_of whole.nodes ∷ []),
              )

-- ## Patterns

-- Numbers that say of every table its pattern's node are these nodes.
tells_nodes : (patterns : List ℕ) (ts : List Name) (f : Name → Known) (g : Name → ℕ) → Tells patterns ts f → ((t : Name) → member t ts ≡ true → f t ≡ ends_at (g t))
    → patterns ≡ map g ts
unfolding member
tells_nodes [] [] f g T h = refl
tells_nodes [] (t ∷ ts) f g T h = no_way (cc)
tells_nodes (n ∷ patterns) [] f g T h = no_way (cc)
tells_nodes (n ∷ patterns) (t ∷ ts) f g T h =
    let a : known_of n ≡ f t = cc in
    let b : Tells patterns ts f = cc in
    ap₂ (λ x xs. x ∷ xs) (node_known n (g t) (a ∙ h t (member-here t ts))) (tells_nodes patterns ts f g b (λ u m. h u (member_later u t ts m)))

pub patterns_found :
    (ps : List Production) (patterns : List ℕ) → all_defined ps ≡ true → Tells patterns (sorted (tables ps)) (known_behind (symbols ps) 0 [] nothing_known)
    → patterns ≡ (compile ps).patterns
unfolding compile
patterns_found ps patterns d T =
    tells_nodes patterns (sorted (tables ps)) (known_behind (symbols ps) 0 [] nothing_known) (λ t. entry t (patterns_all 0 ps)) T
    (λ t m. pattern_known ps t (all_of (λ t. member t (map (λ d. d.table) (definitions ps))) t (tables ps) (both_defined ps d) (sym (sorted_member t (tables ps)) ∙ m)))
  where
    both_defined : (ps : List Production) → all_defined ps ≡ true → all (λ t. member t (map (λ d. d.table) (definitions ps))) (tables ps) ≡ true
    both_defined ps d = go (all (λ n. member n (names ps)) (calls ps)) refl
      where
        go : (b : Bool) → all (λ n. member n (names ps)) (calls ps) ≡ b → all (λ t. member t (map (λ d. d.table) (definitions ps))) (tables ps) ≡ true
        go true q = rw q at d
        go false q = let z : false ≡ true = rw q at d in no_way (cc)
