-- The pass over a text's defs: what is known of the tables before a place, and one def more.
use Prim.Native.Nat.{ℕ, zero, suc, ◌+◌, ◌-◌, ◌≤◌, ◌<◌}
use mathlib.Core.Path.{◌≡◌, refl, ap, ap₂, sym, ◌∙◌, subst}
use mathlib.Core.Bool.{Bool, true, false}
use mathlib.Core.List.{List, [], ◌∷◌, map}
use mathlib.Core.Option.{some, none}
use native.Mathlib.Omega.{arith}
use lib.Dec.{eqb, ltb}
use lib.ListN.{length, get_or, set, take, drop, length-map, get_or-map}
use lib.Seq.{get_or-take, length-take-le, take-set-lt, map-set_same}
use borrow.Author.Tests.{eq-eqb, ne_eqb, eqb-true, eqb-false, lt-ltb, le-ltb, ltb-true, ltb-false, not-true, not-false}
use Rattle.format.specs.Reading.{pick}
use Rattle.notation.specs.Tree.{Name, Production}
use Rattle.notation.specs.Lexer.{same, name_front, name_behind, tokens}
use Rattle.notation.specs.LexicalText.{no_way}
use Rattle.notation.specs.LexicalToken.{same_true}
use Rattle.notation.specs.At.{name_at}
use Rattle.notation.specs.Places.{name_in}
use Rattle.notation.specs.Notation.{Productions}
use Rattle.notation.specs.Stream.{want, stream}
use Rattle.notation.specs.Naming.{definitions, alike, member}
use Rattle.notation.specs.Compile.{insert, place}
use Rattle.notation.specs.SymbolsLaws.{same_refl}
use Rattle.notation.specs.AlikeLaws.{alike_same}
use Rattle.notation.specs.OrderLaws.{member-insert}
use Rattle.notation.specs.UsesLaws.{defs_are}
use Rattle.notation.specs.OnePattern.{no_definition, first_at, matches, fault}
use Rattle.index.specs.declared.list.Kept.{Kept}
use Rattle.index.specs.Listed.{names_at, put_in, Keeps}
use Rattle.index.specs.PlaceLaws.{names_length, names_at_lem, put_front}
use Rattle.patterns.specs.Bodies.{bodies_in, no_body, same_streams, defs_on}
use Rattle.patterns.specs.Compared.{stream_at}
use Rattle.patterns.specs.Pass.{inside, pass_from}
use Rattle.patterns.specs.Passed.{defs_of, no_lexeme, tables_of, Every, LikeFirst, Known}
use Rattle.patterns.proofs.BodiesLaws.{bodies_are, beside_length, beside_tables}
use Rattle.patterns.proofs.ListLaws.{every_at, every_put, every_set}
use Rattle.patterns.proofs.PassLaws.{preorder, pass_finds, pass_end, pass_first, pass_alike, pass_fault, inside_same, inside_fits, first_is, alike_is, inside_is}
use Rattle.patterns.proofs.DefLaws.{body_of, bodies_behind, body_at}

-- ## Places of names

-- A name's place is not behind where it stands; and there it stands.
place_within : (ns : List Name) (i : ℕ) → i < length ns → place (get_or ns i []) ns ≤ i
unfolding place
place_within [] i h = absurd (omega arith)
place_within (n ∷ ns) zero h = rw (same_refl n) (omega arith)
place_within (n ∷ ns) (suc i) h = go (same (get_or ns i []) n) refl (place_within ns i (omega arith))
  where
    go : (b : Bool) → same (get_or ns i []) n ≡ b → place (get_or ns i []) ns ≤ i → place (get_or ns i []) (n ∷ ns) ≤ suc i
    go true q r = rw q (omega arith)
    go false q r = rw q (omega arith)

place_named : (n : Name) (ns : List Name) → place n ns < length ns → get_or ns (place n ns) [] ≡ n
unfolding place
place_named n [] h = absurd (omega arith)
place_named n (m ∷ ms) h = go (same n m) refl (place_named n ms)
  where
    go : (b : Bool) → same n m ≡ b → (place n ms < length ms → get_or ms (place n ms) [] ≡ n) → get_or (m ∷ ms) (place n (m ∷ ms)) [] ≡ n
    go true q r = rw q (sym (same_true n m q))
    go false q r = rw q (r (omega (arith, rw q at h)))

-- ## A name that is kept already

module _ (text : List ℕ) {latest now : List ℕ} {count p : ℕ} {r : Kept} (k : Keeps text latest count p now r) (room : count < length latest) (f : r.fresh ≡ false) where
  same_count : r.count ≡ count
  same_count = k.many ∙ ap (λ b. pick b (count + 1) count) f

  same_now : now ≡ latest
  same_now = k.whole ∙ ap (λ b. pick b (put_in latest count r.index p) latest) f

  among : r.index < count
  among = omega (arith, same_count, k.inside)

  -- The place that is kept for it.
  abbrev kept : ℕ
  kept = get_or now r.index 0

  is_kept : get_or (take count latest) r.index 0 ≡ kept
  is_kept = get_or-take count latest r.index 0 among ∙ ap (λ l. get_or l r.index 0) (sym same_now)

  kept_named : name_at text kept ≡ name_at text p
  kept_named =
      let n = name_at text p in
      let fits : r.count ≤ length now = omega (arith, same_count, k.long) in
      let l = names_length text now r.count fits in
      let i = k.index in
      let j = k.inside in
      sym (names_at_lem text now r.count fits r.index k.inside) ∙ ap₂ (λ l j. get_or l j []) k.names k.index
      ∙ place_named n (insert n (names_at text latest count)) (omega (arith, ap length k.names))

  -- This one kept in its stead: the names are the same.
  abbrev instead : List ℕ
  instead = set now r.index p

  instead_front : take count instead ≡ set (take count latest) r.index p
  instead_front = ap (λ l. take count (set l r.index p)) same_now ∙ take-set-lt count latest r.index p among

  pub instead_names : names_at text instead count ≡ names_at text latest count
  instead_names =
      ap (map (name_at text)) instead_front
      ∙ map-set_same (name_at text) (take count latest) r.index p 0 (sym (ap (name_at text) is_kept ∙ kept_named))

-- ## What is known before a def

module _ (text : List ℕ) {ps : List Production} (P : Productions (tokens text) ps) where
  -- Tables, bodies, defs and definitions go pairwise.
  table_at : (i : ℕ) → get_or (tables_of text) i [] ≡ (get_or (bodies_in (tokens text)) i no_body).table
  table_at i =
      rw (defs_are P ∙ sym (beside_tables (bodies_are P))) (get_or-map (λ b. b.table) (bodies_in (tokens text)) i no_body)

  table_of : (i : ℕ) → get_or (tables_of text) i [] ≡ (get_or (definitions ps) i no_definition).table
  table_of i = rw (defs_are P) (get_or-map (λ d. d.table) (definitions ps) i no_definition)

  many_tables : length (tables_of text) ≡ length (definitions ps)
  many_tables = rw (defs_are P) (length-map (definitions ps) (λ d. d.table))

  many_bodies : length (bodies_in (tokens text)) ≡ length (definitions ps)
  many_bodies = beside_length (bodies_are P)

  many_defs : length (defs_of text) ≡ length (definitions ps)
  many_defs = sym (ap length (bodies_behind text) ∙ length-map (defs_of text) body_of) ∙ many_bodies

  -- At the start, and at the end.
  pub known_start : (latest : List ℕ) → Known text ps latest 0 0
  unfolding member
  known_start latest = record {
    tables = λ n. sym (le-ltb (place n (tables_of text)) 0 (omega arith));
    places = tt;
    passes = pass_finds (definitions ps) (preorder ps);
  }

  pub known_end : {latest : List ℕ} {count k : ℕ} → Known text ps latest count k → length (defs_of text) ≤ k → fault (definitions ps) ≡ none
  known_end {k = k} K h = sym K.passes ∙ pass_end (definitions ps) k (omega (arith, many_defs))

  -- A def more, whose name stands at p.
  module _ {latest : List ℕ} {count i p : ℕ} {now : List ℕ} {r : Kept} (K : Known text ps latest count i) (h : i < length (defs_of text))
      (e : drop p text ≡ name_in (get_or (defs_of text) i no_lexeme).here) (k : Keeps text latest count p now r) where
    abbrev n : Name
    n = name_at text p

    is_table : get_or (tables_of text) i [] ≡ n
    is_table = table_at i ∙ ap (λ b. b.table) (body_at text i) ∙ ap name_front (sym e)

    -- Where its table is first.
    is_first : first_at (definitions ps) (get_or (definitions ps) i no_definition).table ≡ place n (tables_of text)
    is_first = first_is P i (omega (arith, many_defs, many_bodies)) ∙ ap (λ m. place m (tables_of text)) (sym (table_at i) ∙ is_table)

    within : place n (tables_of text) ≤ i
    within = subst (λ m. place m (tables_of text) ≤ i) is_table (place_within (tables_of text) i (omega (arith, many_defs, many_tables)))

    -- ## A table that is new

    module _ (room : count < length latest) (f : r.fresh ≡ true) where
      at_i : place n (tables_of text) ≡ i
      at_i =
          let m = not-true (member n (names_at text latest count)) (sym k.fresh ∙ f) in
          let l = ltb-false (place n (tables_of text)) i (sym (K.tables n) ∙ m) in omega (arith, within)

      one_table : (m : Name) → pick (same m n) true (ltb (place m (tables_of text)) i) ≡ ltb (place m (tables_of text)) (suc i)
      one_table m = go (same m n) (ltb (place m (tables_of text)) i) refl refl
        where
          go : (b c : Bool) → same m n ≡ b → ltb (place m (tables_of text)) i ≡ c → pick b true c ≡ ltb (place m (tables_of text)) (suc i)
          go true c q w =
              let z : place m (tables_of text) ≡ i = ap (λ x. place x (tables_of text)) (same_true m n q) ∙ at_i in
              sym (lt-ltb (place m (tables_of text)) (suc i) (omega arith))
          go false true q w =
              let l = ltb-true (place m (tables_of text)) i w in sym (lt-ltb (place m (tables_of text)) (suc i) (omega arith))
          go false false q w =
              let l = ltb-false (place m (tables_of text)) i w in
              sym (le-ltb (place m (tables_of text)) (suc i) (other (eqb (place m (tables_of text)) i) refl))
            where
              other : (b : Bool) → eqb (place m (tables_of text)) i ≡ b → suc i ≤ place m (tables_of text)
              other false z = let x = eqb-false (place m (tables_of text)) i z in let l = ltb-false (place m (tables_of text)) i w in omega arith
              other true z =
                  let x = eqb-true (place m (tables_of text)) i z in
                  let y : get_or (tables_of text) i [] ≡ m =
                  subst (λ j. get_or (tables_of text) j [] ≡ m) x (place_named m (tables_of text) (omega (arith, many_defs, many_tables))) in
                  let s : same m n ≡ true = subst (λ j. same m j ≡ true) (sym y ∙ is_table) (same_refl m) in no_way (cc)

      pub known_first : Known text ps now r.count (suc i)
      known_first = record {
        tables = λ m.
            ap (member m) k.names ∙ member-insert m n (names_at text latest count)
            ∙ ap (λ b. pick (same m n) true b) (K.tables m) ∙ one_table m;
        places =
            subst (Every (LikeFirst text ps))
            (sym
            (ap₂ take (k.many ∙ ap (λ b. pick b (count + 1) count) f) (k.whole ∙ ap (λ b. pick b (put_in latest count r.index p) latest) f)
            ∙ put_front latest count r.index p (omega (arith, k.inside, k.most)) room))
            (every_put (LikeFirst text ps) r.index (take count latest) p K.places
            (record { number = i; one = h; named = e; alike = ap (λ j. (get_or (definitions ps) j no_definition).pattern) (sym at_i) }));
        passes =
            sym
            (pass_first (definitions ps) i (omega (arith, many_defs))
            (eq-eqb (first_at (definitions ps) (get_or (definitions ps) i no_definition).table) i (is_first ∙ at_i)))
            ∙ K.passes;
      }

    -- ## A table that is known

    module _ (room : count < length latest) (f : r.fresh ≡ false) where
      before : place n (tables_of text) < i
      before =
          ltb-true (place n (tables_of text)) i
          (sym (K.tables n) ∙ not-false (member n (names_at text latest count)) (sym k.fresh ∙ f))

      -- The def that is kept for it.
      like_first : LikeFirst text ps (kept text k room f)
      like_first =
          subst (LikeFirst text ps) (is_kept text k room f)
          (every_at (LikeFirst text ps) (take count latest) K.places r.index
          (omega (arith, among text k room f, length-take-le count latest (omega arith))))

      abbrev d : ℕ
      d = like_first.number

      -- The two bodies: behind the name that is kept, and behind this one.
      module _ (a b : ℕ) (ea : name_behind (drop (kept text k room f) text) ≡ drop a text) (eb : (body_of (get_or (defs_of text) i no_lexeme)).ahead ≡ tokens (drop b text)) where
        this_ahead : (get_or (bodies_in (tokens text)) i no_body).ahead ≡ tokens (drop b text)
        this_ahead = ap (λ c. c.ahead) (body_at text i) ∙ eb

        kept_ahead : (get_or (bodies_in (tokens text)) d no_body).ahead ≡ tokens (drop a text)
        kept_ahead = ap (λ c. c.ahead) (body_at text d) ∙ ap (λ s. tokens (name_behind s)) (sym like_first.named) ∙ ap tokens ea

        kept_pattern :
            (get_or (definitions ps) (first_at (definitions ps) (get_or (definitions ps) i no_definition).table) no_definition).pattern
            ≡ (get_or (definitions ps) d no_definition).pattern
        kept_pattern =
            ap (λ j. (get_or (definitions ps) j no_definition).pattern) (is_first ∙ ap (λ m. place m (tables_of text)) (sym (kept_named text k room f)))
            ∙ sym like_first.alike

        is_match : matches (definitions ps) (get_or (definitions ps) i no_definition) ≡ same_streams (stream_at text a) (stream_at text b)
        is_match =
            ap (λ c. alike c (get_or (definitions ps) i no_definition).pattern) kept_pattern
            ∙ alike_is P i (omega (arith, many_defs, many_bodies)) d (omega (arith, like_first.one, many_defs, many_bodies))
            ∙ ap₂ (λ s t. same_streams (stream s want []) (stream t want [])) kept_ahead this_ahead

        is_inside : inside (get_or (definitions ps) i no_definition) ≡ defs_on (stream_at text b)
        is_inside = inside_is P i (omega (arith, many_defs, many_bodies)) ∙ ap (λ s. defs_on (stream s want [])) this_ahead

        -- Not alike: here is the fault.
        pub known_fault : same_streams (stream_at text a) (stream_at text b) ≡ false → fault (definitions ps) ≡ some i
        known_fault q = sym K.passes ∙ pass_fault (definitions ps) i (omega (arith, many_defs)) (is_match ∙ q)

        -- Alike: no table begins among those inside it.
        module _ (q : same_streams (stream_at text a) (stream_at text b) ≡ true) where
          abbrev j : ℕ
          j = place n (tables_of text)

          patterns : (get_or (definitions ps) j no_definition).pattern ≡ (get_or (definitions ps) i no_definition).pattern
          patterns =
              (alike_same (get_or (definitions ps) j no_definition).pattern (get_or (definitions ps) i no_definition).pattern).0
              (subst (λ m. alike (get_or (definitions ps) m no_definition).pattern (get_or (definitions ps) i no_definition).pattern ≡ true) is_first (is_match ∙ q))

          none_inside : (d : ℕ) → d ≤ inside (get_or (definitions ps) i no_definition) → place (get_or (tables_of text) (i + d) []) (tables_of text) < i + d
          none_inside zero l =
              let z : i + 0 ≡ i = omega arith in rw (z, is_table) before
          none_inside (suc d) l =
              let z : i + suc d ≡ suc (i + d) = omega arith in
              let w = inside_fits (definitions ps) (preorder ps) i (omega (arith, many_defs)) in
              let t : get_or (tables_of text) (suc (i + d)) [] ≡ get_or (tables_of text) (suc (j + d)) [] =
              table_of (suc (i + d))
              ∙ ap (λ c. c.table)
              (inside_same (definitions ps) (preorder ps) i j d (omega (arith, many_defs)) (omega (arith, many_defs, before)) patterns (omega arith))
              ∙ sym (table_of (suc (j + d))) in
              rw (z, t) (omega (arith, before, place_within (tables_of text) (suc (j + d)) (omega (arith, before, many_tables))))

          none_new : (m : Name) → ltb (place m (tables_of text)) i ≡ ltb (place m (tables_of text)) (suc i + defs_on (stream_at text b))
          none_new m = go (ltb (place m (tables_of text)) i) (ltb (place m (tables_of text)) (suc i + defs_on (stream_at text b))) refl refl
            where
              go : (t c : Bool) → ltb (place m (tables_of text)) i ≡ t → ltb (place m (tables_of text)) (suc i + defs_on (stream_at text b)) ≡ c → t ≡ c
              go true c u v =
                  let w = ltb-true (place m (tables_of text)) i u in
                  sym (lt-ltb (place m (tables_of text)) (suc i + defs_on (stream_at text b)) (omega arith)) ∙ v
              go false false u v = refl
              go false true u v =
                  let l = ltb-false (place m (tables_of text)) i u in
                  let w = ltb-true (place m (tables_of text)) (suc i + defs_on (stream_at text b)) v in
                  let y = inside_fits (definitions ps) (preorder ps) i (omega (arith, many_defs)) in
                  let z : i + (place m (tables_of text) - i) ≡ place m (tables_of text) = omega arith in
                  let t = subst (λ d. place (get_or (tables_of text) d []) (tables_of text) < d) z (none_inside (place m (tables_of text) - i) (omega (arith, is_inside))) in
                  let s = place_named m (tables_of text) (omega (arith, many_tables, is_inside)) in
                  absurd (omega (arith, rw s at t))

          -- From here on this def is kept for its table.
          pub known_alike : Known text ps (instead text k room f) count (suc i + defs_on (stream_at text b))
          known_alike = record {
            tables = λ m. ap (member m) (instead_names text k room f) ∙ K.tables m ∙ none_new m;
            places =
                subst (Every (LikeFirst text ps)) (sym (instead_front text k room f))
                (every_set (LikeFirst text ps) r.index (take count latest) p K.places
                (record { number = i; one = h; named = e; alike = sym patterns }));
            passes =
                ap (λ d. pass_from (definitions ps) (suc i + d)) (sym is_inside)
                ∙ sym
                (pass_alike (definitions ps) i (omega (arith, many_defs))
                (ne_eqb (first_at (definitions ps) (get_or (definitions ps) i no_definition).table) i (λ z. omega (arith, is_first, before)))
                (is_match ∙ q))
                ∙ K.passes;
          }
