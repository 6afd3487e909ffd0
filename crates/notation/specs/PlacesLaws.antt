-- EACH SEARCH FINDS NOTHING EXACTLY IF ITS RULE HOLDS.
use Prim.Native.Nat.{ℕ, zero, suc, ◌+◌, ◌≤◌, ◌<◌}
use Rattle.std.specs.Prelude.{◌≡◌, Bool, ltb, take, drop}
use Rattle.std.proofs.Math.Path.{refl, ap, ap₂, sym}
use Rattle.std.proofs.Common.{◌∙◌, take-add, ltb-true, ltb-false, le-leb}
use Rattle.std.proofs.Math.Bool.{true, false}
use mathlib.Core.List.{List, [], ◌∷◌, ◌++◌, map, append-nil}
use Rattle.std.proofs.Math.Option.{Option, some, none}
use native.Mathlib.Omega.{arith}
use Rattle.std.proofs.Math.Dec.{leb}
use Rattle.std.proofs.Math.ListN.{length, length-append}
use Rattle.std.proofs.lemmas.List.{length-map}
use Rattle.std.proofs.Math.Seq.{append_snoc, take-length}
use Rattle.std.proofs.lemmas.Bool.{lt-leb}
use Rattle.format.specs.Reading.{pick}
use Rattle.format.specs.Written.{written, numbers, encode_node, heading, encode}
use Rattle.grammar.specs.Expr.{Expr}
use Rattle.grammar.specs.Grammar.{Grammar, size}
use Rattle.grammar.specs.Grammar as G
use Rattle.notation.specs.Tree.{Name, any, quoted, class, call, query, if, def, block, local, on, Production}
use Rattle.notation.specs.Token.{Token, head, leaf, opens, closes, left, right, slash, before, after, bad, Lexeme, bare}
use Rattle.notation.specs.Notation.{Productions, last, more}
use Rattle.notation.specs.Lexer.{same}
use Rattle.notation.specs.LexicalText.{no_way}
use Rattle.notation.specs.Naming.{per_leaf, everywhere, Definition, names, tables, definitions, member, all, distinct, agree, all_defined, once_named, one_pattern}
use Rattle.notation.specs.Compile.{Order, lower, equal, higher, order, insert, sorted, count, emit, emit_all, compile}
use Rattle.notation.specs.Limits.{short}
use Rattle.notation.specs.CompileLaws.{production_number, table_number, condition_number}
use Rattle.notation.specs.MeansLaws.{emit_length}
use Rattle.notation.specs.MemberLaws.{either, same_truth, all_append, same_sym}
use Rattle.notation.specs.OrderLaws.{member-insert, sorted_added}
use Rattle.notation.specs.Uses.{per_token, heads_in, defs_in, conditions_in, is_short, head_of, call_of, def_of, ask_of, switch_of, quoted_in}
use Rattle.notation.specs.UsesLaws.{heads_are, defs_are, defined_are, once_are, tables_sorted, conditions_sorted, texts_are}
use Rattle.notation.specs.OnePattern.{fault}
use Rattle.notation.specs.OnePatternLaws.{first_fault, fault_none}
use Rattle.notation.specs.Places.{first_where, first_name, undefined, again, ninth, long, first_over, image_up_to, is_head, is_def, only, numbered, unlike}

-- Nothing is found.
abbrev pub is_none : {A : Type 0} → Option A → Bool
is_none none = true
is_none (some x) = false

-- The test does not hold.
abbrev neg : Bool → Bool
neg b = pick b false true

-- ## The first of which a test holds

none_where : (test : Token → Bool) (ls : List Lexeme) → is_none (first_where test ls) ≡ all (λ t. neg (test t)) (bare ls)
unfolding first_where all
none_where test [] = refl
none_where test (l ∷ ls) = go (test l.token) refl (none_where test ls)
  where
    go : (b : Bool) → test l.token ≡ b → is_none (first_where test ls) ≡ all (λ t. neg (test t)) (bare ls)
        → is_none (first_where test (l ∷ ls)) ≡ all (λ t. neg (test t)) (bare (l ∷ ls))
    go true q i = rw q
    go false q i = rw q i

module _ {A : Type 0} where
  all_same : (f g : A → Bool) → ((x : A) → f x ≡ g x) → (xs : List A) → all f xs ≡ all g xs
  unfolding all
  all_same f g e [] = refl
  all_same f g e (x ∷ xs) = ap₂ (λ a b. pick a b false) (e x) (all_same f g e xs)

  all_both : (f g : A → Bool) (xs : List A) → all (λ x. pick (f x) (g x) false) xs ≡ pick (all f xs) (all g xs) false
  unfolding all
  all_both f g [] = refl
  all_both f g (x ∷ xs) =
      ap (λ b. pick (pick (f x) (g x) false) b false) (all_both f g xs) ∙ crossed (f x) (g x) (all f xs) (all g xs)
    where
      crossed : (a b c d : Bool) → pick (pick a b false) (pick c d false) false ≡ pick (pick a c false) (pick b d false) false
      crossed true true c d = refl
      crossed true false true d = refl
      crossed true false false d = refl
      crossed false b c d = refl

  -- What holds of all that tokens say.
  all_said : (f : A → Bool) (g : Token → List A) (ts : List Token) → all f (per_token g ts) ≡ all (λ t. all f (g t)) ts
  unfolding all per_token
  all_said f g [] = refl
  all_said f g (t ∷ ts) = all_append f (g t) (per_token g ts) ∙ ap (λ b. pick (all f (g t)) b false) (all_said f g ts)

module _ (ls : List Lexeme) {ps : List Production} (P : Productions (bare ls) ps) where
  -- 21
  pub defined_place : is_none (first_where (undefined (names ps) (map (λ d. d.table) (definitions ps))) ls) ≡ all_defined ps
  defined_place =
      none_where (undefined (names ps) (map (λ d. d.table) (definitions ps))) ls
      ∙ all_same (λ t. neg (undefined (names ps) (map (λ d. d.table) (definitions ps)) t)) (λ t. pick (called t) (asked t) false)
      (λ t. turned (called t) (asked t)) (bare ls)
      ∙ all_both called asked (bare ls)
      ∙ ap₂ (λ a b. pick a b false) (sym (all_said (λ n. member n (names ps)) call_of (bare ls)))
      (sym (all_said (λ n. member n (map (λ d. d.table) (definitions ps))) ask_of (bare ls)))
      ∙ sym (rw (heads_are P, defs_are P) at (defined_are P))
    where
      called : Token → Bool
      called t = all (λ n. member n (names ps)) (call_of t)

      asked : Token → Bool
      asked t = all (λ n. member n (map (λ d. d.table) (definitions ps))) (ask_of t)

      turned : (a b : Bool) → neg (pick a (pick b false true) true) ≡ pick a b false
      turned true true = refl
      turned true false = refl
      turned false b = refl

-- ## The first name that does not pass

-- The same over the names alone.
unfoldable passes : (List Name → Name → Bool) → (seen ns : List Name) → Bool
passes test seen [] = true
passes test seen (n ∷ ns) = pick (test seen n) false (passes test (insert n seen) ns)

-- A token of this sort names one thing, another none.
abbrev NamesOne : (Token → List Name) → (Token → Bool) → Type 0
NamesOne say test = (t : Token) → length (say t) ≡ pick (test t) 1 0

head_names : NamesOne head_of is_head
head_names (head n) = refl
head_names (leaf l) = refl
head_names (opens o) = refl
head_names closes = refl
head_names left = refl
head_names right = refl
head_names slash = refl
head_names (before p) = refl
head_names (after s) = refl
head_names bad = refl

def_names : NamesOne def_of is_def
def_names (head n) = refl
def_names (leaf l) = refl
def_names (opens (def t)) = refl
def_names (opens (block t)) = refl
def_names (opens (local t)) = refl
def_names (opens (on c w)) = refl
def_names closes = refl
def_names left = refl
def_names right = refl
def_names slash = refl
def_names (before p) = refl
def_names (after s) = refl
def_names bad = refl

-- So each names one at most; and a condition is named likewise.
abbrev AtMostOne : (Token → List Name) → Type 0
AtMostOne say = (t : Token) → length (say t) ≤ 1

names_one : (say : Token → List Name) (test : Token → Bool) → NamesOne say test → AtMostOne say
names_one say test f t = go (test t) refl
  where
    go : (b : Bool) → test t ≡ b → length (say t) ≤ 1
    go true q = omega (arith, rw q at (f t))
    go false q = omega (arith, rw q at (f t))

switch_one : AtMostOne switch_of
switch_one (head n) = omega arith
switch_one (leaf any) = omega arith
switch_one (leaf (quoted s)) = omega arith
switch_one (leaf (class p ps)) = omega arith
switch_one (leaf (call n)) = omega arith
switch_one (leaf (query q t)) = omega arith
switch_one (leaf (if c w)) = omega arith
switch_one (opens (def t)) = omega arith
switch_one (opens (block t)) = omega arith
switch_one (opens (local t)) = omega arith
switch_one (opens (on c w)) = omega arith
switch_one closes = omega arith
switch_one left = omega arith
switch_one right = omega arith
switch_one slash = omega arith
switch_one (before p) = omega arith
switch_one (after s) = omega arith
switch_one bad = omega arith

none_named :
    (say : Token → List Name) → AtMostOne say → (test : List Name → Name → Bool) (seen : List Name) (ls : List Lexeme)
    → is_none (first_name say test seen ls) ≡ passes test seen (per_token say (bare ls))
unfolding first_name passes per_token
none_named say one test seen [] = refl
none_named say one test seen (l ∷ ls) = go (say l.token) refl (λ m. none_named say one test m ls)
  where
    go : (ns : List Name) → say l.token ≡ ns
        → ((m : List Name) → is_none (first_name say test m ls) ≡ passes test m (per_token say (bare ls)))
        → is_none (first_name say test seen (l ∷ ls)) ≡ passes test seen (per_token say (bare (l ∷ ls)))
    go [] q i = rw (q, first_name) (i seen)
    go (n ∷ []) q i = rw (q, first_name) (on (test seen n) refl)
      where
        on : (b : Bool) → test seen n ≡ b
            → is_none (pick (test seen n) (some l) (first_name say test (insert n seen) ls))
            ≡ pick (test seen n) false (passes test (insert n seen) (per_token say (bare ls)))
        on true r = rw r
        on false r = rw r (i (insert n seen))
    go (n ∷ m ∷ ns) q i = absurd (omega (arith, ap length q, one l.token))

-- ## 22: no name twice

-- None of these names is among others.
abbrev apart : (seen ns : List Name) → Bool
apart seen ns = all (λ n. neg (member n seen)) ns

apart_one : (n : Name) (ns : List Name) → all (λ m. neg (same m n)) ns ≡ neg (member n ns)
unfolding all member
apart_one n [] = refl
apart_one n (m ∷ ns) = ap₂ (λ a b. pick (neg a) b false) (same_sym m n) (apart_one n ns) ∙ turned (same n m) (member n ns)
  where
    turned : (a b : Bool) → pick (neg a) (neg b) false ≡ neg (pick a true b)
    turned true b = refl
    turned false b = refl

apart_insert : (n : Name) (seen ns : List Name) → apart (insert n seen) ns ≡ pick (neg (member n ns)) (apart seen ns) false
apart_insert n seen ns =
    all_same (λ m. neg (member m (insert n seen))) (λ m. pick (neg (same m n)) (neg (member m seen)) false)
    (λ m. ap neg (member-insert m n seen) ∙ turned (same m n) (member m seen)) ns
    ∙ all_both (λ m. neg (same m n)) (λ m. neg (member m seen)) ns
    ∙ ap (λ b. pick b (apart seen ns) false) (apart_one n ns)
  where
    turned : (a b : Bool) → neg (either a b) ≡ pick (neg a) (neg b) false
    turned true b = refl
    turned false b = refl

passes_once : (seen ns : List Name) → passes again seen ns ≡ pick (apart seen ns) (distinct ns) false
unfolding passes all distinct
passes_once seen [] = refl
passes_once seen (n ∷ ns) =
    ap (λ b. pick (member n seen) false b) (passes_once (insert n seen) ns ∙ ap (λ b. pick b (distinct ns) false) (apart_insert n seen ns))
    ∙ turned (member n seen) (member n ns) (apart seen ns) (distinct ns)
  where
    turned : (a b c d : Bool) → pick a false (pick (pick (neg b) c false) d false) ≡ pick (pick (neg a) c false) (pick b false d) false
    turned true b c d = refl
    turned false true true d = refl
    turned false true false d = refl
    turned false false c d = refl

apart_none : (ns : List Name) → apart [] ns ≡ true
unfolding all member
apart_none [] = refl
apart_none (n ∷ ns) = apart_none ns

pub once_place :
    (ls : List Lexeme) {ps : List Production} → Productions (bare ls) ps → is_none (first_name head_of again [] ls) ≡ once_named ps
once_place ls {ps} P =
    none_named head_of (names_one head_of is_head head_names) again [] ls ∙ passes_once [] (heads_in (bare ls))
    ∙ ap (λ b. pick b (distinct (heads_in (bare ls))) false) (apart_none (heads_in (bare ls))) ∙ sym (once_are P)

-- ## 24: at most eight names

insert_grows : (n : Name) (ms : List Name) → length ms ≤ length (insert n ms)
unfolding insert
insert_grows n [] = omega arith
insert_grows n (m ∷ ms) = go (order n m) refl (insert_grows n ms)
  where
    go : (o : Order) → order n m ≡ o → length ms ≤ length (insert n ms) → length (m ∷ ms) ≤ length (insert n (m ∷ ms))
    go lower q i = rw (q, insert) (omega arith)
    go equal q i = rw (q, insert) (omega arith)
    go higher q i = rw (q, insert) (omega arith)

sorted_grows : (ms ns : List Name) → length (sorted ms) ≤ length (sorted (ms ++ ns))
sorted_grows ms [] = rw append-nil (omega arith)
sorted_grows ms (n ∷ ns) =
    rw (← append_snoc ms n ns) (omega (arith, insert_grows n (sorted ms), ap length (sorted_added n ms), sorted_grows (ms ++ (n ∷ [])) ns))

passes_few :
    (ms ns : List Name) → length (sorted ms) ≤ 8 → passes ninth (sorted ms) ns ≡ leb (length (sorted (ms ++ ns))) 8
unfolding passes
passes_few ms [] h = rw append-nil (sym (le-leb (length (sorted ms)) 8 h))
passes_few ms (n ∷ ns) h = go (ltb 8 (length (insert n (sorted ms)))) refl (λ k. passes_few (ms ++ (n ∷ [])) ns k)
  where
    all_of : sorted ((ms ++ (n ∷ [])) ++ ns) ≡ sorted (ms ++ (n ∷ ns))
    all_of = ap sorted (append_snoc ms n ns)

    go : (b : Bool) → ltb 8 (length (insert n (sorted ms))) ≡ b
        → (length (sorted (ms ++ (n ∷ []))) ≤ 8 → passes ninth (sorted (ms ++ (n ∷ []))) ns ≡ leb (length (sorted ((ms ++ (n ∷ [])) ++ ns))) 8)
        → passes ninth (sorted ms) (n ∷ ns) ≡ leb (length (sorted (ms ++ (n ∷ ns)))) 8
    go true q i =
        let k = ltb-true 8 (length (insert n (sorted ms))) q in
        let l = sorted_grows (ms ++ (n ∷ [])) ns in
        rw q (sym (lt-leb (length (sorted (ms ++ (n ∷ ns)))) 8 (omega (arith, ap length (sorted_added n ms), ap length all_of))))
    go false q i =
        let k = ltb-false 8 (length (insert n (sorted ms))) q in
        rw (q, ← sorted_added n ms) (i (omega (arith, ap length (sorted_added n ms))) ∙ ap (λ l. leb (length l) 8) all_of)

module _ (ls : List Lexeme) where
  few_places : (say : Token → List Name) → AtMostOne say → is_none (first_name say ninth [] ls) ≡ leb (length (sorted (per_token say (bare ls)))) 8
  unfolding sorted
  few_places say one = none_named say one ninth [] ls ∙ passes_few [] (per_token say (bare ls)) (omega arith)

  pub defs_place : is_none (first_name def_of ninth [] ls) ≡ leb (length (sorted (defs_in (bare ls)))) 8
  defs_place = few_places def_of (names_one def_of is_def def_names)

  pub switches_place : is_none (first_name switch_of ninth [] ls) ≡ leb (length (sorted (conditions_in (bare ls)))) 8
  switches_place = few_places switch_of switch_one

module _ (ls : List Lexeme) {ps : List Production} (P : Productions (bare ls) ps) where
  -- They are the grammar's tables, if 21 holds, and its conditions.
  pub tables_place : all_defined ps ≡ true → is_none (first_name def_of ninth [] ls) ≡ leb (G.tables (compile ps)) 8
  unfolding compile
  tables_place e =
      defs_place ls ∙ ap (λ n. leb n 8) (ap length (sym (tables_sorted P e)) ∙ sym (length-map (sorted (tables ps)) (λ t. _)))

  pub conditions_place : is_none (first_name switch_of ninth [] ls) ≡ leb (compile ps).conditions 8
  unfolding compile
  conditions_place = switches_place ls ∙ ap (λ l. leb (length l) 8) (sym (conditions_sorted P))

  -- ## 24: quoted texts

  pub texts_place : is_none (first_where long ls) ≡ all (λ b. b) (everywhere (per_leaf short) ps)
  texts_place =
      none_where long ls ∙ all_same (λ t. neg (long t)) (λ t. all is_short (quoted_in t)) (λ t. twice (all is_short (quoted_in t))) (bare ls)
      ∙ sym (all_said is_short quoted_in (bare ls)) ∙ sym (texts_are P)
    where
      twice : (b : Bool) → neg (neg b) ≡ b
      twice true = refl
      twice false = refl

-- ## As many heads as productions, as many defs as definitions

only_length : (say : Token → List Name) (test : Token → Bool) → NamesOne say test → (ls : List Lexeme) → length (only test ls) ≡ length (per_token say (bare ls))
unfolding only per_token
only_length say test f [] = refl
only_length say test f (l ∷ ls) = go (test l.token) refl (only_length say test f ls)
  where
    go : (b : Bool) → test l.token ≡ b → length (only test ls) ≡ length (per_token say (bare ls))
        → length (only test (l ∷ ls)) ≡ length (per_token say (bare (l ∷ ls)))
    go true q i = rw q (omega (arith, rw q at (f l.token), length-append (say l.token) (per_token say (bare ls))))
    go false q i = rw q (omega (arith, rw q at (f l.token), length-append (say l.token) (per_token say (bare ls))))

module _ (ls : List Lexeme) {ps : List Production} (P : Productions (bare ls) ps) where
  pub heads_length : length (only is_head ls) ≡ length ps
  heads_length = only_length head_of is_head head_names ls ∙ ap length (heads_are P) ∙ length-map ps (λ p. p.name)

  pub defs_length : length (only is_def ls) ≡ length (definitions ps)
  defs_length = only_length def_of is_def def_names ls ∙ ap length (defs_are P) ∙ length-map (definitions ps) (λ d. d.table)

-- ## 23: one pattern

numbered_there : (i : ℕ) (ls : List Lexeme) → i < length ls → is_none (numbered (some i) ls) ≡ false
unfolding numbered
numbered_there i [] h = absurd (omega arith)
numbered_there zero (l ∷ ls) h = refl
numbered_there (suc i) (l ∷ ls) h = numbered_there i ls (omega arith)

pub pattern_place :
    (ls : List Lexeme) {ps : List Production} → Productions (bare ls) ps → is_none (unlike (definitions ps) ls) ≡ one_pattern ps
unfolding numbered
pattern_place ls {ps} P = go (fault ds) refl
  where
    ds : List Definition
    ds = definitions ps

    none_agrees : is_none (fault ds) ≡ agree ds
    none_agrees = same_truth (is_none (fault ds)) (agree ds) (λ e. (fault_none ds).0 (is_none_lem (fault ds) e)) (λ e. ap is_none ((fault_none ds).1 e))
      where
        is_none_lem : (o : Option ℕ) → is_none o ≡ true → o ≡ none
        is_none_lem none e = refl
        is_none_lem (some i) e = no_way (cc)

    go : (o : Option ℕ) → fault ds ≡ o → is_none (numbered (fault ds) (only is_def ls)) ≡ agree ds
    go none q = rw q (sym (ap is_none q) ∙ none_agrees)
    go (some i) q =
        rw q (numbered_there i (only is_def ls) (omega (arith, (first_fault ds i q).within_list, defs_length ls P)) ∙ sym (ap is_none q) ∙ none_agrees)

-- ## 24: nodes and image

module _ (limit : ℕ) (sized : ℕ → ℕ) (grows : (n k : ℕ) → sized n ≤ sized (n + k)) (pn tn cn : Name → ℕ) where
  -- The number of nodes behind productions.
  abbrev nodes_behind : ℕ → List Production → ℕ
  nodes_behind k ps = k + length (emit_all pn tn cn k ps)

  behind_one : (k : ℕ) (p : Production) (ps : List Production) → nodes_behind k (p ∷ ps) ≡ nodes_behind (k + count p.body) ps
  unfolding emit_all
  behind_one k p ps =
      omega (arith, length-append (emit pn tn cn k p.body) (emit_all pn tn cn (k + count p.body) ps), emit_length pn tn cn k p.body)

  -- The first over the limit, by what comes behind it.
  over_one :
      (k : ℕ) (p : Production) (ps : List Production) (h : Lexeme) (heads : List Lexeme)
      → (let later = k + count p.body in
      (sized later ≤ limit → is_none (first_over limit sized later ps heads) ≡ leb (sized (nodes_behind later ps)) limit)
      → is_none (first_over limit sized k (p ∷ ps) (h ∷ heads)) ≡ leb (sized (nodes_behind k (p ∷ ps))) limit)
  unfolding first_over
  over_one k p ps h heads i = rw (behind_one k p ps) (go (ltb limit (sized later)) refl)
    where
      later : ℕ
      later = k + count p.body

      go : (b : Bool) → ltb limit (sized later) ≡ b
          → is_none (pick (ltb limit (sized later)) (some h) (first_over limit sized later ps heads)) ≡ leb (sized (nodes_behind later ps)) limit
      go true q =
          let l = ltb-true limit (sized later) q in
          let g = grows later (length (emit_all pn tn cn later ps)) in
          rw q (sym (lt-leb (sized (nodes_behind later ps)) limit (omega arith)))
      go false q = rw q (i (ltb-false limit (sized later) q))

  over_later :
      (ps : List Production) (k : ℕ) (heads : List Lexeme) → length heads ≡ length ps → sized k ≤ limit
      → is_none (first_over limit sized k ps heads) ≡ leb (sized (nodes_behind k ps)) limit
  unfolding first_over emit_all
  over_later [] k heads e h = let z : k + 0 ≡ k = omega arith in rw z (sym (le-leb (sized k) limit h))
  over_later (p ∷ ps) k [] e h = absurd (omega arith)
  over_later (p ∷ ps) k (l ∷ heads) e h = over_one k p ps l heads (over_later ps (k + count p.body) heads (omega arith))

  over_some :
      (ps : List Production) (heads : List Lexeme) → length heads ≡ length ps → 0 < length ps
      → is_none (first_over limit sized 0 ps heads) ≡ leb (sized (nodes_behind 0 ps)) limit
  over_some [] heads e h = absurd (omega arith)
  over_some (p ∷ ps) [] e h = absurd (omega arith)
  over_some (p ∷ ps) (l ∷ heads) e h = over_one 0 p ps l heads (over_later ps (0 + count p.body) heads (omega arith))

some_production : {ts : List Token} {ps : List Production} → Productions ts ps → 0 < length ps
some_production (last D) = omega arith
some_production (more D P) = omega arith

written_grows : (xs ys : List Expr) → length (written encode_node xs) ≤ length (written encode_node (xs ++ ys))
written_grows [] ys = omega arith
written_grows (x ∷ xs) ys =
    omega (
      arith,
      length-append (encode_node x) (written encode_node xs),
      length-append (encode_node x) (written encode_node (xs ++ ys)),
      written_grows xs ys,
    )

image_grows : (g : Grammar) (n k : ℕ) → image_up_to g n ≤ image_up_to g (n + k)
unfolding image_up_to
image_grows g n k = rw (take-add n k g.nodes) (omega (arith, written_grows (take n g.nodes) (take k (drop n g.nodes))))

whole_image : (g : Grammar) → image_up_to g (size g) ≡ length (encode g)
unfolding image_up_to
whole_image g =
    rw (take-length g.nodes)
    (omega (
      arith,
      length-append (numbers (heading g) ++ numbers g.patterns) (written encode_node g.nodes),
      length-append (numbers (heading g)) (numbers g.patterns),
    ))

module _ (ls : List Lexeme) {ps : List Production} (P : Productions (bare ls) ps) where
  over_place :
      (limit : ℕ) (sized : ℕ → ℕ) → ((n k : ℕ) → sized n ≤ sized (n + k))
      → is_none (first_over limit sized 0 ps (only is_head ls)) ≡ leb (sized (size (compile ps))) limit
  unfolding compile
  over_place limit sized grows =
      over_some limit sized grows (production_number ps) (table_number ps) (condition_number ps) ps (only is_head ls) (heads_length ls P) (some_production P)
      ∙ ap (λ n. leb (sized n) limit) (omega arith)

  pub nodes_place : is_none (first_over 512 (λ n. n) 0 ps (only is_head ls)) ≡ leb (size (compile ps)) 512
  nodes_place = over_place 512 (λ n. n) (λ n k. omega arith)

  pub image_place : is_none (first_over 16384 (image_up_to (compile ps)) 0 ps (only is_head ls)) ≡ leb (length (encode (compile ps))) 16384
  image_place = over_place 16384 (image_up_to (compile ps)) (image_grows (compile ps)) ∙ ap (λ n. leb n 16384) (whole_image (compile ps))
