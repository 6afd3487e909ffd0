-- WHAT PRODUCTIONS MEAN SETTLES ALL THAT A RUN CAN COME TO: two grammars that mean the same productions, their tables and conditions being numbered alike, have the same
-- shape from the start on, however deep one looks. They differ in how nodes are numbered, in which of the same shape are one node, and in nodes that nothing reaches. Of `compile`'s
-- grammar there are as many nodes as its operators become (`size_is` in `BelowLaws`): each becomes its own, and only the operand of `+` is shared.
use Prim.Native.Nat.{ℕ, zero, suc}
use Rattle.std.specs.Prelude.{◌≡◌, Bool, eqb}
use Rattle.std.proofs.Math.Path.{refl, ap, sym}
use Rattle.std.proofs.Common.{ap₂, ◌∙◌, subst}
use Rattle.std.proofs.Math.Bool.{true, false}
use mathlib.Core.List.{List, [], ◌∷◌, ◌++◌, map, map-append}
use Rattle.format.specs.Reading.{pick}
use Rattle.grammar.specs.Expr.{Expr}
use Rattle.grammar.specs.Expr as E
use Rattle.grammar.specs.Grammar.{Grammar, node, pattern}
use Rattle.notation.specs.Tree.{Name, Part, match, is, isa, exists, Leaf, any, quoted, class, call, query, if, and, not, option, star, plus, Binary, sequence, choice, def, block, local, on, Tree, leaf, prefix, suffix, binary, within, Production}
use Rattle.notation.specs.Lexer.{same}
use Rattle.notation.specs.LexicalText.{no_way}
use Rattle.notation.specs.LexicalToken.{same_true}
use Rattle.notation.specs.Naming.{per_leaf, per_operator, everywhere, called_by, table_of, table_in, Definition, definition_in, names, calls, tables, definitions, member, all, all_defined}
use Rattle.notation.specs.Compile.{text_node, part_node}
use Rattle.notation.specs.Means.{Means, AllMean, Starts}
use Rattle.notation.specs.CompileLaws.{member-here, production_number, table_number, condition_number}
use Rattle.notation.specs.MemberLaws.{either, member-append, all_append}
use Rattle.notation.specs.Kept.{Taken}
use Rattle.notation.specs.SaidLaws.{taken_means}
use Rattle.notation.specs.Shape.{Sequence, Choice, Star, Not, Call, Def, Is, Isa, Block, Local, On, shaped, shape}

both_true : (a b : Bool) → pick a b false ≡ true → (a ≡ true) × (b ≡ true)
both_true true b e = (refl, e)
both_true false b e = no_way (cc)

all_parts : {A : Type 0} (f : A → Bool) (xs ys : List A) → all f (xs ++ ys) ≡ true → (all f xs ≡ true) × (all f ys ≡ true)
all_parts f xs ys e = both_true (all f xs) (all f ys) (sym (all_append f xs ys) ∙ e)

all_one : {A : Type 0} (f : A → Bool) (x : A) → all f (x ∷ []) ≡ true → f x ≡ true
unfolding all
all_one f x e = (both_true (f x) true e).0

-- A definition of this table is among these.
abbrev among : Name → List Definition → Bool
among t ds = member t (map (λ d. d.table) ds)

-- Of two lists it is in one.
in_either : {A : Type 0} (t : Name) (ds es : List Definition) → among t (ds ++ es) ≡ true → (among t ds ≡ true → A) → (among t es ≡ true → A) → A
in_either {A} t ds es e f g = go (among t ds) refl
  where
    parted : among t (ds ++ es) ≡ either (among t ds) (among t es)
    parted = ap (member t) (map-append (λ d. d.table) ds es) ∙ member-append t (map (λ d. d.table) ds) (map (λ d. d.table) es)

    go : (b : Bool) → among t ds ≡ b → A
    go true q = f q
    go false q = g (ap (λ b. either b (among t es)) (sym q) ∙ sym parted ∙ e)

-- Two grammars, each with its own numbers of productions. Names that are called and tables that are asked about pass these tests.
module _ (g h : Grammar) (pg ph table condition : Name → ℕ) (called asked : Name → Bool) where
  -- Two nodes, one of each, mean the same expression.
  abbrev Both : (m n : ℕ) → Tree → Type 0
  Both m n a = Means g pg table condition m a × Means h ph table condition n a

  -- All that it calls and asks about passes.
  abbrev Known : Tree → Type 0
  Known a = (all called (per_leaf called_by a) ≡ true) × (all asked (per_leaf table_of a) ≡ true)

  -- They mean some expression of which that holds.
  abbrev Meet : (m n : ℕ) → Type 0
  Meet m n = (x : Tree) × Known x × Both m n x

  -- The same of productions.
  abbrev AllBoth : List Production → Type 0
  AllBoth ps = AllMean g pg table condition ps × AllMean h ph table condition ps

  abbrev AllKnown : List Production → Type 0
  AllKnown ps = (all called (everywhere (per_leaf called_by) ps) ≡ true) × (all asked (everywhere (per_leaf table_of) ps) ≡ true)

  known_parts : (b : Binary) (x y : Tree) → Known (binary b x y) → Known x × Known y
  known_parts b x y k =
      let c = all_parts called (per_leaf called_by x) (per_leaf called_by y) k.0 in
      let d = all_parts asked (per_leaf table_of x) (per_leaf table_of y) k.1 in
      ((c.0, d.0), (c.1, d.1))

  known_first : (p : Production) (ps : List Production) → AllKnown (p ∷ ps) → Known p.body × AllKnown ps
  known_first p ps k =
      let c = all_parts called (per_leaf called_by p.body) (everywhere (per_leaf called_by) ps) k.0 in
      let d = all_parts asked (per_leaf table_of p.body) (everywhere (per_leaf table_of) ps) k.1 in
      ((c.0, d.0), (c.1, d.1))

  -- ## The nodes of productions and of patterns mean the same

  production_meets : (ps : List Production) → AllKnown ps → AllBoth ps → (n : Name) → member n (names ps) ≡ true → Meet (pg n) (ph n)
  unfolding member
  production_meets [] k b n e = no_way (cc)
  production_meets (p ∷ ps) k b n e = go (same n p.name) refl (λ d. production_meets ps (known_first p ps k).1 (b.0.1, b.1.1) n d)
    where
      go : (c : Bool) → same n p.name ≡ c → (member n (names ps) ≡ true → Meet (pg n) (ph n)) → Meet (pg n) (ph n)
      go true q r = rw (same_true n p.name q) (p.body, (known_first p ps k).0, (b.0.0, b.1.0))
      go false q r = r (rw q at e)

  abbrev MeetPatterns : Name → Type 0
  MeetPatterns t = Meet (pattern g (table t)) (pattern h (table t))

  -- A table that is defined inside an expression of which that holds.
  pattern_in : (a : Tree) (m n : ℕ) → Known a → Both m n a → (t : Name) → among t (per_operator definition_in a) ≡ true → MeetPatterns t
  unfolding member
  pattern_in (leaf l) m n k b t e = no_way (cc)
  pattern_in (prefix and a) m n k b t e = pattern_in a b.0.1 b.1.1 k (b.0.4, b.1.4) t e
  pattern_in (prefix not a) m n k b t e = pattern_in a b.0.0 b.1.0 k (b.0.2, b.1.2) t e
  pattern_in (suffix option a) m n k b t e = pattern_in a b.0.0 b.1.0 k (b.0.3, b.1.3) t e
  pattern_in (suffix star a) m n k b t e = pattern_in a b.0.0 b.1.0 k (b.0.2, b.1.2) t e
  pattern_in (suffix plus a) m n k b t e = pattern_in a b.0.0 b.1.0 k (b.0.3, b.1.3) t e
  pattern_in (binary sequence x y) m n k b t e =
      in_either t (per_operator definition_in x) (per_operator definition_in y) e
      (pattern_in x b.0.0 b.1.0 (known_parts sequence x y k).0 (b.0.3, b.1.3) t)
      (pattern_in y b.0.1 b.1.1 (known_parts sequence x y k).1 (b.0.4, b.1.4) t)
  pattern_in (binary choice x y) m n k b t e =
      in_either t (per_operator definition_in x) (per_operator definition_in y) e
      (pattern_in x b.0.0 b.1.0 (known_parts choice x y k).0 (b.0.3, b.1.3) t)
      (pattern_in y b.0.1 b.1.1 (known_parts choice x y k).1 (b.0.4, b.1.4) t)
  pattern_in (within (def u) a) m n k b t e =
      go (same t u) refl (λ d. pattern_in a (pattern g (table u)) (pattern h (table u)) k (b.0.1, b.1.1) t d)
    where
      go : (c : Bool) → same t u ≡ c → (among t (per_operator definition_in a) ≡ true → MeetPatterns t) → MeetPatterns t
      go true q r = rw (same_true t u q) (a, k, (b.0.1, b.1.1))
      go false q r = r (rw q at e)
  pattern_in (within (block u) a) m n k b t e = pattern_in a b.0.0 b.1.0 k (b.0.2, b.1.2) t e
  pattern_in (within (local u) a) m n k b t e = pattern_in a b.0.0 b.1.0 k (b.0.2, b.1.2) t e
  pattern_in (within (on c w) a) m n k b t e = pattern_in a b.0.0 b.1.0 k (b.0.2, b.1.2) t e

  pattern_meets :
      (ps : List Production) → AllKnown ps → AllBoth ps → (t : Name) → among t (definitions ps) ≡ true → MeetPatterns t
  unfolding member
  pattern_meets [] k b t e = no_way (cc)
  pattern_meets (p ∷ ps) k b t e =
      in_either t (per_operator definition_in p.body) (definitions ps) e
      (pattern_in p.body (pg p.name) (ph p.name) (known_first p ps k).0 (b.0.0, b.1.0) t)
      (pattern_meets ps (known_first p ps k).1 (b.0.1, b.1.1) t)

  -- ## So they have the same shape

  -- What is called and what is asked about means the same in both.
  module _ (calls_meet : (n : Name) → called n ≡ true → Meet (pg n) (ph n)) (asks_meet : (t : Name) → asked t ≡ true → MeetPatterns t) where
    abbrev Alike : ℕ → Type 0
    Alike k = (a : Tree) (m n : ℕ) → Known a → Both m n a → shape g k m ≡ shape h k n

    module _ (k : ℕ) (I : Alike k) where
      by_nodes :
          (m n : ℕ) (x y : Expr) → node g m ≡ x → node h n ≡ y → shaped g (shape g k) x ≡ shaped h (shape h k) y → shape g (suc k) m ≡ shape h (suc k) n
      unfolding shape
      by_nodes m n x y p q e = ap (shaped g (shape g k)) p ∙ e ∙ sym (ap (shaped h (shape h k)) q)

      meet_alike : {m n : ℕ} → Meet m n → shape g k m ≡ shape h k n
      meet_alike {m} {n} r = I r.0 m n r.1 r.2

      text_alike : (s : List ℕ) → shaped g (shape g k) (text_node s) ≡ shaped h (shape h k) (text_node s)
      text_alike [] = refl
      text_alike (b ∷ []) = refl
      text_alike (b ∷ c ∷ s) = refl

      part_alike : (p : Part) → shaped g (shape g k) (part_node p) ≡ shaped h (shape h k) (part_node p)
      part_alike p = go (eqb p.lo p.hi) refl
        where
          go : (b : Bool) → eqb p.lo p.hi ≡ b → shaped g (shape g k) (part_node p) ≡ shaped h (shape h k) (part_node p)
          go true q = rw q
          go false q = rw q

      leaf_alike : (l : Leaf) (m n : ℕ) → Known (leaf l) → Both m n (leaf l) → shape g (suc k) m ≡ shape h (suc k) n
      leaf_alike any m n w b = by_nodes m n E.Any E.Any b.0 b.1 refl
      leaf_alike (quoted s) m n w b = by_nodes m n (text_node s) (text_node s) b.0 b.1 (text_alike s)
      leaf_alike (class p []) m n w b = by_nodes m n (part_node p) (part_node p) b.0 b.1 (part_alike p)
      leaf_alike (class p (q ∷ qs)) m n w b =
          by_nodes m n (E.Choice b.0.0 b.0.1) (E.Choice b.1.0 b.1.1) b.0.2 b.1.2
          (ap₂ Choice (I (leaf (class p [])) b.0.0 b.1.0 w (b.0.3, b.1.3)) (I (leaf (class q qs)) b.0.1 b.1.1 w (b.0.4, b.1.4)))
      leaf_alike (call x) m n w b =
          by_nodes m n (E.Call (pg x)) (E.Call (ph x)) b.0 b.1 (ap Call (meet_alike (calls_meet x (all_one called x w.0))))
      leaf_alike (query match t) m n w b = by_nodes m n (E.Match (table t)) (E.Match (table t)) b.0 b.1 refl
      leaf_alike (query is t) m n w b =
          by_nodes m n (E.Is (table t)) (E.Is (table t)) b.0 b.1 (ap (Is (table t)) (meet_alike (asks_meet t (all_one asked t w.1))))
      leaf_alike (query isa t) m n w b =
          by_nodes m n (E.Isa (table t)) (E.Isa (table t)) b.0 b.1 (ap (Isa (table t)) (meet_alike (asks_meet t (all_one asked t w.1))))
      leaf_alike (query exists t) m n w b = by_nodes m n (E.Exists (table t)) (E.Exists (table t)) b.0 b.1 refl
      leaf_alike (if c v) m n w b = by_nodes m n (E.If (condition c) v) (E.If (condition c) v) b.0 b.1 refl

      -- What `&`, `?` and `+` put beside an operand means an expression too: `!a`, `''` and `a*`.
      one_deeper : Alike (suc k)
      one_deeper (leaf l) m n w b = leaf_alike l m n w b
      one_deeper (prefix and a) m n w b =
          by_nodes m n (E.Not b.0.0) (E.Not b.1.0) b.0.2 b.1.2
          (ap Not (I (prefix not a) b.0.0 b.1.0 w ((b.0.1, b.0.3, b.0.4), (b.1.1, b.1.3, b.1.4))))
      one_deeper (prefix not a) m n w b =
          by_nodes m n (E.Not b.0.0) (E.Not b.1.0) b.0.1 b.1.1 (ap Not (I a b.0.0 b.1.0 w (b.0.2, b.1.2)))
      one_deeper (suffix option a) m n w b =
          by_nodes m n (E.Choice b.0.0 b.0.1) (E.Choice b.1.0 b.1.1) b.0.2 b.1.2
          (ap₂ Choice (I a b.0.0 b.1.0 w (b.0.3, b.1.3)) (I (leaf (quoted [])) b.0.1 b.1.1 (unfold all in (refl, refl)) (b.0.4, b.1.4)))
      one_deeper (suffix star a) m n w b =
          by_nodes m n (E.Star b.0.0) (E.Star b.1.0) b.0.1 b.1.1 (ap Star (I a b.0.0 b.1.0 w (b.0.2, b.1.2)))
      one_deeper (suffix plus a) m n w b =
          by_nodes m n (E.Sequence b.0.0 b.0.1) (E.Sequence b.1.0 b.1.1) b.0.2 b.1.2
          (ap₂ Sequence (I a b.0.0 b.1.0 w (b.0.3, b.1.3))
          (I (suffix star a) b.0.1 b.1.1 w ((b.0.0, b.0.4, b.0.3), (b.1.0, b.1.4, b.1.3))))
      one_deeper (binary sequence x y) m n w b =
          by_nodes m n (E.Sequence b.0.0 b.0.1) (E.Sequence b.1.0 b.1.1) b.0.2 b.1.2
          (ap₂ Sequence (I x b.0.0 b.1.0 (known_parts sequence x y w).0 (b.0.3, b.1.3))
          (I y b.0.1 b.1.1 (known_parts sequence x y w).1 (b.0.4, b.1.4)))
      one_deeper (binary choice x y) m n w b =
          by_nodes m n (E.Choice b.0.0 b.0.1) (E.Choice b.1.0 b.1.1) b.0.2 b.1.2
          (ap₂ Choice (I x b.0.0 b.1.0 (known_parts choice x y w).0 (b.0.3, b.1.3))
          (I y b.0.1 b.1.1 (known_parts choice x y w).1 (b.0.4, b.1.4)))
      one_deeper (within (def t) a) m n w b =
          by_nodes m n (E.Def (table t)) (E.Def (table t)) b.0.0 b.1.0
          (ap (Def (table t)) (I a (pattern g (table t)) (pattern h (table t)) w (b.0.1, b.1.1)))
      one_deeper (within (block t) a) m n w b =
          by_nodes m n (E.Block (table t) b.0.0) (E.Block (table t) b.1.0) b.0.1 b.1.1
          (ap (Block (table t)) (I a b.0.0 b.1.0 w (b.0.2, b.1.2)))
      one_deeper (within (local t) a) m n w b =
          by_nodes m n (E.Local (table t) b.0.0) (E.Local (table t) b.1.0) b.0.1 b.1.1
          (ap (Local (table t)) (I a b.0.0 b.1.0 w (b.0.2, b.1.2)))
      one_deeper (within (on c v) a) m n w b =
          by_nodes m n (E.On (condition c) v b.0.0) (E.On (condition c) v b.1.0) b.0.1 b.1.1
          (ap (On (condition c) v) (I a b.0.0 b.1.0 w (b.0.2, b.1.2)))

    alike : (k : ℕ) → Alike k
    unfolding shape
    alike zero = λ a m n w b. refl
    alike (suc k) = one_deeper k (alike k)

-- ## Two grammars that mean one reading

module _ (g h : Grammar) (pg ph table condition : Name → ℕ) (ps : List Production) (G : AllMean g pg table condition ps)
    (H : AllMean h ph table condition ps) (defined : all_defined ps ≡ true) where
  -- The names that are productions', the tables that have a def.
  abbrev is_named : Name → Bool
  is_named n = member n (names ps)

  abbrev is_defined : Name → Bool
  is_defined t = member t (map (λ d. d.table) (definitions ps))

  all_known : AllKnown g h pg ph table condition is_named is_defined ps
  all_known =
      let d = both_true (all is_named (calls ps)) (all is_defined (tables ps)) defined in
      (d.0, (all_parts is_defined (everywhere (per_leaf table_of) ps) (everywhere (per_operator table_in) ps) d.1).0)

  production_both : (n : Name) → is_named n ≡ true → Meet g h pg ph table condition is_named is_defined (pg n) (ph n)
  production_both = production_meets g h pg ph table condition is_named is_defined ps all_known (G, H)

  pattern_both : (t : Name) → is_defined t ≡ true → MeetPatterns g h pg ph table condition is_named is_defined t
  pattern_both = pattern_meets g h pg ph table condition is_named is_defined ps all_known (G, H)

  -- NODES THAT MEAN THE SAME HAVE THE SAME SHAPE.
  pub same_shape :
      (depth : ℕ) (a : Tree) (m n : ℕ) → all is_named (per_leaf called_by a) ≡ true → all is_defined (per_leaf table_of a) ≡ true
      → Means g pg table condition m a → Means h ph table condition n a → shape g depth m ≡ shape h depth n
  same_shape depth a m n c d M N = alike g h pg ph table condition is_named is_defined production_both pattern_both depth a m n (c, d) (M, N)

  meet_shape : (depth m n : ℕ) → Meet g h pg ph table condition is_named is_defined m n → shape g depth m ≡ shape h depth n
  meet_shape depth m n r = same_shape depth r.0 m n r.1.0 r.1.1 r.2.0 r.2.1

  -- SO HAVE PRODUCTIONS, PATTERNS, AND THE START.
  pub same_production : (depth : ℕ) (n : Name) → is_named n ≡ true → shape g depth (pg n) ≡ shape h depth (ph n)
  same_production depth n e = meet_shape depth (pg n) (ph n) (production_both n e)

  pub same_pattern : (depth : ℕ) (t : Name) → is_defined t ≡ true → shape g depth (pattern g (table t)) ≡ shape h depth (pattern h (table t))
  same_pattern depth t e = meet_shape depth (pattern g (table t)) (pattern h (table t)) (pattern_both t e)

  pub same_start :
      (depth : ℕ) → Starts g pg table condition ps → Starts h ph table condition ps → shape g depth g.start ≡ shape h depth h.start
  same_start depth = go ps refl
    where
      go : (qs : List Production) → qs ≡ ps → Starts g pg table condition qs → Starts h ph table condition qs → shape g depth g.start ≡ shape h depth h.start
      go [] q S T = absurd S
      go (p ∷ qs) q S T =
          ap (shape g depth) S
          ∙ same_production depth p.name (subst (λ ps. member p.name (names ps) ≡ true) q (member-here p.name (names qs)))
          ∙ sym (ap (shape h depth) T)

-- A grammar that means a taken text's reading has the shape of the one that the text is taken for.
pub taken_once :
    {text : List ℕ} {room : ℕ} {g : Grammar} (t : Taken text room g) (h : Grammar) (ph : Name → ℕ)
    → (let ps = t.productions in
    AllMean h ph (table_number ps) (condition_number ps) ps → Starts h ph (table_number ps) (condition_number ps) ps → (depth : ℕ)
    → shape g depth g.start ≡ shape h depth h.start)
taken_once {g = g} t h ph H T depth =
    let ps = t.productions in
    let m = taken_means t in
    same_start g h (production_number ps) ph (table_number ps) (condition_number ps) ps m.0 H t.keeps.names_defined depth m.1 T
