-- A node that was entered: what may be asked of the nodes inside it, and what is then said of it. One law a kind.
use Rattle.std.specs.Prelude.{ℕ, zero, suc, ◌+◌, ◌-◌, ◌≤◌, ◌<◌, max, ◌≡◌, refl, Option, None, Some, is_some, Bool, true, false, List, [], ◌∷◌, ◌++◌, reverse, eqb, leb, ltb, take, drop, get_or}
use Rattle.std.proofs.Math.Path.{ap}
use Rattle.std.proofs.Common.{sym, ◌∙◌, subst, arith, length-take, length-drop, drop_of_length-le, drop-cons, le-ltb, lt-ltb, ltb-true, ltb-false, eqb-true, le-leb, leb-true}
use Rattle.std.specs.Bool.{beq}
use Rattle.std.proofs.Math.ListN.{length}
use Rattle.std.proofs.lemmas.Bool.{eqb-false}
use Rattle.grammar.specs.Expr as e
use Rattle.grammar.specs.Grammar.{Grammar, tables, size, node, pattern}
use Rattle.grammar.specs.Sound.{Fits, Bytes}
use Rattle.image.specs.Node.{node_of, expr_of, span_of}
use Rattle.format.specs.Reading.{pick}
use Rattle.image.specs.declared.node.Node.{Node}
use Rattle.image.specs.declared.node.Span.{Span}
use Rattle.image.specs.declared.node.Node.TheVariants.{Empty, Byte, Range, Any, Text, Sequence, Choice, Star, Not, Call, Def, Match, Is, Isa, Exists, Block, Local, If, On}
use Rattle.meaning.specs.State.{Symbol, State as Symbols, of_table, visible, hide, switch}
use Rattle.meaning.specs.Outcome.{Outcome as Meant, pass, fail, ◌and◌, begins, some, in_range, agree, pass_if, swap, restored, closed, matched, compared, text}
use Rattle.meaning.specs.Rules.{symbol}
use Rattle.kinds.specs.declared.state.State.{State}
use Rattle.parts.specs.Slots.{symbols, symbol_at, latest_of, Below}
use Rattle.parts.specs.Seen.{listed, seen_none, seen_front, seen_some}
use Rattle.parts.specs.SlotsLaws.{symbols_length}
use Rattle.kinds.specs.Held.{env_of, hiding}
use Rattle.machine.specs.Told.{Told, came, stopped, and_then, or_else, become, tells}
use Rattle.machine.specs.ToldLaws.{tells_sequence, tells_choice, tells_star, tells_not, tells_call, tells_block, tells_local, tells_on, tells_def, Naming, with_latest, with_some, tells_none, tells_named, tells_empty, tells_byte, tells_range, tells_any, tells_text, tells_match, tells_exists, tells_if}
use Rattle.machine.specs.ReadyLaws.{kept_below, below_same, moved}
use Rattle.machine.specs.Ready.{grammar_of, step_limit, depth_limit, room_limit, Ready, Node as Numbered, telling, starring}

-- ## Tests on a byte

-- A byte is the range from itself to itself.
pub byte_test : (b : ℕ) (y : List ℕ) → in_range b b y ≡ begins (b ∷ []) y
byte_test b [] = refl
byte_test b (a ∷ y) = go (eqb a b) refl
  where
    go : (t : Bool) → eqb a b ≡ t → (leb b a and leb a b) ≡ (t and true)
    go true h = let z = eqb-true a b h in rw (le-leb b a (omega arith), le-leb a b (omega arith))
    go false h = low (leb b a) refl (leb a b) refl
      where
        low : (s : Bool) → leb b a ≡ s → (t : Bool) → leb a b ≡ t → (s and t) ≡ false
        low true i true j = absurd (eqb-false a b h (omega (arith, leb-true b a i, leb-true a b j)))
        low true i false j = refl
        low false i t j = refl

-- A byte is left exactly before the end.
pub left_test : (at : ℕ) (x : List ℕ) → ltb at (length x) ≡ some (drop at x)
left_test at [] = le-ltb at 0 (omega arith) ∙ ap some (sym (drop_of_length-le {A = ℕ} [] {i = at} (omega arith)))
left_test zero (a ∷ x) = lt-ltb 0 (suc (length x)) (omega arith)
left_test (suc at) (a ∷ x) = go (ltb at (length x)) refl ∙ left_test at x
  where
    go : (t : Bool) → ltb at (length x) ≡ t → ltb (suc at) (suc (length x)) ≡ ltb at (length x)
    go true h = lt-ltb (suc at) (suc (length x)) (omega (arith, ltb-true at (length x) h)) ∙ sym h
    go false h = le-ltb (suc at) (suc (length x)) (omega (arith, ltb-false at (length x) h)) ∙ sym h

-- Where there are bytes alone, any byte is the range of all bytes.
pub any_test : (at : ℕ) (x : List ℕ) → Bytes x → in_range 0 255 (drop at x) ≡ ltb at (length x)
any_test at x b = go (ltb at (length x)) refl
  where
    go : (t : Bool) → ltb at (length x) ≡ t → in_range 0 255 (drop at x) ≡ t
    go true h =
        ap (in_range 0 255) (drop-cons x at 0 (ltb-true at (length x) h))
        ∙ rw (le-leb 0 (get_or x at 0) (omega arith), le-leb (get_or x at 0) 255 (b at))
    go false h = ap (in_range 0 255) (drop_of_length-le x {i = at} (ltb-false at (length x) h))

-- The truth of a condition is the named one.
pub agrees : (w : Bool) {r v : Bool} → r ≡ v → beq r w ≡ agree v w
agrees w {v = v} e = ap (λ r. beq r w) e ∙ go v w
  where
    go : (v w : Bool) → beq v w ≡ agree v w
    go true true = refl
    go true false = refl
    go false true = refl
    go false false = refl

-- ## A table's list

module _ (t : ℕ) (state : State) (slots : List ℕ) (held : ℕ) {low : ℕ} (floor : low ≡ get_or (env_of state).floors t 0) where
  abbrev seen_list : Symbols
  seen_list = visible (env_of state) t (symbols held slots)

  -- What lies from the floor on is the list, also where nothing below the held symbols was written since.
  pub in_list : {after : List ℕ} → Below held slots after → listed t low after held ≡ seen_list
  in_list f = ap (λ σ. reverse (of_table t (drop low σ))) (kept_below f) ∙ ap (λ n. reverse (of_table t (drop n (symbols held slots)))) floor

  module _ {seen : Option ℕ} (e : seen ≡ latest_of t low held slots) where
    pub unseen : seen ≡ None → seen_list ≡ []
    unseen z = sym (in_list (below_same held slots)) ∙ seen_none t low slots held e z

    pub in_view : {k : ℕ} → seen ≡ Some k → seen_list ≡ symbol_at slots k ∷ listed t low slots k
    in_view z = sym (in_list (below_same held slots)) ∙ seen_front t low slots held e z

    pub any_seen : is_some seen ≡ some seen_list
    any_seen = seen_some t low slots held e ∙ ap some (in_list (below_same held slots))

-- ## An entry

-- A node that was entered: a step and a depth were left, and the tally is charged.
pub record Entry (code image input slots : List ℕ) (left number at held spent deepest steps depth : ℕ) : Type 0 where
  pub ready : Ready code image input slots left at held spent deepest
  pub numbered : Numbered image number
  pub more : 1 ≤ left
  pub step : spent < step_limit code
  pub counted : steps ≡ spent + 1
  pub deeper : depth ≡ max deepest (depth_limit code - (left - 1))

module _ {code image input slots : List ℕ} {left number at held spent deepest steps depth : ℕ}
    (E : Entry code image input slots left number at held spent deepest steps depth) where
  abbrev g : Grammar
  g = grammar_of image

  abbrev B : ℕ
  B = step_limit code

  abbrev D : ℕ
  D = depth_limit code

  abbrev R : ℕ
  R = room_limit code

  abbrev σ : Symbols
  σ = symbols held slots

  -- What stands inside may be run, with one depth less.
  pub below : Ready code image input slots (left - 1) at held steps depth
  below =
      let r = E.ready in
      moved r refl r.place r.room (omega (arith, E.step, E.counted)) (omega (arith, r.deep)) (omega (arith, E.deeper))
      (omega (arith, E.deeper, r.entered, r.deep, E.more)) r.parts

  -- What the word of the node says it is.
  abbrev pub Kind : Node → Type 0
  Kind k = k ≡ node_of (get_or code number 0)

  expr : {k : Node} → Kind k → node g number ≡ expr_of image k
  expr h = sym (E.ready.coded.nodes number E.numbered) ∙ ap (expr_of image) (sym h)

  pub fits : {k : Node} → Kind k → Fits (tables g) g.conditions (size g) number (expr_of image k)
  fits h = subst (Fits (tables g) g.conditions (size g) number) (expr h) (E.ready.coded.sound.operands_fit number E.numbered)

  pub lower : {a : ℕ} → a < number → Numbered image a
  lower h = omega (arith, E.numbered)

  pub few_tables : {t : ℕ} → t < tables g → t < 8
  few_tables h = omega (arith, E.ready.coded.sound.few_tables)

  pub few_conditions : {k : ℕ} → k < g.conditions → k < 8
  few_conditions h = omega (arith, E.ready.coded.sound.few_conditions)

  -- The pattern of a table.
  pub named_by : {t : ℕ} → t < tables g → get_or code (512 + t) 0 ≡ pattern g t
  named_by {t} h = E.ready.coded.patterns t h

  pub pattern_numbered : {t : ℕ} → t < tables g → Numbered image (get_or code (512 + t) 0)
  pattern_numbered {t} h = subst (λ n. n < size g) (sym (named_by h)) (E.ready.coded.sound.patterns_named t h)

  -- The bytes of a Text lie in the image, and are as many as its count.
  pub in_image : {place count : ℕ} → Kind (Text place count) → place + count ≤ length image
  in_image {place} {count} h = E.ready.coded.texts number E.numbered place count (sym h)

  pub long_text_lem : {place count : ℕ} → Kind (Text place count) → length (take count (drop place image)) ≡ count
  long_text_lem {place} {count} h = length-take count (drop place image) ∙ rw (length-drop place image) (omega (arith, in_image h))

  pub short_text : {place count : ℕ} → Kind (Text place count) → count ≤ 64
  short_text h = omega (arith, long_text_lem h, (fits h).1)

  -- ## What is said of the node, by its kind

  module _ (state : State) where
    abbrev Said : Told → Type 0
    Said T = T ≡ telling code image input state left spent deepest (node g number) at σ

    abbrev inner : State → ℕ → Told
    inner v n = telling code image input v (left - 1) steps depth (node g n) at σ

    pub says_sequence : {a b : ℕ} → Kind (Sequence a b)
        → Said (and_then (inner state a) (λ q τ s d. telling code image input state (left - 1) s d (node g b) q τ))
    says_sequence {a} {b} h =
        rw (expr h, E.counted, E.deeper)
        (sym (tells_sequence g input B D R left spent deepest E.more E.ready.deep E.step (env_of state) a b at σ))

    pub says_choice : {a b : ℕ} → Kind (Choice a b)
        → Said (or_else (inner state a) (λ s d. telling code image input state (left - 1) s d (node g b) at σ))
    says_choice {a} {b} h =
        rw (expr h, E.counted, E.deeper)
        (sym (tells_choice g input B D R left spent deepest E.more E.ready.deep E.step (env_of state) a b at σ))

    pub says_star : {a : ℕ} → Kind (Star a) → Said (starring code image input state (left - 1) steps depth a at σ)
    says_star {a} h =
        rw (expr h, E.counted, E.deeper)
        (sym (tells_star g input B D R left spent deepest E.more E.ready.deep E.step (env_of state) a at σ))

    pub says_not : {a : ℕ} → Kind (Not a) → Said (become (swap at σ) (inner state a))
    says_not {a} h =
        rw (expr h, E.counted, E.deeper) (sym (tells_not g input B D R left spent deepest E.more E.ready.deep E.step (env_of state) a at σ))

    pub says_call : {a : ℕ} → Kind (Call a) → Said (inner state a)
    says_call {a} h =
        rw (expr h, E.counted, E.deeper) (sym (tells_call g input B D R left spent deepest E.more E.ready.deep E.step (env_of state) a at σ))

    pub says_block : {t a : ℕ} → Kind (Block t a) → Said (become (closed t σ) (inner state a))
    says_block {t} {a} h =
        rw (expr h, E.counted, E.deeper)
        (sym (tells_block g input B D R left spent deepest E.more E.ready.deep E.step (env_of state) t a at σ))

    pub says_local : {t a : ℕ} (hidden : State) → Kind (Local t a) → env_of hidden ≡ hiding (env_of state) t held → Said (become (closed t σ) (inner hidden a))
    says_local {t} {a} hidden h i =
        let j : env_of hidden ≡ hide (env_of state) t σ = i ∙ ap (hiding (env_of state) t) (sym (symbols_length held slots)) in
        rw (expr h, E.counted, E.deeper, j)
        (sym (tells_local g input B D R left spent deepest E.more E.ready.deep E.step (env_of state) t a at σ))

    pub says_on : {k : ℕ} {w : Bool} {a : ℕ} (switched : State) → Kind (On k w a) → env_of switched ≡ switch (env_of state) k w → Said (become (restored σ) (inner switched a))
    says_on {k} {w} {a} switched h i =
        rw (expr h, E.counted, E.deeper, i)
        (sym (tells_on g input B D R left spent deepest E.more E.ready.deep E.step (env_of state) k w a at σ))

    pub says_def : {t : ℕ} → Kind (Def t)
        → Said (and_then (inner state (get_or code (512 + t) 0)) (λ a τ s d. pick (ltb (length σ) R) (came (pass a (σ ++ (symbol t at a ∷ []))) s d) (stopped 14 at s d)))
    says_def {t} h =
        rw (expr h, E.counted, E.deeper, named_by (fits h))
        (sym (tells_def g input B D R left spent deepest E.more E.ready.deep E.step (env_of state) t at σ))

    -- Is and Isa: the list as it was before the pattern ran.
    abbrev list : ℕ → Symbols
    list t = visible (env_of state) t σ

    abbrev Names : ℕ → e.Expr → (Symbols → Symbols) → Type 0
    Names t = Naming g input B D R left spent deepest E.more E.ready.deep E.step (env_of state) t

    none_named : {k : Node} (t : ℕ) {f : Symbols → Symbols} → Kind k → Names t (expr_of image k) f → list t ≡ [] → Said (came fail steps depth)
    none_named t h n l =
        rw (expr h, E.counted, E.deeper)
        (sym (tells_none g input B D R left spent deepest E.more E.ready.deep E.step n at σ (ap some l)))

    one_named : {k : Node} (t : ℕ) {f : Symbols → Symbols} → Kind k → Names t (expr_of image k) f → some (list t) ≡ true → t < tables g
        → Said (become (compared input at σ (f (list t))) (inner state (get_or code (512 + t) 0)))
    one_named t h n l m =
        rw (expr h, E.counted, E.deeper, named_by m)
        (sym (tells_named g input B D R left spent deepest E.more E.ready.deep E.step n at σ l))

    pub says_is_none : {t : ℕ} → Kind (Is t) → list t ≡ [] → Said (came fail steps depth)
    says_is_none {t} h = none_named t h with_latest

    pub says_isa_none : {t : ℕ} → Kind (Isa t) → list t ≡ [] → Said (came fail steps depth)
    says_isa_none {t} h = none_named t h with_some

    pub says_is : {t : ℕ} → Kind (Is t) → some (list t) ≡ true
        → Said (become (compared input at σ (take 1 (list t))) (inner state (get_or code (512 + t) 0)))
    says_is {t} h l = one_named t h with_latest l (fits h)

    pub says_isa : {t : ℕ} → Kind (Isa t) → some (list t) ≡ true
        → Said (become (compared input at σ (list t)) (inner state (get_or code (512 + t) 0)))
    says_isa {t} h l = one_named t h with_some l (fits h)

    -- The kinds that run nothing.
    module _ (k : Node) (h : Kind k) (o : Meant) where
      leaf : tells g input B D R left spent deepest (env_of state) (expr_of image k) at σ ≡ came o (spent + 1) (max deepest (D - (left - 1)))
          → Said (came o steps depth)
      leaf q = rw (expr h, E.counted, E.deeper) (sym q)

    pub says_empty : Kind Empty → Said (came (pass at σ) steps depth)
    says_empty h = leaf Empty h (pass at σ) (tells_empty g input B D R left spent deepest E.more E.ready.deep E.step (env_of state) at σ)

    pub says_byte : {b : ℕ} {ok : Bool} → Kind (Byte b) → ok ≡ in_range b b (drop at input) → Said (came (pass_if ok (at + 1) σ) steps depth)
    says_byte {b} h q =
        rw (q, byte_test b (drop at input))
        (leaf (Byte b) h (pass_if (begins (b ∷ []) (drop at input)) (at + 1) σ)
        (tells_byte g input B D R left spent deepest E.more E.ready.deep E.step (env_of state) at σ b))

    pub says_range :
        {lo hi : ℕ} {ok : Bool} → Kind (Range lo hi) → ok ≡ in_range lo hi (drop at input) → Said (came (pass_if ok (at + 1) σ) steps depth)
    says_range {lo} {hi} h q =
        rw q
        (leaf (Range lo hi) h (pass_if (in_range lo hi (drop at input)) (at + 1) σ)
        (tells_range g input B D R left spent deepest E.more E.ready.deep E.step (env_of state) at σ lo hi))

    pub says_any : {ok : Bool} → Kind Any → ok ≡ ltb at (length input) → Said (came (pass_if ok (at + 1) σ) steps depth)
    says_any h q =
        rw (q, left_test at input)
        (leaf Any h (pass_if (some (drop at input)) (at + 1) σ)
        (tells_any g input B D R left spent deepest E.more E.ready.deep E.step (env_of state) at σ))

    span_taken : {s s' : Span} → ◌≡◌ {A = Option Span} (Some s) (Some s') → in_range s.lo s.hi (drop at input) ≡ in_range s'.lo s'.hi (drop at input)
    span_taken {s} {s'} e = let same : s ≡ s' = cc in ap (λ s. in_range s.lo s.hi (drop at input)) same

    no_span : {s : Span} → ◌≡◌ {A = Option Span} None (Some s) → ⊥
    no_span e = let z : ◌≡◌ {A = ℕ} 0 1 = cc in omega arith

    -- The kinds that ask for a single byte.
    pub says_one : (k : Node) {ok : Bool} {s : Span} → Kind k → span_of k ≡ Some s → ok ≡ in_range s.lo s.hi (drop at input)
        → Said (came (pass_if ok (at + 1) σ) steps depth)
    says_one (Byte b) h o q = says_byte h (q ∙ sym (span_taken o))
    says_one (Range lo hi) h o q = says_range h (q ∙ sym (span_taken o))
    says_one Any h o q = says_any h (q ∙ sym (span_taken o) ∙ any_test at input E.ready.bytes)
    says_one Empty h o q = absurd (no_span o)
    says_one (Text p c) h o q = absurd (no_span o)
    says_one (Sequence a b) h o q = absurd (no_span o)
    says_one (Choice a b) h o q = absurd (no_span o)
    says_one (Star a) h o q = absurd (no_span o)
    says_one (Not a) h o q = absurd (no_span o)
    says_one (Call a) h o q = absurd (no_span o)
    says_one (Def t) h o q = absurd (no_span o)
    says_one (Match t) h o q = absurd (no_span o)
    says_one (Is t) h o q = absurd (no_span o)
    says_one (Isa t) h o q = absurd (no_span o)
    says_one (Exists t) h o q = absurd (no_span o)
    says_one (Block t a) h o q = absurd (no_span o)
    says_one (Local t a) h o q = absurd (no_span o)
    says_one (If c w) h o q = absurd (no_span o)
    says_one (On c w a) h o q = absurd (no_span o)

    pub says_text : {place count : ℕ} {ok : Bool} → Kind (Text place count) → ok ≡ begins (take count (drop place image)) (drop at input)
        → Said (came (pass_if ok (at + count) σ) steps depth)
    says_text {place} {count} h q =
        let bytes = take count (drop place image) in
        let whole : count ≡ length bytes = sym (long_text_lem h) in
        rw q (subst (λ n. Said (came (pass_if (begins bytes (drop at input)) (at + n) σ) steps depth)) (sym whole)
        (leaf (Text place count) h (pass_if (begins bytes (drop at input)) (at + length bytes) σ)
        (tells_text g input B D R left spent deepest E.more E.ready.deep E.step (env_of state) at σ bytes)))

    -- Match and Exists look at the table's list.
    pub says_match_none : {t : ℕ} → Kind (Match t) → list t ≡ [] → Said (came fail steps depth)
    unfolding matched
    says_match_none {t} h l =
        leaf (Match t) h fail
        (tells_match g input B D R left spent deepest E.more E.ready.deep E.step (env_of state) at σ t
        ∙ ap (λ l. came (matched input at σ l) (spent + 1) (max deepest (D - (left - 1)))) l)

    pub says_match : {t : ℕ} (s : Symbol) (l : Symbols) → Kind (Match t) → list t ≡ s ∷ l
        → Said (came (pass_if (begins (text input s) (drop at input)) (at + length (text input s)) σ) steps depth)
    unfolding matched
    says_match {t} s l h q =
        leaf (Match t) h (pass_if (begins (text input s) (drop at input)) (at + length (text input s)) σ)
        (tells_match g input B D R left spent deepest E.more E.ready.deep E.step (env_of state) at σ t
        ∙ ap (λ l. came (matched input at σ l) (spent + 1) (max deepest (D - (left - 1)))) q)

    pub says_exists : {t : ℕ} {ok : Bool} → Kind (Exists t) → ok ≡ some (list t) → Said (came (pass_if ok at σ) steps depth)
    says_exists {t} h q =
        rw q
        (leaf (Exists t) h (pass_if (some (list t)) at σ)
        (tells_exists g input B D R left spent deepest E.more E.ready.deep E.step (env_of state) at σ t))

    pub says_if : {c : ℕ} {w : Bool} {ok : Bool} → Kind (If c w) → ok ≡ agree (get_or (env_of state).truths c true) w
        → Said (came (pass_if ok at σ) steps depth)
    says_if {c} {w} h q =
        rw q
        (leaf (If c w) h (pass_if (agree (get_or (env_of state).truths c true) w) at σ)
        (tells_if g input B D R left spent deepest E.more E.ready.deep E.step (env_of state) at σ c w))
