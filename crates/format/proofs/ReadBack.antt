-- What is written is read back: where the writing of something sound stands, reading gives it.
use Rattle.std.specs.Prelude.{ℕ, suc, ◌+◌, ◌≤◌, ◌<◌, ◌≡◌, refl, true, false, List, [], ◌∷◌, ◌++◌, drop, length}
use Rattle.std.proofs.Common.{ap, sym, ◌∙◌, append_assoc, append-nil, arith, length-append, length-drop, drop-drop, lt-ltb, le-leb}
use Rattle.std.proofs.Math.Seq.{take-append_seam, drop-append_seam}
use Rattle.grammar.specs.Expr.{Expr, Empty, Byte, Range, Any, Text, Sequence, Choice, Star, Not, Call, Def, Match, Is, Isa, Exists, Block, Local, If, On}
use Rattle.grammar.specs.Grammar.{Grammar, tables, size}
use Rattle.grammar.specs.Sound.{Fits, Sound}
use Rattle.format.specs.Reading.{Reading, got, ◌then◌}
use Rattle.format.specs.Number.{groups}
use Rattle.format.specs.NumberLaws.{first_back}
use Rattle.format.specs.Written.{written, numbers, encode_node, heading, encode}
use Rattle.format.specs.Image.{times, bounded, raw, node_at, head_at, body_at}
use Rattle.format.specs.ReadBack.{Todo, Back, Ended}
use Rattle.format.specs.ImageLaws.{EachFrom, nil, ◌&◌, each_of, zero_plus}

module _ (image : List ℕ) where
  back : {A : Type 0} {x : A} {at : ℕ} {Q : ℕ → Type 0} → Q at → Back image (got x at) x Q
  back {at = at} q = record { next = at; is = refl; after = q }

  drop_on : (u t : List ℕ) (at : ℕ) → drop at image ≡ u ++ t → drop (at + length u) image ≡ t
  drop_on u t at e = sym (drop-drop (length u) at image) ∙ rw e (drop-append_seam u t)

  split : {n : ℕ} {ns t : List ℕ} {at : ℕ} → Todo image (n ∷ ns) t at → drop at image ≡ groups n ++ (numbers ns ++ t)
  split {n} {ns} {t} f = f.left ∙ append_assoc (groups n) (numbers ns) t

  on : {n : ℕ} {ns t : List ℕ} {at : ℕ} → Todo image (n ∷ ns) t at → Todo image ns t (at + length (groups n))
  on {n} {ns} {t} {at} f = record { left = drop_on (groups n) (numbers ns ++ t) at (split f) }

  number_is :
      (why low stop : ℕ) → stop ≤ 2097152 → {n : ℕ} {ns t : List ℕ} {at : ℕ} → Todo image (n ∷ ns) t at → low ≤ n → n < stop
      → bounded image why low stop at ≡ got n (at + length (groups n))
  number_is why low stop small {n} {ns} {t} {at} f h h' =
      rw (split f, first_back (length image) at n (numbers ns ++ t) (omega arith)) (rw (le-leb low n h, lt-ltb n stop h'))

  raw_is : (s t : List ℕ) (at : ℕ) → 1 ≤ length s → drop at image ≡ s ++ t → raw image (length s) at ≡ got s (at + length s)
  raw_is s t at h e =
      rw (
        le-leb (at + length s) (length image) (omega (arith, h, simp (length-drop, length-append) at (ap length e))),
        e,
        take-append_seam s t,
      )

  module _ (T C N own : ℕ) (small : (T ≤ 512) × (C ≤ 512) × (N ≤ 512) × (own ≤ 512)) where
    tag : (n : ℕ) {ns t : List ℕ} {at : ℕ} → n < 19 → Todo image (n ∷ ns) t at → bounded image 6 0 19 at ≡ got n (at + length (groups n))
    tag n h f = number_is 6 0 19 (omega arith) f (omega arith) h

    -- An operand below what it must be below.
    operand :
        (stop : ℕ) → stop ≤ 512 → {n : ℕ} {ns t : List ℕ} {at : ℕ} → Todo image (n ∷ ns) t at → n < stop
        → bounded image 7 0 stop at ≡ got n (at + length (groups n))
    operand stop low f h = number_is 7 0 stop (omega arith) f (omega arith) h

    child : {n : ℕ} {ns t : List ℕ} {at : ℕ} → Todo image (n ∷ ns) t at → n < own → bounded image 7 0 own at ≡ got n (at + length (groups n))
    child f h = operand own small.3 f h

    table : {n : ℕ} {ns t : List ℕ} {at : ℕ} → Todo image (n ∷ ns) t at → n < T → bounded image 7 0 T at ≡ got n (at + length (groups n))
    table f h = operand T small.0 f h

    condition : {n : ℕ} {ns t : List ℕ} {at : ℕ} → Todo image (n ∷ ns) t at → n < C → bounded image 7 0 C at ≡ got n (at + length (groups n))
    condition f h = operand C small.1 f h

    truth : {n : ℕ} {ns t : List ℕ} {at : ℕ} → Todo image (n ∷ ns) t at → n < 2 → bounded image 7 0 2 at ≡ got n (at + length (groups n))
    truth f h = operand 2 (omega arith) f h

    text_back :
        (s t : List ℕ) {at : ℕ} → Fits T C N own (Text s) → Todo image (4 ∷ length s ∷ []) (s ++ t) at
        → Back image (node_at image T C N own at) (Text s) (Todo image [] t)
    text_back s t {at} h f =
        let here = (on (on f)).left in
        rw (
          tag 4 (omega arith) f,
          number_is 7 1 65 (omega arith) (on f) h.0 (omega (arith, h.1)),
          raw_is s t (at + 1 + length (groups (length s))) h.0 here,
        )
        (back (record { left = drop_on s t (at + 1 + length (groups (length s))) here }))

    -- A node that is written at a place is read there.
    node_back :
        (t : List ℕ) (e : Expr) → Fits T C N own e → (at : ℕ) → drop at image ≡ encode_node e ++ t
        → Back image (node_at image T C N own at) e (Todo image [] t)
    node_back t Empty h at e = let f : Todo image (0 ∷ []) t at = record { left = e } in rw (tag 0 (omega arith) f) (back (on f))
    node_back t (Byte b) h at e =
        let f : Todo image (1 ∷ b ∷ []) t at = record { left = e } in
        rw (tag 1 (omega arith) f, operand 256 (omega arith) (on f) (omega (arith, h))) (back (on (on f)))
    node_back t (Range lo hi) h at e =
        let f : Todo image (2 ∷ lo ∷ hi ∷ []) t at = record { left = e } in
        rw (
          tag 2 (omega arith) f,
          operand 256 (omega arith) (on f) (omega (arith, h.0, h.1)),
          number_is 7 lo 256 (omega arith) (on (on f)) h.0 (omega (arith, h.1)),
        ) (back (on (on (on f))))
    node_back t Any h at e = let f : Todo image (3 ∷ []) t at = record { left = e } in rw (tag 3 (omega arith) f) (back (on f))
    node_back t (Text s) h at e = text_back s t {at = at} h (record { left = e ∙ append_assoc (numbers (4 ∷ length s ∷ [])) s t })
    node_back t (Sequence a b) h at e =
        let f : Todo image (5 ∷ a ∷ b ∷ []) t at = record { left = e } in
        rw (tag 5 (omega arith) f, child (on f) h.0, child (on (on f)) h.1) (back (on (on (on f))))
    node_back t (Choice a b) h at e =
        let f : Todo image (6 ∷ a ∷ b ∷ []) t at = record { left = e } in
        rw (tag 6 (omega arith) f, child (on f) h.0, child (on (on f)) h.1) (back (on (on (on f))))
    node_back t (Star a) h at e =
        let f : Todo image (7 ∷ a ∷ []) t at = record { left = e } in rw (tag 7 (omega arith) f, child (on f) h) (back (on (on f)))
    node_back t (Not a) h at e =
        let f : Todo image (8 ∷ a ∷ []) t at = record { left = e } in rw (tag 8 (omega arith) f, child (on f) h) (back (on (on f)))
    node_back t (Call a) h at e =
        let f : Todo image (9 ∷ a ∷ []) t at = record { left = e } in
        rw (tag 9 (omega arith) f, operand N small.2 (on f) h) (back (on (on f)))
    node_back t (Def k) h at e =
        let f : Todo image (10 ∷ k ∷ []) t at = record { left = e } in rw (tag 10 (omega arith) f, table (on f) h) (back (on (on f)))
    node_back t (Match k) h at e =
        let f : Todo image (11 ∷ k ∷ []) t at = record { left = e } in rw (tag 11 (omega arith) f, table (on f) h) (back (on (on f)))
    node_back t (Is k) h at e =
        let f : Todo image (12 ∷ k ∷ []) t at = record { left = e } in rw (tag 12 (omega arith) f, table (on f) h) (back (on (on f)))
    node_back t (Isa k) h at e =
        let f : Todo image (13 ∷ k ∷ []) t at = record { left = e } in rw (tag 13 (omega arith) f, table (on f) h) (back (on (on f)))
    node_back t (Exists k) h at e =
        let f : Todo image (14 ∷ k ∷ []) t at = record { left = e } in rw (tag 14 (omega arith) f, table (on f) h) (back (on (on f)))
    node_back t (Block k a) h at e =
        let f : Todo image (15 ∷ k ∷ a ∷ []) t at = record { left = e } in
        rw (tag 15 (omega arith) f, table (on f) h.0, child (on (on f)) h.1) (back (on (on (on f))))
    node_back t (Local k a) h at e =
        let f : Todo image (16 ∷ k ∷ a ∷ []) t at = record { left = e } in
        rw (tag 16 (omega arith) f, table (on f) h.0, child (on (on f)) h.1) (back (on (on (on f))))
    node_back t (If c true) h at e =
        let f : Todo image (17 ∷ c ∷ 1 ∷ []) t at = record { left = e } in
        rw (tag 17 (omega arith) f, condition (on f) h, truth (on (on f)) (omega arith)) (back (on (on (on f))))
    node_back t (If c false) h at e =
        let f : Todo image (17 ∷ c ∷ 0 ∷ []) t at = record { left = e } in
        rw (tag 17 (omega arith) f, condition (on f) h, truth (on (on f)) (omega arith)) (back (on (on (on f))))
    node_back t (On c true a) h at e =
        let f : Todo image (18 ∷ c ∷ 1 ∷ a ∷ []) t at = record { left = e } in
        rw (tag 18 (omega arith) f, condition (on f) h.0, truth (on (on f)) (omega arith), child (on (on (on f))) h.1)
        (back (on (on (on (on f)))))
    node_back t (On c false a) h at e =
        let f : Todo image (18 ∷ c ∷ 0 ∷ a ∷ []) t at = record { left = e } in
        rw (tag 18 (omega arith) f, condition (on f) h.0, truth (on (on f)) (omega arith), child (on (on (on f))) h.1)
        (back (on (on (on (on f)))))

  times_back : {A : Type 0} (S : ℕ → A → Type 0) (w : A → List ℕ) (p : ℕ → ℕ → Reading A) (m : ℕ)
      → ((i at : ℕ) (x : A) (t : List ℕ) → i < m → S i x → drop at image ≡ w x ++ t → Back image (p i at) x (Todo image [] t))
      → (i : ℕ) (xs : List A) (t : List ℕ) {at : ℕ} → i + length xs ≤ m → EachFrom S i xs → Todo image [] (written w xs ++ t) at
      → Back image (times p i (length xs) at) xs (Todo image [] t)
  times_back S w p m each i [] t h nil f = back f
  times_back S w p m each i (x ∷ xs) t {at} h (s & ss) f =
      let b = each i at x (written w xs ++ t) (omega arith) s (f.left ∙ append_assoc (w x) (written w xs) t) in
      let c = times_back S w p m each (suc i) xs t (omega arith) ss b.after in
      rw (b.is, c.is) (back c.after)

  pattern_back :
      (N : ℕ) → N ≤ 512 → (at n : ℕ) (t : List ℕ) → n < N → drop at image ≡ groups n ++ t → Back image (bounded image 7 0 N at) n (Todo image [] t)
  pattern_back N small at n t h e = go (record { left = rw (append-nil (groups n)) e })
    where
      go : Todo image (n ∷ []) t at → Back image (bounded image 7 0 N at) n (Todo image [] t)
      go f = rw (number_is 7 0 N (omega arith) f (omega arith) h) (back (on f))

  -- An image that is the writing of a sound grammar is read as that grammar, and nothing is left over.
  module _ (g : Grammar) (s : Sound g) where
    patterns_each : EachFrom (λ i a. a < size g) 0 g.patterns
    patterns_each = each_of (λ i a. a < size g) 0 g.patterns 0 s.patterns_named

    nodes_each : EachFrom (Fits (tables g) g.conditions (size g)) 0 g.nodes
    nodes_each = each_of (Fits (tables g) g.conditions (size g)) Empty g.nodes 0 (λ n l. rw (zero_plus n) (s.operands_fit n l))

    from_start :
        Todo image (heading g) (numbers g.patterns ++ (written encode_node g.nodes ++ [])) 0
        → Back image (head_at image then body_at image) g (Ended image g s)
    from_start f =
        let p = times_back (λ i a. a < size g) groups (λ i. bounded image 7 0 (size g)) (tables g)
        (λ i at x t lt fit e. pattern_back (size g) s.few_nodes at x t fit e)
        0 g.patterns (written encode_node g.nodes ++ []) (omega arith) patterns_each (on (on (on (on (on f))))) in
        let q = times_back (Fits (tables g) g.conditions (size g)) encode_node (node_at image (tables g) g.conditions (size g))
        (size g)
        (λ i at x t lt fit e. node_back (tables g) g.conditions (size g) i (omega (arith, s)) t x fit at e)
        0 g.nodes [] (omega arith) nodes_each p.after in
        rw (
          number_is 4 1 2 (omega arith) f (omega arith) (omega arith),
          number_is 5 0 9 (omega arith) (on f) (omega arith) (omega (arith, s.few_tables)),
          number_is 5 0 9 (omega arith) (on (on f)) (omega arith) (omega (arith, s.few_conditions)),
          number_is 5 1 513 (omega arith) (on (on (on f))) s.some_node (omega (arith, s.few_nodes)),
          number_is 7 0 (size g) (omega (arith, s.few_nodes)) (on (on (on (on f)))) (omega arith) s.start_named,
          p.is,
          q.is,
        )
        (back q.after.left)

    pub body_back : encode g ≡ image → Back image (head_at image then body_at image) g (Ended image g s)
    body_back e = from_start (record { left = sym e ∙ parts })
      where
        parts : encode g ≡ numbers (heading g) ++ (numbers g.patterns ++ (written encode_node g.nodes ++ []))
        parts =
            append_assoc (numbers (heading g)) (numbers g.patterns) (written encode_node g.nodes)
            ∙ rw (append-nil (written encode_node g.nodes))
