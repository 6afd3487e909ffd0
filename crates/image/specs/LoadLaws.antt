-- What the walk puts down for a good image: at each node's number the node of the grammar, at each table's place its pattern.
use Rattle.std.specs.Prelude.{ℕ, zero, suc, ◌+◌, ◌-◌, ◌≤◌, ◌<◌, ◌≡◌, refl, Bool, true, false, List, [], ◌∷◌, ◌++◌, map, ltb, length, get_or, take, drop}
use Rattle.std.proofs.Common.{ap, sym, ◌∙◌, append_assoc, arith, take-append-drop, length-append, length-take-le, ltb-false, le-ltb}
use Rattle.std.proofs.Math.ListN.{get_or-map}
use Rattle.std.proofs.Math.Seq.{take-append_seam, drop-append_seam}
use Rattle.grammar.specs.Expr.{Expr, Empty}
use Rattle.grammar.specs.Grammar.{Grammar, tables, size, node, pattern}
use Rattle.grammar.specs.Sound.{Bytes, Fits}
use Rattle.format.specs.Reading.{Reading, got, fault, pick, ◌then◌}
use Rattle.format.specs.ReadingLaws.{All, holds, stops, ◌▹◌, of_got}
use Rattle.format.specs.NumberLaws.{Refusal}
use Rattle.format.specs.Number.{groups}
use Rattle.format.specs.Written.{numbers, encode_node}
use Rattle.format.specs.Image.{times, Head, bounded, node_at, head_at, patterns_at, nodes_at, body_at, good, refused, ended, read_image}
use Rattle.format.specs.OnlyWritten.{Front, One, Many, HeadRead, pattern_all, times_all, head_all}
use Rattle.format.proofs.OnlyWritten.{node_all}
use Rattle.image.specs.Word.{kept, keep, word_at}
use Rattle.image.specs.Node.{node_of, expr_of, InImage}
use Rattle.image.specs.NodeLaws.{EndAt, Placed, kept_back, kept_inside}
use Rattle.image.specs.Filled.{unless, filled, with_patterns, with_nodes}
use Rattle.image.specs.FilledLaws.{filling_at, filling_other, filling_length}

-- The first of two readings that gave something.
pub record Through {A B : Type 0} (r : Reading A) (k : A → ℕ → Reading B) (y : B) (end : ℕ) : Type 0 where
  pub value : A
  pub next : ℕ
  pub first : r ≡ got value next
  pub rest : k value next ≡ got y end

pub through : {A B : Type 0} (r : Reading A) (k : A → ℕ → Reading B) {y : B} {end : ℕ} → (r then k) ≡ got y end → Through r k y end
through (got x at) k e = record { value = x; next = at; first = refl; rest = e }
through (fault n place) k e = let z : ◌≡◌ {A = ℕ} 0 1 = cc in absurd (omega arith)

-- Where the second of two readings always gives something, a fault is the first one's.
pub through_fault :
    {A B : Type 0} (r : Reading A) (f : A → ℕ → B) {n place : ℕ} → (r then λ x next. got (f x next) next) ≡ fault n place
    → r ≡ fault n place
through_fault (got x at) f e = let z : ◌≡◌ {A = ℕ} 0 1 = cc in absurd (omega arith)
through_fault (fault n place) f e = cc

-- The reading behind a good image.
record Body (image : List ℕ) (g : Grammar) : Type 0 where
  pub short : length image ≤ 16384
  pub end : ℕ
  pub is : (head_at image then body_at image) ≡ got g end

body_of : (image : List ℕ) (g : Grammar) → read_image image ≡ good g → Body image g
body_of image g e = whole (ltb 16384 (length image)) refl e
  where
    last : (x : Grammar) (at : ℕ) (t : Bool) → pick t (refused 8 at) (good x) ≡ good g → x ≡ g
    last x at true e = let z : ◌≡◌ {A = ℕ} 0 1 = cc in absurd (omega arith)
    last x at false e = cc

    read : length image ≤ 16384 → (r : Reading Grammar) → (head_at image then body_at image) ≡ r → ended image r ≡ good g → Body image g
    read short (got x at) q e = record { short = short; end = at; is = q ∙ ap (λ x. got x at) (last x at (ltb at (length image)) e) }
    read short (fault n place) q e = let z : ◌≡◌ {A = ℕ} 0 1 = cc in absurd (omega arith)

    whole :
        (t : Bool) → ltb 16384 (length image) ≡ t → pick t (refused 1 0) (ended image (head_at image then body_at image)) ≡ good g
        → Body image g
    whole true q e = let z : ◌≡◌ {A = ℕ} 0 1 = cc in absurd (omega arith)
    whole false q e = read (ltb-false 16384 (length image) q) (head_at image then body_at image) refl e

-- What is left to read after the patterns, and after the nodes.
abbrev pub made : Head → List ℕ → List Expr → ℕ → Reading Grammar
made h patterns nodes at = got (record { conditions = h.conditions; start = h.start; patterns = patterns; nodes = nodes }) at

abbrev pub after_patterns : (image : List ℕ) → Head → List ℕ → ℕ → Reading Grammar
after_patterns image h patterns at = nodes_at image h at then made h patterns

-- The parts of a good image, in the order in which they are read.
record Parts (image : List ℕ) (g : Grammar) : Type 0 where
  pub short : length image ≤ 16384
  pub head : Head
  pub at : ℕ
  pub head_is : head_at image ≡ got head at
  pub patterns : List ℕ
  pub next : ℕ
  pub patterns_are : patterns_at image head at ≡ got patterns next
  pub nodes : List Expr
  pub end : ℕ
  pub nodes_are : nodes_at image head next ≡ got nodes end
  pub whole : record { conditions = head.conditions; start = head.start; patterns = patterns; nodes = nodes } ≡ g

parts_of_lem : (image : List ℕ) (g : Grammar) → read_image image ≡ good g → Parts image g
parts_of_lem image g e =
    let b = body_of image g e in
    let h = through (head_at image) (body_at image) b.is in
    let p = through (patterns_at image h.value h.next) (after_patterns image h.value) h.rest in
    let n = through (nodes_at image h.value p.next) (made h.value p.value) p.rest in
    record {
      short = b.short;
      head = h.value;
      at = h.next;
      head_is = h.first;
      patterns = p.value;
      next = p.next;
      patterns_are = p.first;
      nodes = n.value;
      end = n.next;
      nodes_are = n.first;
      whole = cc n.rest;
    }

whatever : {A : Type 0} (r : Reading A) → All (λ x next. Unit {0}) (λ n place. Unit {0}) r
whatever (got x next) = holds tt
whatever (fault n place) = stops tt

-- So many readings give so many values.
pub times_count :
    {A : Type 0} (p : ℕ → ℕ → Reading A) (i k at : ℕ) → All (λ xs next. length xs ≡ k) (λ n place. Unit {0}) (times p i k at)
times_count p i zero at = holds refl
times_count p i (suc k) at = whatever (p i at) ▹ λ x at _. times_count p (suc i) k at ▹ λ xs at e. holds (ap suc e)

-- The node that a word stands for.
abbrev visited : (image : List ℕ) → ℕ → Expr
visited image w = expr_of image (node_of w)

zero_empty : (image : List ℕ) → visited image 0 ≡ Empty
unfolding node_of
zero_empty image = refl

module _ (image : List ℕ) (bytes : Bytes image) (short : length image ≤ 16384) where
  text_placed : (v s : List ℕ) (next : ℕ) → take next image ≡ v ++ s → next ≤ length image → EndAt image s next
  text_placed v s next e h =
      let sum : length v + length s ≡ next = sym (simp length-append at (ap length e)) ∙ length-take-le next image h in
      let whole : image ≡ (v ++ s) ++ drop next image = sym (take-append-drop next image) ∙ ap (λ l. l ++ drop next image) e in
      let before : next - length s ≡ length v = omega arith in
      record {
        long = omega arith;
        inside = h;
        small = omega arith;
        is = rw before (ap (λ l. take (length s) (drop (length v) l)) whole
            ∙ rw (append_assoc v s (drop next image), drop-append_seam v (s ++ drop next image), take-append_seam s (drop next image)));
      }

  -- The bytes of a Text stand right before the place where its node ends.
  placed : (x : Expr) (u : List ℕ) {next : ℕ} → Front image (u ++ encode_node x) next → Placed image x next
  placed x u {next} f s e = text_placed (u ++ numbers (4 ∷ length s ∷ [])) s next
      (f.front ∙ ap (λ x. u ++ encode_node x) e ∙ sym (append_assoc u (numbers (4 ∷ length s ∷ [])) s)) f.within

  module _ (T C N : ℕ) (few : (T ≤ 512) × (C ≤ 512) × (N ≤ 512)) where
    abbrev Read : (i k at : ℕ) → Type 0
    Read i k at =
        (times (word_at image T C N) i k at then λ ws next. got (map (visited image) ws) next) ≡ times (node_at image T C N) i k at

    -- The words of the nodes stand for the nodes.
    words_read : (i k at : ℕ) (u : List ℕ) → i + k ≤ N → Front image u at → Read i k at
    words_read i zero at u h f = refl
    words_read i (suc k) at u h f =
        one (node_at image T C N i at) (node_all image bytes T C N i f) λ x next o. words_read (suc i) k next (u ++ encode_node x)
        (omega arith) o.on
      where
        same : (x : Expr) (next : ℕ) → One image (Fits T C N i) encode_node u x next → visited image (kept x next) ≡ x
        same x next o = kept_back image T C N i (omega arith) x o.fits next (placed x u o.on)

        more : (x : Expr) (next : ℕ) → visited image (kept x next) ≡ x → (t : Reading (List ℕ))
            → ((t then λ xs at. got (kept x next ∷ xs) at) then λ ws next. got (map (visited image) ws) next)
            ≡ ((t then λ ws next. got (map (visited image) ws) next) then λ xs at. got (x ∷ xs) at)
        more x next e (got ws end) = ap (λ x. got (x ∷ map (visited image) ws) end) e
        more x next e (fault n place) = refl

        one :
            (r : Reading Expr) → All (One image (Fits T C N i) encode_node u) (Refusal (length image)) r
            → ((x : Expr) (next : ℕ) → One image (Fits T C N i) encode_node u x next → Read (suc i) k next)
            → (((r then keep) then λ x at. times (word_at image T C N) (suc i) k at then λ xs at. got (x ∷ xs) at) then λ ws next. got
            (map (visited image) ws) next)
            ≡ (r then λ x at. times (node_at image T C N) (suc i) k at then λ xs at. got (x ∷ xs) at)
        one (got x next) (holds o) later =
            more x next (same x next o) (times (word_at image T C N) (suc i) k next)
            ∙ ap (λ r. r then λ xs at. got (x ∷ xs) at) (later x next o)
        one (fault n place) h later = refl

    -- Every Text among the words of the nodes has its bytes in the image.
    record Step (w next : ℕ) : Type 0 where
      pub inside : InImage image (node_of w)
      pub before : List ℕ
      pub on : Front image before next

    word_inside : (i at : ℕ) (u : List ℕ) → i ≤ 512 → Front image u at → All Step (Refusal (length image)) (word_at image T C N i at)
    word_inside i at u h f = node_all image bytes T C N i f ▹ λ x next o. holds (record {
      inside = kept_inside image T C N i (omega arith) x o.fits next (placed x u o.on);
      before = u ++ encode_node x;
      on = o.on;
    })

    abbrev Inside : List ℕ → ℕ → Type 0
    Inside ws next = (n : ℕ) → n < length ws → InImage image (node_of (get_or ws n 0))

    words_inside :
        (i k at : ℕ) (u : List ℕ) → i + k ≤ N → Front image u at
        → All Inside (Refusal (length image)) (times (word_at image T C N) i k at)
    words_inside i zero at u h f = holds {x = []} {next = at} (λ n l. absurd (omega arith))
    words_inside i (suc k) at u h f =
        word_inside i at u (omega arith) f ▹ λ w next s. words_inside (suc i) k next s.before (omega arith) s.on ▹ λ ws end rest.
        holds (each w ws s.inside rest)
      where
        each :
            (w : ℕ) (ws : List ℕ) → InImage image (node_of w) → ((n : ℕ) → n < length ws → InImage image (node_of (get_or ws n 0)))
            → Inside (w ∷ ws) 0
        each w ws first rest zero l = first
        each w ws first rest (suc n) l = rest n (omega arith)

-- ## A good image

module _ (image : List ℕ) (bytes : Bytes image) (before : List ℕ) (room : length before ≡ 524) where
  module _ (short : length image ≤ 16384) {h : Head} {at : ℕ} (eh : head_at image ≡ got h at)
      {ps : List ℕ} {next : ℕ} (ep : patterns_at image h at ≡ got ps next)
      {xs : List Expr} {end : ℕ} (ex : nodes_at image h next ≡ got xs end) where
    array_is : filled image before ≡ with_nodes image h next (with_patterns image h at before)
    array_is = rw (le-ltb 16384 (length image) short, eh, ep)

    head_read : HeadRead image bytes h at
    head_read = of_got (rw eh at (head_all image bytes))

    patterns_read : Many image (λ i a. a < h.nodes) groups 0 h.tables (take at image) ps next
    patterns_read =
        of_got (rw ep at (times_all image (λ i a. a < h.nodes) groups (λ i. bounded image 7 0 h.nodes)
        (pattern_all image bytes h.nodes) 0 h.tables (take at image) at
        (record { front = refl; within = head_read.on.within })))

    abbrev words : ℕ → ℕ → Reading ℕ
    words = word_at image h.tables h.conditions h.nodes

    here : Front image (take next image) next
    here = record { front = refl; within = patterns_read.on.within }

    few : (h.tables ≤ 512) × (h.conditions ≤ 512) × (h.nodes ≤ 512)
    few = omega (arith, head_read)

    -- The words that were read.
    read : Through (times words 0 h.nodes next) (λ ws next. got (map (visited image) ws) next) xs end
    read = through (times words 0 h.nodes next) (λ ws next. got (map (visited image) ws) next)
        (words_read image bytes short h.tables h.conditions h.nodes few 0 h.nodes next (take next image) (omega arith) here
        ∙ ex)

    count : length xs ≡ h.nodes
    count = of_got (rw ex at (times_count (node_at image h.tables h.conditions h.nodes) 0 h.nodes next))

    -- Each stands at its node's number.
    word_at_lem : (n : ℕ) → n < length xs → get_or (filled image before) n 0 ≡ get_or read.value n 0
    word_at_lem n l =
        let own : 0 + (0 + n) ≡ n = omega arith in
        let long : length (with_patterns image h at before)
        ≡ 524 = filling_length (λ t. bounded image 7 0 h.nodes) 512 0 h.tables at before ∙ room in
        ap (λ l. get_or l n 0) array_is
        ∙ rw own at (filling_at words 0 0 h.nodes next n (with_patterns image h at before) read.value read.next read.first
        (omega (arith, count)) (omega (arith, few.2)))

    pub nodes_at_lem : (n : ℕ) → n < length xs → visited image (get_or (filled image before) n 0) ≡ get_or xs n Empty
    nodes_at_lem n l =
        let same : map (visited image) read.value ≡ xs = cc read.rest in
        ap (visited image) (word_at_lem n l)
        ∙ sym (get_or-map (visited image) read.value n 0)
        ∙ ap (λ d. get_or (map (visited image) read.value) n d) (zero_empty image)
        ∙ ap (λ l. get_or l n Empty) same

    pub texts_at : (n : ℕ) → n < length xs → InImage image (node_of (get_or (filled image before) n 0))
    texts_at n l =
        let all = of_got (rw read.first at
        (words_inside image bytes short h.tables h.conditions h.nodes few 0 h.nodes next (take next image)
        (omega arith) here)) in
        let many : length read.value ≡ h.nodes = of_got (rw read.first at (times_count words 0 h.nodes next)) in
        rw (word_at_lem n l) (all n (omega (arith, count)))

    pub patterns_at_lem : (t : ℕ) → t < length ps → get_or (filled image before) (512 + t) 0 ≡ get_or ps t 0
    patterns_at_lem t l =
        let r = head_read in
        let count : length ps ≡ h.tables = patterns_read.count in
        let own : 0 + t ≡ t = omega arith in
        ap (λ l. get_or l (512 + t) 0) array_is
        ∙ filling_other (word_at image h.tables h.conditions h.nodes) 0 0 h.nodes next (512 + t)
        (with_patterns image h at before) (λ m l e. omega arith)
        ∙ rw own at (filling_at (λ t. bounded image 7 0 h.nodes) 512 0 h.tables at t before ps next ep (omega arith) (omega arith))

  module _ (g : Grammar) (e : read_image image ≡ good g) where
    pub nodes_kept : (n : ℕ) → n < size g → expr_of image (node_of (get_or (filled image before) n 0)) ≡ node g n
    nodes_kept n l =
        let p = parts_of_lem image g e in
        let same : p.nodes ≡ g.nodes = ap (λ g. g.nodes) p.whole in
        nodes_at_lem p.short p.head_is p.patterns_are p.nodes_are n (rw same l) ∙ ap (λ l. get_or l n Empty) same

    pub texts_kept : (n : ℕ) → n < size g → InImage image (node_of (get_or (filled image before) n 0))
    texts_kept n l =
        let p = parts_of_lem image g e in
        let same : p.nodes ≡ g.nodes = ap (λ g. g.nodes) p.whole in
        texts_at p.short p.head_is p.patterns_are p.nodes_are n (rw same l)

    pub patterns_kept : (t : ℕ) → t < tables g → get_or (filled image before) (512 + t) 0 ≡ pattern g t
    patterns_kept t l =
        let p = parts_of_lem image g e in
        let same : p.patterns ≡ g.patterns = ap (λ g. g.patterns) p.whole in
        patterns_at_lem p.short p.head_is p.patterns_are p.nodes_are t (rw same l) ∙ ap (λ l. get_or l t 0) same

-- The walk keeps the array's length, after a refusal too.
pub filled_length : (image before : List ℕ) → length (filled image before) ≡ length before
filled_length image before = whole (ltb 16384 (length image))
  where
    patterned : (h : Head) (at : ℕ) → length (with_patterns image h at before) ≡ length before
    patterned h at = filling_length (λ t. bounded image 7 0 h.nodes) 512 0 h.tables at before

    nodes : (h : Head) (at : ℕ) (r : Reading (List ℕ))
        → length (unless r (with_patterns image h at before) (λ patterns next. with_nodes image h next (with_patterns image h at before))) ≡ length before
    nodes h at (got patterns next) =
        filling_length (word_at image h.tables h.conditions h.nodes) 0 0 h.nodes next (with_patterns image h at before) ∙ patterned h at
    nodes h at (fault n p) = patterned h at

    head : (r : Reading Head)
        → length (unless r before (λ h at. unless (patterns_at image h at) (with_patterns image h at before)
        (λ patterns next. with_nodes image h next (with_patterns image h at before)))) ≡ length before
    head (got h at) = nodes h at (patterns_at image h at)
    head (fault n p) = refl

    whole : (b : Bool)
        → length (pick b before (unless (head_at image) before (λ h at. unless (patterns_at image h at) (with_patterns image h at before)
        (λ patterns next. with_nodes image h next (with_patterns image h at before))))) ≡ length before
    whole true = refl
    whole false = head (head_at image)
