-- What was read is what would be written: every part of an image that is read as good is the writing of something sound; and every
-- refusal is one of 2 to 7, placed as `Refusal` says. Here up to the kinds of a node; for a node and for the whole, proofs/OnlyWritten.antt.
use Rattle.std.specs.Prelude.{ℕ, zero, suc, ◌+◌, ◌≤◌, ◌<◌, ◌≡◌, refl, List, [], ◌∷◌, ◌++◌, leb, eqb, drop, take, length}
use Rattle.std.proofs.Common.{ap, ◌∙◌, append_assoc, append-nil, arith, length-append, length-drop, take-add, length-take-le, get_or-drop, leb-true}
use Rattle.std.proofs.Math.Seq.{take-append_seam}
use Rattle.grammar.specs.Expr.{Expr, Empty, Byte, Range, Any, Text, Sequence, Choice, Star, Not, Call, Def, Match, Is, Isa, Exists, Block, Local, If, On}
use Rattle.grammar.specs.Grammar.{Grammar}
use Rattle.grammar.specs.Sound.{Bytes, Fits, Sound}
use Rattle.format.specs.Reading.{Reading, got}
use Rattle.format.specs.ReadingLaws.{All, holds, stops, ◌▹◌, ◌▹'◌, pick_all}
use Rattle.format.specs.Number.{groups}
use Rattle.format.specs.NumberLaws.{Refusal, groups_some, first_all}
use Rattle.format.specs.Written.{written, numbers, encode_node, encode}
use Rattle.format.specs.Image.{inside, times, Head, bounded, raw, kinds, head_at}
use Rattle.format.specs.ImageLaws.{EachFrom, nil, ◌&◌, numbers_snoc, inside_low, inside_high, bytes_take, bit_back}

module _ (image : List ℕ) where
  -- The bytes before the place `at` are v.
  pub record Front (v : List ℕ) (at : ℕ) : Type 0 where
    pub front : take at image ≡ v
    pub within : at ≤ length image

  pub front_on : {v : List ℕ} {at : ℕ} (u t : List ℕ) → Front v at → drop at image ≡ u ++ t → Front (v ++ u) (at + length u)
  front_on {v} {at} u t f e = record {
    front = take-add at (length u) image ∙ rw (e, take-append_seam u t) (ap (λ l. l ++ u) f.front);
    within = omega (arith, f.within, simp (length-drop, length-append) at (ap length e));
  }

  -- The bytes before a place are u and then these numbers.
  pub record Upto (u ns : List ℕ) (at : ℕ) : Type 0 where
    pub here : Front (u ++ numbers ns) at

  pub record Number (low stop : ℕ) (u ns : List ℕ) (n next : ℕ) : Type 0 where
    pub least : low ≤ n
    pub under : n < stop
    pub on : Upto u (ns ++ (n ∷ [])) next

  record Raw (k : ℕ) (v s : List ℕ) (next : ℕ) : Type 0 where
    pub long : length s ≡ k
    pub small : Bytes s
    pub on : Front (v ++ s) next

  pub record One {A : Type 0} (S : A → Type 0) (w : A → List ℕ) (u : List ℕ) (x : A) (next : ℕ) : Type 0 where
    pub fits : S x
    pub on : Front (u ++ w x) next

  pub record Many {A : Type 0} (S : ℕ → A → Type 0) (w : A → List ℕ) (i k : ℕ) (u : List ℕ) (xs : List A) (next : ℕ) : Type 0 where
    pub fits : EachFrom S i xs
    pub count : length xs ≡ k
    pub on : Front (u ++ written w xs) next

  -- The refusals that a reading of this image can give.
  abbrev pub Stop : ℕ → ℕ → Type 0
  Stop = Refusal (length image)

  pub times_all :
      {A : Type 0} (S : ℕ → A → Type 0) (w : A → List ℕ) (p : ℕ → ℕ → Reading A)
      → ((i at : ℕ) (u : List ℕ) → Front u at → All (One (S i) w u) Stop (p i at))
      → (i k : ℕ) (u : List ℕ) (at : ℕ) → Front u at → All (Many S w i k u) Stop (times p i k at)
  times_all S w p each i zero u at f = holds {next = at} (record { fits = nil; count = refl; on = rw (append-nil u) f })
  times_all S w p each i (suc k) u at f =
      each i at u f ▹ λ x at r. times_all S w p each (suc i) k (u ++ w x) at r.on ▹ λ xs at m.
      holds (record { fits = r.fits & m.fits; count = ap suc m.count; on = rw (append_assoc u (w x) (written w xs)) at m.on })

  module _ (bytes : Bytes image) where
    -- The refusal of a number outside its range: 3 is never one, and 4 is placed at 0.
    abbrev Reason : ℕ → ℕ → Type 0
    Reason why at = (4 ≤ why) × (why ≤ 7) × (why ≡ 4 → at ≡ 0)

    pub number_all :
        (why low stop : ℕ) {u ns : List ℕ} {at : ℕ} → Reason why at → Upto u ns at
        → All (Number low stop u ns) Stop (bounded image why low stop at)
    number_all why low stop {u} {ns} {at} reason f =
        first_all (length image) at (drop at image) (rw (length-drop at image) (omega (arith, f.here.within)))
        (λ i. rw (get_or-drop at image i 0) (bytes (at + i)))
        ▹ λ n next w. pick_all (inside low stop n) (λ e. holds (record {
          least = inside_low low stop n e;
          under = inside_high low stop n e;
          on =
              record {
                here = rw (numbers_snoc ns n, ← (append_assoc u (numbers ns) (groups n)), w.place)
                    (front_on (groups n) w.rest f.here w.split);
              };
        }))
        (λ _. stops (outside n w.rest w.split))
      where
        outside : (n : ℕ) (t : List ℕ) → drop at image ≡ groups n ++ t → Stop why at
        outside n t e =
            let some : at < length image = omega (arith, groups_some n, simp (length-drop, length-append) at (ap length e)) in
            record {
              least = omega (arith, reason.0);
              most = reason.1;
              cut = λ z. omega (arith, reason.0);
              edition = reason.2;
              inside = λ z. some;
            }

    operand : (low stop : ℕ) {u ns : List ℕ} {at : ℕ} → Upto u ns at → All (Number low stop u ns) Stop (bounded image 7 low stop at)
    operand low stop f = number_all 7 low stop (omega arith) f

    pub start : {u : List ℕ} {at : ℕ} → Front u at → Upto u [] at
    start {u} f = record { here = rw (append-nil u) f }

    raw_all : (k : ℕ) {v : List ℕ} {at : ℕ} → Front v at → All (Raw k v) Stop (raw image k at)
    raw_all k {v} {at} f = pick_all (leb (at + k) (length image))
        (λ e. holds (record {
          long = length-take-le k (drop at image) (rw (length-drop at image) (omega (arith, leb-true (at + k) (length image) e)));
          small = bytes_take k (drop at image) (λ i. rw (get_or-drop at image i 0) (bytes (at + i)));
          on =
              record {
                front = take-add at k image
                    ∙ ap (λ l. l ++ take k (drop at image)) f.front;
                within = leb-true (at + k) (length image) e;
              };
        }))
        (λ _. stops {n = 2} {place = length image} (omega arith))

    up_to : {n : ℕ} (high : ℕ) → n < suc high → n ≤ high
    up_to high h = omega arith

    module _ (T C N own : ℕ) where
      -- The operands of a kind, its tag having been read.
      abbrev pub Kind : ℕ → (ℕ → Reading Expr) → Type 0
      Kind tag p = (u : List ℕ) (at : ℕ) → Upto u (tag ∷ []) at → All (One (Fits T C N own) encode_node u) Stop (p at)

      done :
          {S : Expr → Type 0} {u : List ℕ} (e : Expr) {at : ℕ} → S e → Front (u ++ encode_node e) at
          → All (One S encode_node u) Stop (got e at)
      done e s f = holds (record { fits = s; on = f })

      text :
          {u : List ℕ} (k : ℕ) (x : List ℕ) (at : ℕ) {before : ℕ} → Number 1 65 u (4 ∷ []) k before
          → Raw k (u ++ numbers (4 ∷ k ∷ [])) x at → All (One (Fits T C N own) encode_node u) Stop (got (Text x) at)
      text {u} k x at r s = done (Text x) (rw s.long r.least, rw s.long (up_to 64 r.under), s.small)
          (rw (s.long, ← (append_assoc u (numbers (4 ∷ k ∷ [])) x)) s.on)

      pub kinds_all : EachFrom Kind 0 (kinds image T C N own)
      kinds_all =
          (λ u at f. done Empty tt f.here)
          & (λ u at f. operand 0 256 f ▹ λ b at r. done (Byte b) (up_to 255 r.under) r.on.here)
          & (λ u at f. operand 0 256 f ▹ λ lo at r. operand lo 256 r.on ▹ λ hi at s.
          done (Range lo hi) (s.least, up_to 255 s.under) s.on.here)
          & (λ u at f. done Any tt f.here)
          & (λ u at f. operand 1 65 f ▹ λ k at r. raw_all k r.on.here ▹ λ x at s. text k x at r s)
          & (λ u at f. operand 0 own f ▹ λ a at r. operand 0 own r.on ▹ λ b at s. done (Sequence a b) (r.under, s.under)
          s.on.here)
          & (λ u at f. operand 0 own f ▹ λ a at r. operand 0 own r.on ▹ λ b at s. done (Choice a b) (r.under, s.under) s.on.here)
          & (λ u at f. operand 0 own f ▹ λ a at r. done (Star a) r.under r.on.here)
          & (λ u at f. operand 0 own f ▹ λ a at r. done (Not a) r.under r.on.here)
          & (λ u at f. operand 0 N f ▹ λ a at r. done (Call a) r.under r.on.here)
          & (λ u at f. operand 0 T f ▹ λ t at r. done (Def t) r.under r.on.here)
          & (λ u at f. operand 0 T f ▹ λ t at r. done (Match t) r.under r.on.here)
          & (λ u at f. operand 0 T f ▹ λ t at r. done (Is t) r.under r.on.here)
          & (λ u at f. operand 0 T f ▹ λ t at r. done (Isa t) r.under r.on.here)
          & (λ u at f. operand 0 T f ▹ λ t at r. done (Exists t) r.under r.on.here)
          & (λ u at f. operand 0 T f ▹ λ t at r. operand 0 own r.on ▹ λ a at s. done (Block t a) (r.under, s.under) s.on.here)
          & (λ u at f. operand 0 T f ▹ λ t at r. operand 0 own r.on ▹ λ a at s. done (Local t a) (r.under, s.under) s.on.here)
          & (λ u at f. operand 0 C f ▹ λ c at r. operand 0 2 r.on ▹ λ w at s.
          done (If c (eqb w 1)) {at = at} r.under (rw (bit_back w s.under) s.on.here))
          & (λ u at f. operand 0 C f ▹ λ c at r. operand 0 2 r.on ▹ λ w at s. operand 0 own s.on ▹ λ a at q.
          done (On c (eqb w 1) a) {at = at} (r.under, q.under) (rw (bit_back w s.under) q.on.here))
          & nil

    pub pattern_all : (N i at : ℕ) (u : List ℕ) → Front u at → All (One (λ a. a < N) groups u) Stop (bounded image 7 0 N at)
    pattern_all N i at u f =
        operand 0 N (start f) ▹' λ n at r. record { fits = r.under; on = rw (append-nil (groups n)) at r.on.here }

    -- The numbers that the image begins with, within their ranges.
    pub record HeadRead (h : Head) (next : ℕ) : Type 0 where
      pub few_tables : h.tables ≤ 8
      pub few_conditions : h.conditions ≤ 8
      pub some_node : 1 ≤ h.nodes
      pub few_nodes : h.nodes ≤ 512
      pub start_named : h.start < h.nodes
      pub on : Front (numbers (1 ∷ h.tables ∷ h.conditions ∷ h.nodes ∷ h.start ∷ [])) next

    pub head_all : All HeadRead Stop (head_at image)
    head_all =
        number_all 4 1 2 {ns = []} (omega arith) origin ▹ λ edition at e.
        number_all 5 0 9 (omega arith) e.on ▹ λ T at t.
        number_all 5 0 9 (omega arith) t.on ▹ λ C at c.
        number_all 5 1 513 (omega arith) c.on ▹ λ N at n.
        operand 0 N n.on ▹ λ first at s.
        holds (record {
          few_tables = up_to 8 t.under;
          few_conditions = up_to 8 c.under;
          some_node = n.least;
          few_nodes = up_to 512 n.under;
          start_named = s.under;
          on = rw (only e) at s.on.here;
        })
      where
        only : {n at : ℕ} → Number 1 2 [] [] n at → n ≡ 1
        only r = omega arith

        origin : Upto [] [] 0
        origin = record { here = record { front = refl; within = omega arith } }

    -- The whole grammar, up to the place where its last node ends.
    pub record Whole (g : Grammar) (next : ℕ) : Type 0 where
      pub sound : Sound g
      pub on : Front (encode g) next
