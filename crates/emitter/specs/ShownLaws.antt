-- What storing in the arrays of a walk shows.
use Rattle.std.specs.Prelude.{ℕ, zero, suc, ◌+◌, ◌-◌, ◌≤◌, ◌<◌, ◌≡◌, refl, List, ◌∷◌, length, get_or, set}
use Rattle.std.proofs.Common.{◌*◌, ◌/◌, ◌%◌, ap, ◌∙◌, arith, add-one, length-set, get_or-set_same, get_or-set_other}
use Rattle.grammar.specs.Expr.{Expr}
use Rattle.notation.specs.Tree.{Name, Leaf, any, quoted, class, call, query, if, leaf}
use Rattle.notation.specs.At.{name_at}
use Rattle.notation.specs.Compile.{leaf_count, leaf_nodes, count, emit}
use Rattle.notation.specs.MeansLaws.{emit_length}
use Rattle.writer.specs.declared.node.Made.{Made}
use Rattle.emitter.specs.declared.state.State.{State}
use Rattle.emitter.specs.declared.state.Opened.{Opened}
use Rattle.writer.specs.Put.{Adds}
use Rattle.emitter.specs.Shown.{row_of, unopened, opener_kept, brought_kept, brought_at, Marks, Enters, complete_at, Settles, Grows}

-- ## Rows

pub row_length : {A : Type 0} (f : ℕ → A) (n : ℕ) → length (row_of f n) ≡ n
unfolding row_of
row_length f zero = refl
row_length f (suc n) = ap suc (row_length f n)

row_same : {A : Type 0} (f g : ℕ → A) (n : ℕ) → ((i : ℕ) → i < n → f i ≡ g i) → row_of f n ≡ row_of g n
unfolding row_of
row_same f g zero h = refl
row_same f g (suc n) h = rw (h n (omega arith)) (ap (λ l. g n ∷ l) (row_same f g n (λ i k. h i (omega arith))))

-- One more, at the end.
row_more : {A : Type 0} (f : ℕ → A) (n : ℕ) → row_of f (n + 1) ≡ f n ∷ row_of f n
unfolding row_of
row_more f n = rw (add-one n)

-- One more, stored behind the first i.
row_push :
    {A B : Type 0} (f : B → A) (d : B) (l : List B) (i : ℕ) (v : B) → i < length l
    → row_of (λ j. f (get_or (set l i v) j d)) (i + 1) ≡ f v ∷ row_of (λ j. f (get_or l j d)) i
row_push f d l i v h =
    row_more (λ j. f (get_or (set l i v) j d)) i
    ∙ rw (get_or-set_same l i v d h)
    (ap (λ r. f v ∷ r)
    (row_same (λ j. f (get_or (set l i v) j d)) (λ j. f (get_or l j d)) i (λ j k. ap f (get_or-set_other l i j v d (λ e. omega arith)))))

-- ## What is complete

pub settles_set :
    (done : List ℕ) (m : Made) (depth openers ended : ℕ) → depth < length done
    → Settles done m depth openers ended (set done depth (m.nodes - 1)) (record { made = m; complete = depth + 1; openers = openers; ended = ended })
settles_set done m depth openers ended h = record { state = refl; row = row_push (λ n. n) 0 done depth (m.nodes - 1) h; long = length-set done depth (m.nodes - 1) }

pub grows_settled :
    {was done now after : List ℕ} {s r : State} {m : Made} {depth openers : ℕ} {new : List Expr} → Adds was s.made now m new
    → Settles done m depth openers s.ended after r → Grows was done s depth openers new now after r
grows_settled {was} {done} {now} {after} {s} {r} {m} {depth} {openers} {new} a g =
    let e : m.nodes - 1 ≡ s.made.nodes + length new - 1 = omega (arith, a.many) in
    rw g.state (record {
      adds = a;
      row = g.row ∙ ap (λ n. n ∷ complete_at done depth) e;
      tall = refl;
      open_then = refl;
      ended = refl;
      long = g.long;
    })

-- ## Leaves

pub leaf_length : (production table condition : Name → ℕ) (k : ℕ) (l : Leaf) → length (leaf_nodes production table condition k l) ≡ leaf_count l
unfolding emit count
leaf_length production table condition k l = emit_length production table condition k (leaf l)

pub leaf_some : (l : Leaf) → 1 ≤ leaf_count l
leaf_some any = omega arith
leaf_some (quoted s) = omega arith
leaf_some (class p ps) = omega arith
leaf_some (call n) = omega arith
leaf_some (query q t) = omega arith
leaf_some (if c w) = omega arith

-- ## What is open

-- Two numbers in one, of which the second is below 16, are read back.
module _ (p m : ℕ) (h : m < 16) where
  mark_kept : (p * 16 + m) % 16 ≡ m
  mark_kept = omega arith

  place_kept : (p * 16 + m) / 16 ≡ p
  place_kept = omega arith

pub enters_set :
    {text : List ℕ} {ts : List Name} {was now : List ℕ} (opened : List Opened) (s : State) (v : Opened) → s.openers < length opened
    → Marks ts was (opener_kept text v) (name_at text v.name) now v.brings
    → Enters text ts was opened s (opener_kept text v) now (set opened s.openers v)
    (record { made = s.made; complete = s.complete; openers = s.openers + 1; ended = s.ended })
enters_set {text} opened s v h m = record {
  state = refl;
  openers = row_push (opener_kept text) unopened opened s.openers v h;
  brought = λ f T. row_push (brought_kept text) unopened opened s.openers v h ∙ ap (λ o. o ∷ brought_at text opened s.openers) (m.brought f T);
  tells = m.tells;
  long = (m.long, length-set opened s.openers v);
}
