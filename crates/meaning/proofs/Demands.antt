-- The demands, proved of the machine's answer and of `recognise`.
use Rattle.std.specs.Prelude.{ℕ, ◌*◌, ◌≤◌, ◌≡◌, refl, Bool, true, false, ◌⊎◌, List, [], ltb, length, drop}
use Rattle.std.proofs.Common.{ap, ◌∙◌, sym, inl, inr, arith}
use borrow.Author.Tests.{le-ltb, ltb-true, ltb-false}
use Rattle.grammar.specs.Grammar.{Grammar, node}
use Rattle.grammar.specs.Sound.{Bytes}
use Rattle.format.specs.Image.{Checked, good, refused, read_image}
use Rattle.format.proofs.RoundTrip as i
use Rattle.meaning.specs.State.{State, outset}
use Rattle.meaning.specs.Outcome.{Outcome, pass, fail}
use Rattle.meaning.specs.Cost.{Cost}
use Rattle.meaning.specs.Limits.{Within}
use Rattle.meaning.specs.Kept.{kept}
use Rattle.meaning.specs.Run.{Result, ran, refused as stopped}
use Rattle.meaning.specs.Recognise.{Called, answer_of, filled, slots_after, refusal, from_start, allowed, recognise}
use Rattle.meaning.specs.Complete.{complete}
use Rattle.meaning.proofs.Complete.{cut_complete}
use Rattle.meaning.specs.Exact.{stop_number}
use Rattle.meaning.proofs.Exact.{exact, cut_exactly, raised}
use Rattle.meaning.specs.Unique.{true≢false}
use Rattle.meaning.specs.Counted.{counted}
use Rattle.meaning.proofs.Counted.{spent_counted}
use Rattle.meaning.proofs.Remain.{remain, ends_eq}
use Rattle.meaning.proofs.Room.{room_enough, of_pass}
use Rattle.meaning.specs.SlotLaws.{past_same, filled_length}
use Rattle.meaning.specs.Demands.{Ranges, Entered, Recognises, Accepts, Fails, Derivable, Demand2, Demand3, Fixed, in_range_lem, of_range, runs, image_refused, input_refused, slots_refused}

-- ## They hold of the machine's answer

module _ (g : Grammar) (x : List ℕ) (B D R : ℕ) where
  found : {o : Outcome} {c : Cost} → Recognises g x o c → Within c D B R → from_start g x B D R ≡ ran o c
  found E w = complete g x R E D B w

  exactly : {o : Outcome} {c : Cost} → from_start g x B D R ≡ ran o c → Recognises g x o c × Within c D B R
  exactly {o} {c} h = (exact g x outset (node g g.start) 0 [] R D B o c).0 h

  pub number_of : {n s : ℕ} {c : Cost} → from_start g x B D R ≡ stopped n s c → (12 ≤ n) × (n ≤ 15)
  number_of {n} {s} {c} h = stop_number ((cut_exactly g x outset (node g g.start) 0 [] R D B n s c).0 h)

  machine_2 : Demand2 g x B D R (answer_of (from_start g x B D R))
  machine_2 = record {
    accepts =
        λ n. (
          (λ h. accepted n (from_start g x B D R) refl h),
          λ h. (ap (λ r. (answer_of r).kind) (found h.2 h.3), ap (λ r. (answer_of r).consumed) (found h.2 h.3)),
        );
    fails = ((λ h. failed (from_start g x B D R) refl h), λ h. ap (λ r. (answer_of r).kind) (found h.1 h.2));
    refuses = (
      (λ h z. unrefused z.0 z.1 (ap (λ r. (answer_of r).kind) (found z.2 z.3)) h),
      λ h. refused_by (from_start g x B D R) refl h,
    );
    stops = λ n s c K. let h = cut_complete g x R K in (
      ap (λ r. (answer_of r).kind) h,
      ap (λ r. (answer_of r).place) h,
      ap (λ r. (answer_of r).steps) h
          ∙ sym (spent_counted g x K),
      ap (λ r. (answer_of r).depth) h,
    );
    counts = λ o c E w. steps_of o c (found E w) ∙ sym (counted g x E);
  }
    where
      accepted :
          (n : ℕ) (r : Result) → from_start g x B D R ≡ r → ((answer_of r).kind ≡ 0) × ((answer_of r).consumed ≡ n) → Accepts g x B D R n
      accepted n (ran (pass q τ) c) e h = let s = exactly (e ∙ ap (λ m. ran (pass m τ) c) h.1) in (τ, c, s.0, s.1)
      accepted n (ran fail c) e h = absurd (omega arith)
      accepted n (stopped k q c) e h = let l = number_of e in absurd (omega arith)

      failed : (r : Result) → from_start g x B D R ≡ r → (answer_of r).kind ≡ 99 → Fails g x B D R
      failed (ran (pass q τ) c) e h = absurd (omega arith)
      failed (ran fail c) e h = let s = exactly e in (c, s.0, s.1)
      failed (stopped k q c) e h = let l = number_of e in absurd (omega arith)

      unrefused : (o : Outcome) (c : Cost) → (answer_of (from_start g x B D R)).kind ≡ (answer_of (ran o c)).kind
          → (12 ≤ (answer_of (from_start g x B D R)).kind) × ((answer_of (from_start g x B D R)).kind ≤ 15) → ⊥
      unrefused (pass n τ) c e h = omega arith
      unrefused fail c e h = omega arith

      refused_by : (r : Result) → from_start g x B D R ≡ r → ¬ (Derivable g x B D R) → (12 ≤ (answer_of r).kind) × ((answer_of r).kind ≤ 15)
      refused_by (ran o c) e h = let s = exactly e in absurd (h (o, c, s.0, s.1))
      refused_by (stopped k q c) e h = number_of e

      steps_of : (o : Outcome) (c : Cost) → from_start g x B D R ≡ ran o c → (answer_of (from_start g x B D R)).steps ≡ c.steps
      steps_of (pass n τ) c h = ap (λ r. (answer_of r).steps) h
      steps_of fail c h = ap (λ r. (answer_of r).steps) h

  machine_3 : (slots : List ℕ) → Demand3 g x B D R (answer_of (from_start g x B D R)) slots (slots_after R (from_start g x B D R) slots)
  machine_3 slots = record {
    symbols = λ n τ c E w.
        let same : τ ≡ kept g x E = ends_eq g x (remain g x E) in (
          ap (λ r. (answer_of r).symbols) (found E w) ∙ ap length same,
          ap (λ r. slots_after R r slots) (found E w)
              ∙ ap (λ l. filled R l slots) same,
        );
  }

  abbrev called : List ℕ → Result → Called
  called slots r = record { answer = answer_of r; slots = slots_after R r slots }

  machine_fixed : (slots : List ℕ) → Fixed g x B D R slots (called slots (from_start g x B D R))
  machine_fixed slots = record {
    accepted = λ n τ c E w.
        let same : τ ≡ kept g x E = ends_eq g x (remain g x E) in
        ap (called slots) (found E w) ∙ rw (counted g x E, sym same);
    failed = λ c E w. ap (called slots) (found E w) ∙ rw (counted g x E);
    cut_short = λ n s c K. ap (called slots) (cut_complete g x R K) ∙ rw (spent_counted g x K);
  }

  -- TWO CALLS THAT ARE PERMITTED ARE EQUAL, in every field and every slot.
  pub permitted_once : (before : List ℕ) (k k' : Called) → Fixed g x B D R before k → Fixed g x B D R before k' → k ≡ k'
  permitted_once before k k' F F' = go (from_start g x B D R) refl
    where
      go : (r : Result) → from_start g x B D R ≡ r → k ≡ k'
      go (ran (pass n τ) c) h = let s = exactly h in F.accepted n τ c s.0 s.1 ∙ sym (F'.accepted n τ c s.0 s.1)
      go (ran fail c) h = let s = exactly h in F.failed c s.0 s.1 ∙ sym (F'.failed c s.0 s.1)
      go (stopped n s c) h =
          let K = (cut_exactly g x outset (node g g.start) 0 [] R D B n s c).0 h in F.cut_short n s c K ∙ sym (F'.cut_short n s c K)

-- ## And of recognise

pub out_of_range : (B D R : ℕ) → ¬ (Ranges B D R) → allowed B D R ≡ false
out_of_range B D R h = go (allowed B D R) refl
  where
    go : (b : Bool) → allowed B D R ≡ b → b ≡ false
    go true e = absurd (h (of_range e))
    go false e = refl

module _ {image : List ℕ} {g : Grammar} {x : List ℕ} {B D R : ℕ} {slots : List ℕ} (E : Entered image g x B D R slots) where
  pub demand_2 : Demand2 g x B D R (recognise image x B D R slots).answer
  demand_2 = rw (runs E) (machine_2 g x B D R)

  pub demand_3 : Demand3 g x B D R (recognise image x B D R slots).answer slots (recognise image x B D R slots).slots
  demand_3 = rw (runs E) (machine_3 g x B D R slots)

  pub fixed : Fixed g x B D R slots (recognise image x B D R slots)
  fixed = rw (runs E) (machine_fixed g x B D R slots)

  -- ## What a caller may rely on

  -- No more than R symbols are held at the end.
  pub symbols_fit : (n : ℕ) (τ : State) (c : Cost) → from_start g x B D R ≡ ran (pass n τ) c → length τ ≤ R
  symbols_fit n τ c h = let s = exactly g x B D R h in omega (arith, of_pass (room_enough g x s.0), s.1)

  -- What holds of every list of slots that a run can leave holds of the slots left.
  each_outcome : (P : List ℕ → Type 0) → ((τ : State) → length τ ≤ R → P (filled R τ slots)) → P (recognise image x B D R slots).slots
  each_outcome P all = rw (runs E) (go (from_start g x B D R) refl)
    where
      go : (r : Result) → from_start g x B D R ≡ r → P (slots_after R r slots)
      go (ran (pass n τ) c) h = all τ (symbols_fit n τ c h)
      go (ran fail c) h = all [] (omega arith)
      go (stopped n q c) h = all [] (omega arith)

  -- "Numbers past 3R are never written", and the buffer keeps its length.
  pub past_untouched : drop (3 * R) (recognise image x B D R slots).slots ≡ drop (3 * R) slots
  past_untouched = each_outcome (λ l. drop (3 * R) l ≡ drop (3 * R) slots) (λ τ h. past_same R τ slots h)

  pub length-kept : length (recognise image x B D R slots).slots ≡ length slots
  length-kept = each_outcome (λ l. length l ≡ length slots) (λ τ h. filled_length R τ slots h E.slots_enough)

-- "raising limits within their ranges, with slots to match, never alters an answer that was accepted or failed": the six fields are the
-- same, and the slots hold the same symbols, with zeros up to the new 3R.
pub raised_limits : {image : List ℕ} {g : Grammar} {x : List ℕ} {B D R B' D' R' : ℕ} {slots slots' : List ℕ}
    → Entered image g x B D R slots → Entered image g x B' D' R' slots' → B ≤ B' → D ≤ D' → R ≤ R'
    → ((recognise image x B D R slots).answer.kind ≡ 0) ⊎ ((recognise image x B D R slots).answer.kind ≡ 99)
    → ((recognise image x B' D' R' slots').answer ≡ (recognise image x B D R slots).answer)
    × (τ : State) × (length τ ≡ (recognise image x B D R slots).answer.symbols) × ((recognise image x B D R slots).slots ≡ filled R τ slots) ×
    ((recognise image x B' D' R' slots').slots ≡ filled R' τ slots')
raised_limits {image} {g} {x} {B} {D} {R} {B'} {D'} {R'} {slots} {slots'} E E' h_b h_d h_r ended =
    rw (runs E, runs E') (go (from_start g x B D R) refl (rw (runs E) at ended))
  where
    same : {o : Outcome} {c : Cost} → from_start g x B D R ≡ ran o c → from_start g x B' D' R' ≡ ran o c
    same {o} {c} h = raised g x outset (node g g.start) 0 [] R D B R' D' B' o c h_r h_d h_b h

    go : (r : Result) → from_start g x B D R ≡ r → ((answer_of (from_start g x B D R)).kind ≡ 0) ⊎ ((answer_of (from_start g x B D R)).kind ≡ 99)
        → (answer_of (from_start g x B' D' R') ≡ answer_of (from_start g x B D R))
        × (τ : State) × (length τ ≡ (answer_of (from_start g x B D R)).symbols) × (slots_after R (from_start g x B D R) slots ≡ filled R τ slots) ×
        (slots_after R' (from_start g x B' D' R') slots' ≡ filled R' τ slots')
    go (ran (pass n τ) c) h ended =
        (ap answer_of (same h ∙ sym h), τ, sym (ap (λ r. (answer_of r).symbols) h), ap (λ r. slots_after R r slots) h, ap (λ r. slots_after R' r slots') (same h))
    go (ran fail c) h ended =
        (ap answer_of (same h ∙ sym h), [], sym (ap (λ r. (answer_of r).symbols) h), ap (λ r. slots_after R r slots) h, ap (λ r. slots_after R' r slots') (same h))
    go (stopped n q c) h (inl k) =
        let l = number_of g x B D R h in let m : (answer_of (from_start g x B D R)).kind ≡ n = ap (λ r. (answer_of r).kind) h in
        absurd (omega arith)
    go (stopped n q c) h (inr k) =
        let l = number_of g x B D R h in let m : (answer_of (from_start g x B D R)).kind ≡ n = ap (λ r. (answer_of r).kind) h in
        absurd (omega arith)

-- ## The entry checks: 10

module _ (image : List ℕ) (g : Grammar) (x : List ℕ) (B D R : ℕ) (slots : List ℕ) (e : read_image image ≡ good g) where
  -- 10: the limits, whatever the slots are.
  pub limits_refused : length x ≤ 65535 → ¬ (Ranges B D R) → recognise image x B D R slots ≡ refusal 10 0 slots
  unfolding recognise
  limits_refused h f = rw e (rw (le-ltb 65535 (length x) h, out_of_range B D R f))

-- ## DEMAND 1

-- Every image, input, limits and slots: either the entry checks pass, and then `fixed` settles the call; or one of 1 to 11 refuses, with
-- all fields zero but number and place, and the slots untouched.
pub answered : (image x : List ℕ) (B D R : ℕ) (slots : List ℕ) → Bytes image
    → ((g : Grammar) × Entered image g x B D R slots)
    ⊎ ((n place : ℕ) × (1 ≤ n) × (n ≤ 11) × (recognise image x B D R slots ≡ refusal n place slots))
answered image x B D R slots bytes = read (read_image image) refl
  where
    Said : Type 0
    Said = ((g : Grammar) × Entered image g x B D R slots) ⊎
        ((n place : ℕ) × (1 ≤ n) × (n ≤ 11) × (recognise image x B D R slots ≡ refusal n place slots))

    buffer : (g : Grammar) → read_image image ≡ good g → length x ≤ 65535 → Ranges B D R → (t : Bool) → ltb (length slots) (3 * R) ≡ t → Said
    buffer g e h f true l = inr (11, 0, omega arith, omega arith, slots_refused image g x B D R slots e h f (ltb-true (length slots) (3 * R) l))
    buffer g e h f false l =
        inl (g, record { image_good = e; input_short = h; ranges = f; slots_enough = ltb-false (length slots) (3 * R) l })

    limits : (g : Grammar) → read_image image ≡ good g → length x ≤ 65535 → (t : Bool) → allowed B D R ≡ t → Said
    limits g e h true f = buffer g e h (of_range f) (ltb (length slots) (3 * R)) refl
    limits g e h false f =
        inr (10, 0, omega arith, omega arith, limits_refused image g x B D R slots e h (λ r. true≢false (sym (in_range_lem r) ∙ f)))

    given : (g : Grammar) → read_image image ≡ good g → (t : Bool) → ltb 65535 (length x) ≡ t → Said
    given g e true l = inr (9, 0, omega arith, omega arith, input_refused image g x B D R slots e (ltb-true 65535 (length x) l))
    given g e false l = limits g e (ltb-false 65535 (length x) l) (allowed B D R) refl

    read : (k : Checked) → read_image image ≡ k → Said
    read (good g) e = given g e (ltb 65535 (length x)) refl
    read (refused n place) e =
        let r = i.refusal image bytes n place e in
        inr (n, place, r.least, omega (arith, r.most), image_refused image x B D R slots n place e)

-- The kind is accepted, failed, or a number of the list.
pub kinds : (image x : List ℕ) (B D R : ℕ) (slots : List ℕ) → Bytes image
    → ((recognise image x B D R slots).answer.kind ≡ 0) ⊎ ((recognise image x B D R slots).answer.kind ≡ 99)
    ⊎ ((1 ≤ (recognise image x B D R slots).answer.kind) × ((recognise image x B D R slots).answer.kind ≤ 15))
kinds image x B D R slots bytes = go (answered image x B D R slots bytes)
  where
    Kind : ℕ → Type 0
    Kind k = (k ≡ 0) ⊎ (k ≡ 99) ⊎ ((1 ≤ k) × (k ≤ 15))

    ended : (g : Grammar) (r : Result) → from_start g x B D R ≡ r → Kind (answer_of r).kind
    ended g (ran (pass n τ) c) h = inl refl
    ended g (ran fail c) h = inr (inl refl)
    ended g (stopped n s c) h = let l = number_of g x B D R h in inr (inr (omega (arith, l), l.1))

    go : ((g : Grammar) × Entered image g x B D R slots)
        ⊎ ((n place : ℕ) × (1 ≤ n) × (n ≤ 11) × (recognise image x B D R slots ≡ refusal n place slots))
        → Kind (recognise image x B D R slots).answer.kind
    go (inl h) = rw (runs h.1) (ended h.0 (from_start h.0 x B D R) refl)
    go (inr h) = let l = h.2 in let m = h.3 in rw h.4 (inr (inr (l, omega arith)))
