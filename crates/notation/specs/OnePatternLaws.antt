-- There is no fault exactly if no table has two patterns; and if there is one, those before it are alike to the first of their tables.
use Rattle.std.specs.Prelude.{ℕ, zero, suc, ◌+◌, ◌≤◌, ◌<◌, ◌≡◌, refl, Bool, true, false, ◌↔◌, List, [], ◌∷◌, eqb, length, get_or}
use Rattle.std.proofs.Common.{ap, sym, ◌∙◌, subst, arith, eqb-true}
use Rattle.std.proofs.Math.Option.{some, none}
use Rattle.std.proofs.lemmas.Bool.{eqb-false}
use Rattle.format.specs.Reading.{pick}
use Rattle.notation.specs.Lexer.{same}
use Rattle.notation.specs.LexicalText.{no_way}
use Rattle.notation.specs.LexicalToken.{same_true}
use Rattle.notation.specs.Naming.{Definition, all, agrees_with, agree}
use Rattle.notation.specs.SymbolsLaws.{same_refl}
use Rattle.notation.specs.AlikeLaws.{alike_same}
use Rattle.notation.specs.Compile.{place}
use Rattle.notation.specs.MemberLaws.{all_at, at_all}
use Rattle.notation.specs.OnePattern.{no_definition, first_at, matches, failing, fault}

-- ## The first that fails

failing_none : {A : Type 0} (f : A → Bool) (xs : List A) (i : ℕ) → (failing f xs i ≡ none) ↔ (all f xs ≡ true)
unfolding failing all
failing_none f [] i = (λ e. refl, λ e. refl)
failing_none f (x ∷ xs) i = go (f x) refl (failing_none f xs (suc i))
  where
    go : (b : Bool) → f x ≡ b → (failing f xs (suc i) ≡ none) ↔ (all f xs ≡ true) → (failing f (x ∷ xs) i ≡ none) ↔ (all f (x ∷ xs) ≡ true)
    go true q h = rw q h
    go false q h = rw q (λ e. no_way (cc), λ e. no_way (cc))

-- It fails, and those before it do not.
pub record Fails {A : Type 0} (f : A → Bool) (xs : List A) (z : A) (k : ℕ) : Type 0 where
  pub within_list : k < length xs
  pub fails : f (get_or xs k z) ≡ false
  pub holds_before : (j : ℕ) → j < k → f (get_or xs j z) ≡ true

failing_some :
    {A : Type 0} (f : A → Bool) (z : A) (xs : List A) (i k : ℕ) → failing f xs i ≡ some k → (m : ℕ) × (k ≡ i + m) × Fails f xs z m
unfolding failing
failing_some f z [] i k e = no_way (cc)
failing_some f z (x ∷ xs) i k e = go (f x) refl (λ h. failing_some f z xs (suc i) k h)
  where
    go : (b : Bool) → f x ≡ b → (failing f xs (suc i) ≡ some k → (m : ℕ) × (k ≡ suc i + m) × Fails f xs z m)
        → (m : ℕ) × (k ≡ i + m) × Fails f (x ∷ xs) z m
    go true q h =
        let r = h (rw q at e) in
        let w = r.2 in
        let e = r.1 in
        let l = w.within_list in
        (suc r.0, omega arith, record { within_list = omega arith; fails = w.fails; holds_before = before w.holds_before })
      where
        before : {m : ℕ} → ((j : ℕ) → j < m → f (get_or xs j z) ≡ true) → (j : ℕ) → j < suc m → f (get_or (x ∷ xs) j z) ≡ true
        before g zero l = q
        before g (suc j) l = g j (omega arith)
    go false q h =
        let s : some i ≡ some k = rw q at e in
        let t : i ≡ k = cc in
        (0, omega arith, record { within_list = omega arith; fails = q; holds_before = λ j l. absurd (omega arith) })

pub first_fault : (ds : List Definition) (k : ℕ) → fault ds ≡ some k → Fails (matches ds) ds no_definition k
first_fault ds k e =
    let r = failing_some (matches ds) no_definition ds 0 k e in let t : r.0 ≡ k = omega (arith, r.1) in subst (Fails (matches ds) ds no_definition) t r.2

-- ## No fault: all pairs agree

-- The definition at a place.
abbrev at : List Definition → ℕ → Definition
at ds i = get_or ds i no_definition

-- All pairs, by their places.
abbrev Agree : List Definition → Type 0
Agree ds = (i k : ℕ) → i < k → k < length ds → agrees_with (at ds i) (at ds k) ≡ true

both_true : (a b : Bool) → pick a b false ≡ true → (a ≡ true) × (b ≡ true)
both_true true b e = (refl, e)
both_true false b e = no_way (cc)

agree_at : (ds : List Definition) → agree ds ≡ true → Agree ds
unfolding agree
agree_at [] e i k h l = absurd (omega arith)
agree_at (d ∷ ds) e i k h l = let b = both_true (all (agrees_with d) ds) (agree ds) e in go i k h l (agree_at ds b.1)
  where
    go : (i k : ℕ) → i < k → k < length (d ∷ ds) → Agree ds → agrees_with (at (d ∷ ds) i) (at (d ∷ ds) k) ≡ true
    go i zero h l r = absurd (omega arith)
    go zero (suc k) h l r = all_at (agrees_with d) no_definition ds (both_true (all (agrees_with d) ds) (agree ds) e).0 k (omega arith)
    go (suc i) (suc k) h l r = r i k (omega arith) (omega arith)

at_agree : (ds : List Definition) → Agree ds → agree ds ≡ true
unfolding agree
at_agree [] h = refl
at_agree (d ∷ ds) h =
    rw (at_all (agrees_with d) no_definition ds (λ k l. h 0 (suc k) (omega arith) (omega arith)))
    (at_agree ds (λ i k l m. h (suc i) (suc k) (omega arith) (omega arith)))

-- The first of a definition's table is of that table, and not behind it.
pub first_before : (ds : List Definition) (i : ℕ) → i < length ds → first_at ds (get_or ds i no_definition).table ≤ i
unfolding place
first_before [] i h = absurd (omega arith)
first_before (d ∷ ds) zero h = rw (same_refl d.table) (omega arith)
first_before (d ∷ ds) (suc i) h = go (same (at ds i).table d.table) refl (first_before ds i (omega arith))
  where
    go : (b : Bool) → same (at ds i).table d.table ≡ b → first_at ds (at ds i).table ≤ i → first_at (d ∷ ds) (at ds i).table ≤ suc i
    go true q r = rw q (omega arith)
    go false q r = rw q (omega arith)

first_table : (ds : List Definition) (i : ℕ) → i < length ds → (at ds (first_at ds (at ds i).table)).table ≡ (at ds i).table
unfolding place
first_table [] i h = absurd (omega arith)
first_table (d ∷ ds) zero h = rw (same_refl d.table)
first_table (d ∷ ds) (suc i) h = go (same (at ds i).table d.table) refl (first_table ds i (omega arith))
  where
    go : (b : Bool) → same (at ds i).table d.table ≡ b → (at ds (first_at ds (at ds i).table)).table ≡ (at ds i).table
        → (at (d ∷ ds) (first_at (d ∷ ds) (at ds i).table)).table ≡ (at ds i).table
    go true q r = rw q (sym (same_true (at ds i).table d.table q))
    go false q r = rw q r

-- All definitions before a place match.
abbrev pub Good : List Definition → ℕ → Type 0
Good ds n = (i : ℕ) → i < n → matches ds (get_or ds i no_definition) ≡ true

-- One that is the first of its table does.
pub first_matches :
    (ds : List Definition) (i : ℕ) → first_at ds (get_or ds i no_definition).table ≡ i → matches ds (get_or ds i no_definition) ≡ true
first_matches ds i e = (alike_same (at ds (first_at ds (at ds i).table)).pattern (at ds i).pattern).1 (ap (λ j. (at ds j).pattern) e)

agree_good : (ds : List Definition) → Agree ds → Good ds (length ds)
agree_good ds h i l = go (eqb j i) refl
  where
    j : ℕ
    j = first_at ds (at ds i).table

    go : (b : Bool) → eqb j i ≡ b → matches ds (at ds i) ≡ true
    go true q = first_matches ds i (eqb-true j i q)
    go false q =
        let n = eqb-false j i q in
        let s : same (at ds j).table (at ds i).table ≡ true = rw (first_table ds i l) (same_refl (at ds i).table) in
        rw s at (h j i (omega (arith, first_before ds i l, n)) l)

good_agree : (ds : List Definition) → Good ds (length ds) → Agree ds
good_agree ds h i k l m = go (same (at ds i).table (at ds k).table) refl
  where
    go : (b : Bool) → same (at ds i).table (at ds k).table ≡ b → agrees_with (at ds i) (at ds k) ≡ true
    go false q = rw q
    go true q =
        let t = same_true (at ds i).table (at ds k).table q in
        let x = (alike_same (at ds (first_at ds (at ds i).table)).pattern (at ds i).pattern).0 (h i (omega arith)) in
        let y = (alike_same (at ds (first_at ds (at ds k).table)).pattern (at ds k).pattern).0 (h k (omega arith)) in
        rw q ((alike_same (at ds i).pattern (at ds k).pattern).1
        (sym x ∙ ap (λ t. (at ds (first_at ds t)).pattern) t ∙ y))

pub fault_none : (ds : List Definition) → (fault ds ≡ none) ↔ (agree ds ≡ true)
fault_none ds = (
  λ e. at_agree ds (good_agree ds (all_at (matches ds) no_definition ds ((failing_none (matches ds) ds 0).0 e))),
  λ e. (failing_none (matches ds) ds 0).1 (at_all (matches ds) no_definition ds (agree_good ds (agree_at ds e))),
)
