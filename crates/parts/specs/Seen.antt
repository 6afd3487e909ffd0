-- A table's list, found in the slot buffer: the latest symbol is where `latest_of` says, and the rest of the list is what lies below it.
use Prim.Native.Nat.{ℕ, zero, suc, ◌-◌, ◌*◌, ◌≤◌, ◌<◌}
use Rattle.std.specs.Prelude.{◌≡◌, Bool, Option, None, Some, is_some, ltb, drop, get_or}
use Rattle.std.proofs.Math.Path.{refl, ap}
use Rattle.std.proofs.Common.{sym, ◌∙◌, subst, arith, drop_of_length-le, eq-eqb, ne_eqb, ltb-true, ltb-false}
use Rattle.std.proofs.Math.Bool.{true, false}
use mathlib.Core.List.{List, [], ◌∷◌, ◌++◌, reverse, reverse-append}
use Rattle.std.proofs.Math.Dec.{eqb}
use Rattle.std.proofs.lemmas.List.{drop-append-le}
use Rattle.format.specs.Reading.{pick}
use Rattle.meaning.specs.State.{Symbol, State, of_table}
use Rattle.meaning.specs.Scopes.{of_append}
use Rattle.meaning.specs.Outcome.{same, some, text, among}
use Rattle.parts.specs.Slots.{symbol_at, symbols, latest_of}
use Rattle.parts.specs.SlotsLaws.{symbols_length}

module _ (table low : ℕ) (slots : List ℕ) where
  -- The list of the table, of the first h symbols those from `low` on, latest first.
  abbrev pub listed : ℕ → State
  listed h = reverse (of_table table (drop low (symbols h slots)))

  below_floor : (h : ℕ) → h ≤ low → listed h ≡ []
  below_floor h l = rw (drop_of_length-le (symbols h slots) {i = low} (omega (arith, symbols_length h slots)))

  pub listed_step : (h : ℕ) → low ≤ h → listed (suc h) ≡ pick (eqb (get_or slots (h * 3) 0) table) (symbol_at slots h ∷ listed h) (listed h)
  unfolding symbols
  listed_step h l =
      ap reverse (ap (of_table table) (drop-append-le low (symbols h slots) (symbol_at slots h ∷ []) (omega (arith, symbols_length h slots)))
      ∙ of_append table (drop low (symbols h slots)) (symbol_at slots h ∷ []))
      ∙ reverse-append (of_table table (drop low (symbols h slots))) (of_table table (symbol_at slots h ∷ []))
      ∙ go (eqb (get_or slots (h * 3) 0) table)
    where
      go : (b : Bool) → reverse (elim b [ true ↦ symbol_at slots h ∷ [] | false ↦ [] ]) ++ listed h ≡ pick b (symbol_at slots h ∷ listed h) (listed h)
      go true = refl
      go false = refl

  -- There is none exactly if the list is empty; else the list begins with the latest and goes on with the list below it.
  pub data Latest (h : ℕ) : Option ℕ → Type 0 where
    none : listed h ≡ [] → Latest h None
    found : {k : ℕ} → low ≤ k → k < h → listed h ≡ symbol_at slots k ∷ listed k → Latest h (Some k)

  passed_by : (h : ℕ) {n : Option ℕ} → listed (suc h) ≡ listed h → Latest h n → Latest (suc h) n
  passed_by h e (none f) = none (e ∙ f)
  passed_by h e (found l m f) = found l (omega (arith, m)) (e ∙ f)

  pub latest_is : (h : ℕ) → Latest h (latest_of table low h slots)
  unfolding latest_of
  latest_is zero = none (below_floor 0 (omega arith))
  latest_is (suc h) = go (ltb h low) refl (latest_is h)
    where
      this : low ≤ h → (b : Bool) → eqb (get_or slots (h * 3) 0) table ≡ b → Latest h (latest_of table low h slots)
          → Latest (suc h) (pick b (Some h) (latest_of table low h slots))
      this l true e r = found l (omega arith) (listed_step h l ∙ ap (λ b. pick b (symbol_at slots h ∷ listed h) (listed h)) e)
      this l false e r = passed_by h (listed_step h l ∙ ap (λ b. pick b (symbol_at slots h ∷ listed h) (listed h)) e) r

      go : (b : Bool) → ltb h low ≡ b → Latest h (latest_of table low h slots)
          → Latest (suc h) (pick b None (pick (eqb (get_or slots (h * 3) 0) table) (Some h) (latest_of table low h slots)))
      go true e r = none (below_floor (suc h) (ltb-true h low e))
      go false e r = this (ltb-false h low e) (eqb (get_or slots (h * 3) 0) table) refl r

  pub latest_below : {h k : ℕ} → Latest h (Some k) → k < h
  latest_below (found l m e) = m

-- Nothing is seen, or the list begins with what is seen.
module _ (table low : ℕ) (slots : List ℕ) (held : ℕ) {seen : Option ℕ} (e : seen ≡ latest_of table low held slots) where
  seeing : Latest table low slots held seen
  seeing = subst (Latest table low slots held) (sym e) (latest_is table low slots held)

  pub seen_none : seen ≡ None → listed table low slots held ≡ []
  seen_none z = go (subst (Latest table low slots held) z seeing)
    where
      go : Latest table low slots held None → listed table low slots held ≡ []
      go (none f) = f

  module _ {k : ℕ} (s : seen ≡ Some k) where
    one : Latest table low slots held (Some k)
    one = subst (Latest table low slots held) s seeing

    pub seen_below : k < held
    seen_below = go one
      where
        go : Latest table low slots held (Some k) → k < held
        go (found l m f) = m

    pub seen_front : listed table low slots held ≡ symbol_at slots k ∷ listed table low slots k
    seen_front = go one
      where
        go : Latest table low slots held (Some k) → listed table low slots held ≡ symbol_at slots k ∷ listed table low slots k
        go (found l m f) = f

  pub seen_some : is_some seen ≡ some (listed table low slots held)
  seen_some = go seeing
    where
      go : {n : Option ℕ} → Latest table low slots held n → is_some n ≡ some (listed table low slots held)
      go (none f) = ap some (sym f)
      go (found l m f) = ap some (sym f)

-- A walk through a table's list, from the latest symbol down: whether some symbol of it has these bytes.
module _ (x bytes : List ℕ) (table low : ℕ) (slots : List ℕ) where
  abbrev pub found_in : ℕ → Bool
  found_in h = among x bytes (listed table low slots h)

  -- Nothing is left below the floor.
  pub look_end : (n : ℕ) → n ≤ low → false ≡ found_in n
  look_end n l = rw (below_floor table low slots n l)

  module _ (n : ℕ) (l : low < n) where
    abbrev here : Symbol
    here = symbol_at slots (n - 1)

    step : (b : Bool) → eqb (get_or slots ((n - 1) * 3) 0) table ≡ b
        → found_in n ≡ among x bytes (pick b (here ∷ listed table low slots (n - 1)) (listed table low slots (n - 1)))
    step b e =
        let z : n ≡ suc (n - 1) = omega (arith, l) in
        ap found_in z
        ∙ ap (among x bytes) (listed_step table low slots (n - 1) (omega (arith, l))
        ∙ ap (λ b. pick b (here ∷ listed table low slots (n - 1)) (listed table low slots (n - 1))) e)

    -- Another table's symbol is passed by.
    pub look_other : (get_or slots ((n - 1) * 3) 0 ≡ table → ⊥) → found_in n ≡ found_in (n - 1)
    look_other d = step false (ne_eqb (get_or slots ((n - 1) * 3) 0) table d)

    module _ (own : get_or slots ((n - 1) * 3) 0 ≡ table) where
      among_step : (b : Bool) → b ≡ same bytes (text x here) → found_in n ≡ elim b [ true ↦ true | false ↦ found_in (n - 1) ]
      among_step b e =
          step true (eq-eqb (get_or slots ((n - 1) * 3) 0) table own) ∙ ap (λ b. elim b [ true ↦ true | false ↦ found_in (n - 1) ]) (sym e)

      pub look_found : true ≡ same bytes (text x here) → true ≡ found_in n
      look_found e = sym (among_step true e)

      pub look_differs : false ≡ same bytes (text x here) → found_in n ≡ found_in (n - 1)
      look_differs e = among_step false e
