-- The shams of 01, "What the contracts settle". An answerer of each kind breaks demand 2 or demand 3, as these are stated over derivations.
use Rattle.std.specs.Prelude.{ℕ, ◌≡◌, refl, ◌⊎◌, List, [], ◌∷◌, length, get_or}
use Rattle.std.proofs.Common.{ap, ◌∙◌, sym, inl, inr, arith}
use Rattle.format.specs.Cases.{harbour, harbour_grammar, harbour_read}
use Rattle.meaning.specs.State.{State}
use Rattle.meaning.specs.Outcome.{pass}
use Rattle.meaning.specs.Kept.{kept}
use Rattle.meaning.specs.Recognise.{Answer, filled, recognise}
use Rattle.meaning.specs.Demands.{Entered, Accepts, Demand2, Demand3}
use Rattle.meaning.specs.Shams.{one, two, Machine, Meets2, Meets3}
use Rattle.meaning.proofs.Demands.{demand_2, demand_3}

one_entered : Entered harbour harbour_grammar one 13 6 1 (0 ∷ 0 ∷ 0 ∷ [])
one_entered = record {
  image_good = harbour_read;
  input_short = omega arith;
  ranges = record {
    some_steps = omega arith;
    few_steps = omega arith;
    some_depth = omega arith;
    small_depth = omega arith;
    small_room = omega arith;
  };
  slots_enough = omega arith;
}

two_entered : Entered harbour harbour_grammar two 17 6 1 (0 ∷ 0 ∷ 0 ∷ [])
two_entered = record {
  image_good = harbour_read;
  input_short = omega arith;
  ranges = record {
    some_steps = omega arith;
    few_steps = omega arith;
    some_depth = omega arith;
    small_depth = omega arith;
    small_room = omega arith;
  };
  slots_enough = omega arith;
}

-- The rules derive both, within those limits.
one_accepted : Accepts harbour_grammar one 13 6 1 3
unfolding recognise
one_accepted = ((demand_2 one_entered).accepts 3).0 (refl, refl)

two_accepted : Accepts harbour_grammar two 17 6 1 5
unfolding recognise
two_accepted = ((demand_2 two_entered).accepts 5).0 (refl, refl)

-- One that accepts nothing: it refuses all grammars, with whatever number, or it fails every input.
pub accepts_nothing : (a : Answer) → (a.kind ≡ 0 → ⊥) → Demand2 harbour_grammar one 13 6 1 a → ⊥
accepts_nothing a h d = h ((d.accepts 3).1 one_accepted).0

-- Where the first symbol ends does not hang on what the buffer held before.
first_end : (l : State) (before : List ℕ) → length l ≡ 1 → get_or (filled 1 l before) 2 0 ≡ get_or (filled 1 l (0 ∷ 0 ∷ 0 ∷ [])) 2 0
first_end [] before h = absurd (omega arith)
first_end (s ∷ l) before h = refl

-- One that stores nothing: it counts no symbol, or its slots do not say where the symbol ends. Whatever the buffer held before.
pub stores_nothing : (a : Answer) (before after : List ℕ) → (a.symbols ≡ 0) ⊎ (get_or after 2 0 ≡ 1 → ⊥)
    → Demand3 harbour_grammar one 13 6 1 a before after → ⊥
unfolding recognise
stores_nothing a before after h d =
    let s = one_accepted in
    let truth = (demand_3 one_entered).symbols 3 s.0 s.1 s.2 s.3 in
    let mine = d.symbols 3 s.0 s.1 s.2 s.3 in
    said h (mine.0 ∙ sym truth.0)
    (ap (λ l. get_or l 2 0) mine.1 ∙ first_end (kept harbour_grammar one s.2) before (sym truth.0) ∙ sym (ap (λ l. get_or l 2 0) truth.1))
  where
    said : (a.symbols ≡ 0) ⊎ (get_or after 2 0 ≡ 1 → ⊥) → a.symbols ≡ 1 → get_or after 2 0 ≡ 1 → ⊥
    said (inl n) one end = omega arith
    said (inr n) one end = n end

-- One that runs only the first round of a Star and makes the rest up: it fails, or it consumes or counts what the derivation does not.
pub makes_up_the_end :
    (a : Answer) → ((a.kind ≡ 0) × (a.consumed ≡ 5) × (a.steps ≡ 17) → ⊥) → Demand2 harbour_grammar two 17 6 1 a → ⊥
unfolding recognise
makes_up_the_end a n d =
    let s = two_accepted in
    let k = (d.accepts 5).1 s in
    n (k.0, k.1, d.counts (pass 5 s.0) s.1 s.2 s.3 ∙ sym ((demand_2 two_entered).counts (pass 5 s.0) s.1 s.2 s.3))

-- One that invents the step count.
pub invents_steps : (a : Answer) → (a.steps ≡ 17 → ⊥) → Demand2 harbour_grammar two 17 6 1 a → ⊥
invents_steps a n d = makes_up_the_end a (λ h. n h.2) d

-- ## The same of machines

abbrev three_zeros : List ℕ
three_zeros = 0 ∷ 0 ∷ 0 ∷ []

pub never_accepts : (m : Machine)
    → ((image x : List ℕ) (B D R : ℕ) (slots : List ℕ) → (m.says image x B D R slots).answer.kind ≡ 0 → ⊥) → Meets2 m → ⊥
never_accepts m h meets =
    accepts_nothing (m.says harbour one 13 6 1 three_zeros).answer (h harbour one 13 6 1 three_zeros)
    (meets harbour harbour_grammar one 13 6 1 three_zeros one_entered)

pub never_stores : (m : Machine)
    → ((image x : List ℕ) (B D R : ℕ) (slots : List ℕ) → (m.says image x B D R slots).answer.symbols ≡ 0) → Meets3 m → ⊥
never_stores m h meets =
    let k = m.says harbour one 13 6 1 three_zeros in
    stores_nothing k.answer three_zeros k.slots (inl (h harbour one 13 6 1 three_zeros))
    (meets harbour harbour_grammar one 13 6 1 three_zeros one_entered)
