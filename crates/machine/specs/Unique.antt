-- Two outcomes that a promise permits are equal. A function that gives an outcome in one number promises what that number opens to: the
-- outcome is fixed, though more than one number opens to it.
use Rattle.std.specs.Prelude.{ℕ, ◌≡◌, List, Option, length}
use Rattle.std.proofs.Common.{ap, sym, ◌∙◌, arith}
use Rattle.meaning.specs.State.{Symbol, Env}
use Rattle.parts.specs.declared.outcome.Outcome.{Outcome}
use Rattle.parts.specs.declared.outcome.Outcome.TheVariants.{Passed, Failed, Refused}
use Rattle.kinds.specs.declared.state.State.{State}
use Rattle.parts.specs.declared.outcome.Packed.{Packed}
use Rattle.parts.specs.Packed.{opened_of}
use Rattle.parts.specs.PackedLaws.{number_once}
use Rattle.parts.specs.declared.slots.Symbol as held
use Rattle.parts.specs.Slots.{meant, symbols}
use Rattle.parts.specs.SlotsLaws.{symbols_length, closes_once}
use Rattle.kinds.specs.Held.{env_of}
use Rattle.kinds.specs.Turned.{ClosedOf}
use Rattle.machine.specs.Told.{Told}
use Rattle.machine.specs.Ready.{read_back, Done}

-- `Packed::at`, `held`, `steps`, `depth`, and `Stop::number`: each promises its number.
pub one_number : (r r' : ℕ) {n : ℕ} → r ≡ n → r' ≡ n → r ≡ r'
one_number r r' e f = e ∙ sym f

-- `latest`: it promises the symbol's number, or that there is none.
pub one_latest : (r r' : Option ℕ) {n : Option ℕ} → r ≡ n → r' ≡ n → r ≡ r'
one_latest r r' e f = e ∙ sym f

-- `symbol_at`: what it gives stands for the symbol of a number, and has nothing else.
pub one_symbol : (s s' : held.Symbol) {m : Symbol} → meant s ≡ m → meant s' ≡ m → s ≡ s'
one_symbol s s' e f =
    let g = e ∙ sym f in λ i. record { table = (g i).table; start = (g i).from; end = (g i).to }

-- `store`, and `fill` and `copy_from_slice` of std: each promises the whole list.
pub one_list : (l l' : List ℕ) {m : List ℕ} → l ≡ m → l' ≡ m → l ≡ l'
one_list l l' e f = e ∙ sym f

-- `Packed::passed`, `failed`, `refused`, `stopped`, `onward`, and `given`, `again`, `negated`, `restored`, `is_latest`, `is_some`: each promises
-- `opened_of q ≡ o`.
pub one_opened : (q q' : Packed) {o : Outcome} → opened_of q ≡ o → opened_of q' ≡ o → opened_of q ≡ opened_of q'
one_opened q q' e f = e ∙ sym f

-- `defined`: the outcome and the slots.
pub one_defined : (q q' : Packed) {o : Outcome} {end after after' : List ℕ} → (opened_of q ≡ o) × (after ≡ end) → (opened_of q' ≡ o) × (after' ≡ end)
    → (opened_of q ≡ opened_of q') × (after ≡ after')
one_defined q q' h h' = (h.0 ∙ sym h'.0, h.1 ∙ sym h'.1)

-- `closed`: the outcome and the slots.
pub one_closed : (table held : ℕ) (o : Outcome) (before after after' : List ℕ) (p p' : Outcome) → ClosedOf table held o before after p
    → ClosedOf table held o before after' p' → (p ≡ p') × (after ≡ after')
one_closed table held (Passed a h s d) before after after' q q' w w' =
    let e = closes_once w.2 w'.2 in (w.1 ∙ ap (λ k. Passed a k s d) e.0 ∙ sym w'.1, e.1)
one_closed table held (Failed s d) before after after' q q' w w' = (w.0 ∙ sym w'.0, w.1 ∙ sym w'.1)
one_closed table held (Refused n p s d) before after after' q q' w w' = (w.0 ∙ sym w'.0, w.1 ∙ sym w'.1)

-- `State::with_truth`, `State::with_floor`: the environment is the whole of the state.
pub one_state : (s s' : State) {v : Env} → env_of s ≡ v → env_of s' ≡ v → s ≡ s'
one_state s s' e f =
    let g = e ∙ sym f in λ i. record { truths = (g i).truths; floors = (g i).floors }

-- `Machine::eval`, `inside`, `sequence`, `choice`, `star`: the outcome, and the symbols that it holds. What lies in the slots above those is left open, since
-- nothing ever looks there before it is written.
pub one_outcome : {held : ℕ} {before after after' : List ℕ} {r r' : Packed} {T : Told} → Done held before after r T → Done held before after' r' T
    → (opened_of r ≡ opened_of r') × (read_back (opened_of r) after ≡ read_back (opened_of r) after')
one_outcome {after = after} {after' = after'} {r = r} {r' = r'} h h' =
    let e = same (opened_of r) (opened_of r') (h.says ∙ sym h'.says) in
    (e, h.says ∙ sym h'.says ∙ ap (λ o. read_back o after') (sym e))
  where
    same : (o o' : Outcome) → read_back o after ≡ read_back o' after' → o ≡ o'
    same (Passed a k s d) (Passed a' k' s' d') e =
        let q : symbols k after ≡ symbols k' after' = cc in
        let i : a ≡ a' = cc in
        let j : k ≡ k' = sym (symbols_length k after) ∙ ap length q ∙ symbols_length k' after' in
        let l : s ≡ s' = cc in
        let m : d ≡ d' = cc in λ n. Passed (i n) (j n) (l n) (m n)
    same (Passed a k s d) (Failed s' d') e = let z : ◌≡◌ {A = ℕ} 0 1 = cc in absurd (omega arith)
    same (Passed a k s d) (Refused n p s' d') e = let z : ◌≡◌ {A = ℕ} 0 1 = cc in absurd (omega arith)
    same (Failed s d) (Passed a' k' s' d') e = let z : ◌≡◌ {A = ℕ} 0 1 = cc in absurd (omega arith)
    same (Failed s d) (Failed s' d') e = let l : s ≡ s' = cc in let m : d ≡ d' = cc in λ n. Failed (l n) (m n)
    same (Failed s d) (Refused n p s' d') e = let z : ◌≡◌ {A = ℕ} 0 1 = cc in absurd (omega arith)
    same (Refused n p s d) (Passed a' k' s' d') e = let z : ◌≡◌ {A = ℕ} 0 1 = cc in absurd (omega arith)
    same (Refused n p s d) (Failed s' d') e = let z : ◌≡◌ {A = ℕ} 0 1 = cc in absurd (omega arith)
    same (Refused n p s d) (Refused n' p' s' d') e =
        let i : n ≡ n' = number_once n n' cc in let j : p ≡ p' = cc in let l : s ≡ s' = cc in let m : d ≡ d' = cc in λ k. Refused (i k) (j k) (l k) (m k)
