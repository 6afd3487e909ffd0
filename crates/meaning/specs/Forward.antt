-- `forward`: a pass ends between its start and the end of the input.
use Rattle.std.specs.Prelude.{ℕ, suc, ◌+◌, ◌≤◌, ◌≡◌, refl, Bool, true, false, eqb, length, take, drop}
use Rattle.std.proofs.Common.{ap, le_refl, le_trans, arith, length-take, length-drop}
use mathlib.Core.List.{List, [], ◌∷◌}
use Rattle.grammar.specs.Expr.{Expr}
use Rattle.grammar.specs.Grammar.{Grammar}
use Rattle.meaning.specs.State.{State, Env}
use Rattle.meaning.specs.Outcome.{Outcome, pass, fail, ◌and◌, same, begins, some, in_range, pass_if, swap, restored, closed, text as letters, matched, compared}
use Rattle.meaning.specs.Cost.{Cost}
use Rattle.meaning.specs.Rules.{Derives, empty, byte, range, any, text, seq_first, seq_both, choice_first, choice_second, star_stop, star_more, not, call, def_fail, def_pass, match, is_none, is_some, isa_none, isa_some, exists, block, local, if, on}

pub same_length : (a b : List ℕ) → same a b ≡ true → length a ≡ length b
same_length [] [] e = refl
same_length [] (b ∷ bs) e = let z : ◌≡◌ {A = ℕ} 0 1 = cc in absurd (omega arith)
same_length (a ∷ aa) [] e = let z : ◌≡◌ {A = ℕ} 0 1 = cc in absurd (omega arith)
same_length (a ∷ aa) (b ∷ bs) e = ap suc (same_length aa bs (right (eqb a b) (same aa bs) e))
  where
    right : (s t : Bool) → (s and t) ≡ true → t ≡ true
    right true t e = e
    right false t e = let z : ◌≡◌ {A = ℕ} 0 1 = cc in absurd (omega arith)

pub begins_fits : (bs y : List ℕ) → begins bs y ≡ true → length bs ≤ length y
begins_fits bs y e =
    let h : length (take (length bs) y) ≡ length bs = same_length (take (length bs) y) bs e in omega (arith, simp length-take at h)

pub one_fits : (y : List ℕ) → some y ≡ true → 1 ≤ length y
one_fits [] e = let z : ◌≡◌ {A = ℕ} 0 1 = cc in absurd (omega arith)
one_fits (b ∷ y) e = omega arith

pub range_fits : (lo hi : ℕ) (y : List ℕ) → in_range lo hi y ≡ true → 1 ≤ length y
range_fits lo hi [] e = let z : ◌≡◌ {A = ℕ} 0 1 = cc in absurd (omega arith)
range_fits lo hi (b ∷ y) e = omega arith

pub data Ahead (p n : ℕ) : Outcome → Type 0 where
  ahead : {q : ℕ} {τ : State} → p ≤ q → q ≤ n → Ahead p n (pass q τ)
  stuck : Ahead p n fail

ahead_if : {p n : ℕ} (q : ℕ) (σ : State) (t : Bool) → (t ≡ true → (p ≤ q) × (q ≤ n)) → Ahead p n (pass_if t q σ)
unfolding pass_if
ahead_if q σ true h = ahead (h refl).0 (h refl).1
ahead_if q σ false h = stuck

pub ahead_pass : {p n q : ℕ} {τ : State} → Ahead p n (pass q τ) → (p ≤ q) × (q ≤ n)
ahead_pass (ahead h k) = (h, k)

ahead_from : {p q n : ℕ} {τ : State} {o : Outcome} → Ahead p n (pass q τ) → Ahead q n o → Ahead p n o
ahead_from h (ahead i j) = ahead (le_trans (ahead_pass h).0 i) j
ahead_from h stuck = stuck

ahead_swap : {p n : ℕ} (σ : State) (o : Outcome) → p ≤ n → Ahead p n (swap p σ o)
unfolding swap
ahead_swap σ (pass q τ) h = stuck
ahead_swap σ fail h = ahead (le_refl _) h

ahead_closed : {p n : ℕ} {o : Outcome} (t : ℕ) (σ : State) → Ahead p n o → Ahead p n (closed t σ o)
unfolding closed
ahead_closed t σ (ahead h k) = ahead h k
ahead_closed t σ stuck = stuck

ahead_restored : {p n : ℕ} {o : Outcome} (σ : State) → Ahead p n o → Ahead p n (restored σ o)
unfolding restored
ahead_restored σ (ahead h k) = ahead h k
ahead_restored σ stuck = stuck

module _ (g : Grammar) (x : List ℕ) where
  fits : (p k : ℕ) → p ≤ length x → k ≤ length (drop p x) → (p ≤ p + k) × (p + k ≤ length x)
  fits p k h l = let l' = simp length-drop at l in omega arith

  ahead_matched : (p : ℕ) (σ l : State) → p ≤ length x → Ahead p (length x) (matched x p σ l)
  unfolding matched
  ahead_matched p σ [] h = stuck
  ahead_matched p σ (s ∷ l) h = ahead_if _ _ _ (λ e. fits p (length (letters x s)) h (begins_fits (letters x s) (drop p x) e))

  ahead_compared : {p n : ℕ} {o : Outcome} (σ l : State) → Ahead p n o → Ahead p n (compared x p σ l o)
  unfolding compared
  ahead_compared σ l (ahead h k) = ahead_if _ _ _ (λ e. (h, k))
  ahead_compared σ l stuck = stuck

  pub forward :
      {v : Env} {e : Expr} {p : ℕ} {σ : State} {o : Outcome} {c : Cost} → Derives g x v e p σ o c → p ≤ length x → Ahead p (length x) o
  forward empty h = ahead (le_refl _) h
  forward (byte {b = b} {p = p}) h = ahead_if _ _ _ (λ e. fits p 1 h (begins_fits (b ∷ []) (drop p x) e))
  forward (range {lo = lo} {hi = hi} {p = p}) h = ahead_if _ _ _ (λ e. fits p 1 h (range_fits lo hi (drop p x) e))
  forward (any {p = p}) h = ahead_if _ _ _ (λ e. fits p 1 h (one_fits (drop p x) e))
  forward (text {bytes = bs} {p = p}) h = ahead_if _ _ _ (λ e. fits p (length bs) h (begins_fits bs (drop p x) e))
  forward (seq_first D) h = stuck
  forward (seq_both D E) h = let i = forward D h in ahead_from i (forward E (ahead_pass i).1)
  forward (choice_first D) h = forward D h
  forward (choice_second D E) h = forward E h
  forward (star_stop D) h = ahead (le_refl _) h
  forward (star_more D l E) h = let i = forward D h in ahead_from i (forward E (ahead_pass i).1)
  forward (not D) h = ahead_swap _ _ h
  forward (call D) h = forward D h
  forward (def_fail D) h = stuck
  forward (def_pass D) h = let i = ahead_pass (forward D h) in ahead i.0 i.1
  forward match h = ahead_matched _ _ _ h
  forward (is_none e) h = stuck
  forward (is_some e D) h = ahead_compared _ _ (forward D h)
  forward (isa_none e) h = stuck
  forward (isa_some e D) h = ahead_compared _ _ (forward D h)
  forward exists h = ahead_if _ _ _ (λ e. (le_refl _, h))
  forward (block D) h = ahead_closed _ _ (forward D h)
  forward (local D) h = ahead_closed _ _ (forward D h)
  forward if h = ahead_if _ _ _ (λ e. (le_refl _, h))
  forward (on D) h = ahead_restored _ (forward D h)
