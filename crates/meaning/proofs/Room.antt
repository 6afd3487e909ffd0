-- `room_enough`: a pass holds no more symbols than it began with or its derivation's room says. So within the room R no more than R are
-- ever held.
use Rattle.std.specs.Prelude.{ℕ, suc, ◌+◌, ◌≤◌, max, Bool, true, false, List, [], ◌∷◌, ◌++◌, eqb, length, drop}
use Rattle.std.proofs.Common.{le_trans, arith, length-append, length-drop}
use Rattle.grammar.specs.Expr.{Expr}
use Rattle.grammar.specs.Grammar.{Grammar}
use Rattle.meaning.specs.State.{Symbol, State, Env, others}
use Rattle.meaning.specs.Outcome.{Outcome, pass, fail, begins, pass_if, swap, restored, closed, text as letters, matched, compared}
use Rattle.meaning.specs.Cost.{Cost}
use Rattle.meaning.specs.Room.{AtMost, holds, fails}
use Rattle.meaning.specs.Rules.{Derives, symbol, empty, byte, range, any, text, seq_first, seq_both, choice_first, choice_second, star_stop, star_more, not, call, def_fail, def_pass, match, is_none, is_some, isa_none, isa_some, exists, block, local, if, on}

pub of_pass : {n q : ℕ} {τ : State} → AtMost n (pass q τ) → length τ ≤ n
of_pass (holds h) = h

wider : {n m : ℕ} {o : Outcome} → n ≤ m → AtMost n o → AtMost m o
wider l (holds h) = holds (le_trans h l)
wider l fails = fails

if_most : (t : Bool) {n : ℕ} (q : ℕ) (σ : State) → length σ ≤ n → AtMost n (pass_if t q σ)
unfolding pass_if
if_most true q σ h = holds h
if_most false q σ h = fails

swap_most : {n : ℕ} (p : ℕ) (σ : State) (o : Outcome) → length σ ≤ n → AtMost n (swap p σ o)
unfolding swap
swap_most p σ (pass q τ) h = fails
swap_most p σ fail h = holds h

restored_most : {n : ℕ} (σ : State) (o : Outcome) → length σ ≤ n → AtMost n (restored σ o)
unfolding restored
restored_most σ (pass q τ) h = holds h
restored_most σ fail h = fails

others_fewer : (t : ℕ) (σ : State) → length (others t σ) ≤ length σ
others_fewer t [] = omega arith
others_fewer t (s ∷ σ) = go (eqb s.table t) (others_fewer t σ)
  where
    go :
        (b : Bool) → length (others t σ) ≤ length σ
        → length {A = Symbol} (elim b [ true ↦ others t σ | false ↦ s ∷ others t σ ]) ≤ suc (length σ)
    go true h = omega arith
    go false h = omega arith

closed_most : {n : ℕ} (t : ℕ) (σ : State) {o : Outcome} → length σ ≤ n → AtMost n o → AtMost n (closed t σ o)
unfolding closed
closed_most {n} t σ h (holds {τ = τ} l) = holds fewer
  where
    fewer : length (σ ++ others t (drop (length σ) τ)) ≤ n
    fewer =
        rw (length-append σ (others t (drop (length σ) τ))) (omega (arith, others_fewer t (drop (length σ) τ), length-drop (length σ) τ))
closed_most t σ h fails = fails

matched_most : (x : List ℕ) {n : ℕ} (p : ℕ) (σ l : State) → length σ ≤ n → AtMost n (matched x p σ l)
unfolding matched
matched_most x p σ [] h = fails
matched_most x p σ (s ∷ l) h = if_most (begins (letters x s) (drop p x)) (p + length (letters x s)) σ h

compared_most : (x : List ℕ) {n : ℕ} (p : ℕ) (σ l : State) (o : Outcome) → length σ ≤ n → AtMost n (compared x p σ l o)
unfolding compared
compared_most x p σ l (pass q τ) h = if_most _ q σ h
compared_most x p σ l fail h = fails

module _ (g : Grammar) (x : List ℕ) where
  more : (σ : State) (c : Cost) → length σ ≤ max (length σ) c.room
  more σ c = omega arith

  stored : (σ : State) (s : Symbol) (c : Cost) → length (σ ++ (s ∷ [])) ≤ max (length σ) (max c.room (suc (length σ)))
  stored σ s c = rw (length-append σ (s ∷ [])) (omega arith)

  pub room_enough :
      {v : Env} {e : Expr} {p : ℕ} {σ : State} {o : Outcome} {c : Cost} → Derives g x v e p σ o c → AtMost (max (length σ) c.room) o
  room_enough (empty {σ = σ}) = holds {τ = σ} (omega arith)
  room_enough byte = if_most _ _ _ (omega arith)
  room_enough range = if_most _ _ _ (omega arith)
  room_enough any = if_most _ _ _ (omega arith)
  room_enough text = if_most _ _ _ (omega arith)
  room_enough (seq_first D) = fails
  room_enough (seq_both {c = c} {d = d} D E) = let h = of_pass (room_enough D) in wider (omega arith) (room_enough E)
  room_enough (choice_first D) = room_enough D
  room_enough (choice_second {c = c} {d = d} D E) = wider (omega arith) (room_enough E)
  room_enough (star_stop {σ = σ} {c = c} D) = holds (more σ c)
  room_enough (star_more {c = c} {d = d} D l E) = let h = of_pass (room_enough D) in wider (omega arith) (room_enough E)
  room_enough (not {σ = σ} {c = c} D) = swap_most _ _ _ (more σ c)
  room_enough (call D) = room_enough D
  room_enough (def_fail D) = fails
  room_enough (def_pass {t = t} {p = p} {q = q} {σ = σ} {c = c} D) = holds (stored σ (symbol t p q) c)
  room_enough match = matched_most _ _ _ _ (omega arith)
  room_enough (is_none h) = fails
  room_enough (is_some {σ = σ} {c = c} h D) = compared_most _ _ _ _ _ (more σ c)
  room_enough (isa_none h) = fails
  room_enough (isa_some {σ = σ} {c = c} h D) = compared_most _ _ _ _ _ (more σ c)
  room_enough exists = if_most _ _ _ (omega arith)
  room_enough (block {σ = σ} {c = c} D) = closed_most _ _ (more σ c) (room_enough D)
  room_enough (local {σ = σ} {c = c} D) = closed_most _ _ (more σ c) (room_enough D)
  room_enough if = if_most _ _ _ (omega arith)
  room_enough (on {σ = σ} {c = c} D) = restored_most _ _ (more σ c)
