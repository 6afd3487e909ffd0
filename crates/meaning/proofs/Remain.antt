-- `remain`: a pass ends with the state that it began with and then the definitions that remain of its derivation.
use Rattle.std.specs.Prelude.{ℕ, ◌+◌, ◌-◌, ◌≡◌, Bool, take, drop}
use Rattle.std.proofs.Math.Path.{refl}
use Rattle.std.proofs.Common.{ap, ◌∙◌, sym}
use Rattle.std.proofs.Math.Bool.{true, false}
use mathlib.Core.List.{List, [], ◌∷◌, ◌++◌, append_assoc, append-nil}
use Rattle.std.proofs.Math.ListN.{length}
use Rattle.std.proofs.Math.Seq.{drop-append_seam}
use Rattle.grammar.specs.Expr.{Expr}
use Rattle.grammar.specs.Grammar.{Grammar}
use Rattle.meaning.specs.State.{State, Env, others}
use Rattle.meaning.specs.Outcome.{Outcome, pass, fail, begins, pass_if, swap, restored, closed, text as letters, matched, among, compared}
use Rattle.meaning.specs.Cost.{Cost}
use Rattle.meaning.specs.Rules.{Derives, empty, byte, range, any, text, seq_first, seq_both, choice_first, choice_second, star_stop, star_more, not, call, def_fail, def_pass, match, is_none, is_some, isa_none, isa_some, exists, block, local, if, on}
use Rattle.meaning.specs.Kept.{kept}
use Rattle.meaning.specs.Remain.{Ends, held, failed}

module _ (g : Grammar) (x : List ℕ) where
  pub ends_eq : {σ l τ : State} {q : ℕ} → Ends g x σ l (pass q τ) → τ ≡ σ ++ l
  ends_eq (held e) = e

  ends_if : (t : Bool) (q : ℕ) (σ : State) → Ends g x σ [] (pass_if t q σ)
  unfolding pass_if
  ends_if true q σ = held (sym (append-nil σ))
  ends_if false q σ = failed

  closing : (t : ℕ) (σ τ l : State) → τ ≡ σ ++ l → σ ++ others t (drop (length σ) τ) ≡ σ ++ others t l
  closing t σ τ l e = rw (e, drop-append_seam)

  ends_closed : {σ l : State} {o : Outcome} (t : ℕ) → Ends g x σ l o → Ends g x σ (others t l) (closed t σ o)
  unfolding closed
  ends_closed {σ} {l} t (held {τ = τ} e) = held (closing t σ τ l e)
  ends_closed t failed = failed

  ends_both : {σ τ l m : State} {o : Outcome} {q : ℕ} → Ends g x σ l (pass q τ) → Ends g x τ m o → Ends g x σ (l ++ m) o
  ends_both {σ} {τ} {l} {m} h (held e) = held (e ∙ ap (λ k. k ++ m) (ends_eq h) ∙ append_assoc σ l m)
  ends_both h failed = failed

  ends_matched : (p : ℕ) (σ l : State) → Ends g x σ [] (matched x p σ l)
  unfolding matched
  ends_matched p σ [] = failed
  ends_matched p σ (s ∷ l) = ends_if (begins (letters x s) (drop p x)) (p + length (letters x s)) σ

  ends_compared : (p : ℕ) (σ l : State) (o : Outcome) → Ends g x σ [] (compared x p σ l o)
  unfolding compared
  ends_compared p σ l (pass q τ) = ends_if (among x (take (q - p) (drop p x)) l) q σ
  ends_compared p σ l fail = failed

  ends_swap : (p : ℕ) (σ : State) (o : Outcome) → Ends g x σ [] (swap p σ o)
  unfolding swap
  ends_swap p σ (pass q τ) = failed
  ends_swap p σ fail = held (sym (append-nil σ))

  ends_restored : (σ : State) (o : Outcome) → Ends g x σ [] (restored σ o)
  unfolding restored
  ends_restored σ (pass q τ) = held (sym (append-nil σ))
  ends_restored σ fail = failed

  pub remain : {v : Env} {e : Expr} {p : ℕ} {σ : State} {o : Outcome} {c : Cost} (D : Derives g x v e p σ o c) → Ends g x σ (kept g x D) o
  unfolding kept
  remain {σ = σ} empty = held (sym (append-nil σ))
  remain byte = ends_if _ _ _
  remain range = ends_if _ _ _
  remain any = ends_if _ _ _
  remain text = ends_if _ _ _
  remain (seq_first D) = failed
  remain (seq_both D E) = ends_both (remain D) (remain E)
  remain (choice_first D) = remain D
  remain (choice_second D E) = remain E
  remain (star_stop {σ = σ} D) = held (sym (append-nil σ))
  remain (star_more D h E) = ends_both (remain D) (remain E)
  remain (not D) = ends_swap _ _ _
  remain (call D) = remain D
  remain (def_fail D) = failed
  remain (def_pass D) = held refl
  remain match = ends_matched _ _ _
  remain (is_none h) = failed
  remain (is_some h D) = ends_compared _ _ _ _
  remain (isa_none h) = failed
  remain (isa_some h D) = ends_compared _ _ _ _
  remain exists = ends_if _ _ _
  remain (block D) = ends_closed _ (remain D)
  remain (local D) = ends_closed _ (remain D)
  remain if = ends_if _ _ _
  remain (on D) = ends_restored _ _
