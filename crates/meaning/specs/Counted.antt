-- `counted`: the steps of a derivation's cost are its own steps, counted by a function that knows nothing of costs.
use Prim.Native.Nat.{ℕ, suc}
use Rattle.std.specs.Prelude.{◌≡◌, List}
use Rattle.std.proofs.Math.Path.{refl, ap}
use Rattle.std.proofs.Common.{arith}
use Rattle.grammar.specs.Expr.{Expr}
use Rattle.grammar.specs.Grammar.{Grammar}
use Rattle.meaning.specs.State.{State, Env}
use Rattle.meaning.specs.Outcome.{Outcome}
use Rattle.meaning.specs.Cost.{Cost}
use Rattle.meaning.specs.Rules.{Derives, empty, byte, range, any, text, seq_first, seq_both, choice_first, choice_second, star_stop, star_more, not, call, def_fail, def_pass, match, is_none, is_some, isa_none, isa_some, exists, block, local, if, on}
use Rattle.meaning.specs.Steps.{used}

module _ (g : Grammar) (x : List ℕ) where
  pub counted : {v : Env} {e : Expr} {p : ℕ} {σ : State} {o : Outcome} {c : Cost} (D : Derives g x v e p σ o c) → used g x D ≡ c.steps
  unfolding used
  counted empty = refl
  counted byte = refl
  counted range = refl
  counted any = refl
  counted text = refl
  counted (seq_first D) = ap suc (counted D)
  counted (seq_both D E) = omega (arith, counted D, counted E)
  counted (choice_first D) = ap suc (counted D)
  counted (choice_second D E) = omega (arith, counted D, counted E)
  counted (star_stop D) = ap suc (counted D)
  counted (star_more D h E) = omega (arith, counted D, counted E)
  counted (not D) = ap suc (counted D)
  counted (call D) = ap suc (counted D)
  counted (def_fail D) = ap suc (counted D)
  counted (def_pass D) = omega (arith, counted D)
  counted match = refl
  counted (is_none h) = refl
  counted (is_some h D) = ap suc (counted D)
  counted (isa_none h) = refl
  counted (isa_some h D) = ap suc (counted D)
  counted exists = refl
  counted (block D) = ap suc (counted D)
  counted (local D) = ap suc (counted D)
  counted if = refl
  counted (on D) = ap suc (counted D)
