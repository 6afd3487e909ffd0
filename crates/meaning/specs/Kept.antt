-- Demand 3's strike-out: the definitions that remain of a derivation, in the order in which they were made. It goes by the
-- derivation alone and never looks at a state. It is meant for a derivation that passes; what fails is struck out by what it stands in.
use Rattle.std.specs.Prelude.{ℕ, List, [], ◌∷◌, ◌++◌}
use Rattle.grammar.specs.Expr.{Expr}
use Rattle.grammar.specs.Grammar.{Grammar}
use Rattle.meaning.specs.State.{State, Env, others}
use Rattle.meaning.specs.Outcome.{Outcome}
use Rattle.meaning.specs.Cost.{Cost}
use Rattle.meaning.specs.Rules.{Derives, symbol, empty, byte, range, any, text, seq_first, seq_both, choice_first, choice_second, star_stop, star_more, not, call, def_fail, def_pass, match, is_none, is_some, isa_none, isa_some, exists, block, local, if, on}

module _ (g : Grammar) (x : List ℕ) where
  unfoldable pub kept : {v : Env} {e : Expr} {p : ℕ} {σ : State} {o : Outcome} {c : Cost} → Derives g x v e p σ o c → State
  kept empty = []
  kept byte = []
  kept range = []
  kept any = []
  kept text = []
  kept (seq_first D) = []
  kept (seq_both D E) = kept D ++ kept E
  kept (choice_first D) = kept D
  -- A failed alternative is struck out.
  kept (choice_second D E) = kept E
  -- So is a failed last round,
  kept (star_stop D) = []
  kept (star_more D h E) = kept D ++ kept E
  -- a look-ahead,
  kept (not D) = []
  kept (call D) = kept D
  kept (def_fail D) = []
  -- the inside of a name pattern,
  kept (def_pass {t = t} {p = p} {q = q} D) = symbol t p q ∷ []
  kept match = []
  kept (is_none h) = []
  kept (is_some h D) = []
  kept (isa_none h) = []
  kept (isa_some h D) = []
  kept exists = []
  -- a scope's definitions in its own table,
  kept (block {t = t} D) = others t (kept D)
  kept (local {t = t} D) = others t (kept D)
  kept if = []
  -- and the inside of a condition switch.
  kept (on D) = []
