-- The steps of a derivation, and of a run that is cut short, counted on themselves: one for each expression entered, and one for
-- each later round of a Star. A refused entry is not charged. They know nothing of costs.
use Rattle.std.specs.Prelude.{ℕ, suc, ◌+◌, List}
use Rattle.grammar.specs.Expr.{Expr}
use Rattle.grammar.specs.Grammar.{Grammar}
use Rattle.meaning.specs.State.{State, Env}
use Rattle.meaning.specs.Outcome.{Outcome}
use Rattle.meaning.specs.Cost.{Cost}
use Rattle.meaning.specs.Rules.{Derives, empty, byte, range, any, text, seq_first, seq_both, choice_first, choice_second, star_stop, star_more, not, call, def_fail, def_pass, match, is_none, is_some, isa_none, isa_some, exists, block, local, if, on}
use Rattle.meaning.specs.Cut.{Cut, no_steps, no_depth, no_room, empty_round, cut_first, cut_second, cut_alternative, cut_other, cut_round, cut_later, cut_not, cut_call, cut_def, cut_is, cut_isa, cut_block, cut_local, cut_on}

module _ (g : Grammar) (x : List ℕ) where
  unfoldable pub used : {v : Env} {e : Expr} {p : ℕ} {σ : State} {o : Outcome} {c : Cost} → Derives g x v e p σ o c → ℕ
  used empty = 1
  used byte = 1
  used range = 1
  used any = 1
  used text = 1
  used (seq_first D) = suc (used D)
  used (seq_both D E) = suc (used D + used E)
  used (choice_first D) = suc (used D)
  used (choice_second D E) = suc (used D + used E)
  used (star_stop D) = suc (used D)
  used (star_more D h E) = suc (used D + used E)
  used (not D) = suc (used D)
  used (call D) = suc (used D)
  used (def_fail D) = suc (used D)
  used (def_pass D) = suc (used D)
  used match = 1
  used (is_none h) = 1
  used (is_some h D) = suc (used D)
  used (isa_none h) = 1
  used (isa_some h D) = suc (used D)
  used exists = 1
  used (block D) = suc (used D)
  used (local D) = suc (used D)
  used if = 1
  used (on D) = suc (used D)

  -- Of a run that is cut short: what was entered before it was refused.
  unfoldable pub spent : {r d b : ℕ} {v : Env} {e : Expr} {p : ℕ} {σ : State} {n s : ℕ} {c : Cost} → Cut g x r d b v e p σ n s c → ℕ
  spent no_steps = 0
  spent no_depth = 0
  spent (no_room D w h) = suc (used D)
  spent (empty_round D w h) = suc (used D)
  spent (cut_first K) = suc (spent K)
  spent (cut_second D w K) = suc (used D + spent K)
  spent (cut_alternative K) = suc (spent K)
  spent (cut_other D w K) = suc (used D + spent K)
  spent (cut_round K) = suc (spent K)
  spent (cut_later D w h K) = suc (used D + spent K)
  spent (cut_not K) = suc (spent K)
  spent (cut_call K) = suc (spent K)
  spent (cut_def K) = suc (spent K)
  spent (cut_is h K) = suc (spent K)
  spent (cut_isa h K) = suc (spent K)
  spent (cut_block K) = suc (spent K)
  spent (cut_local K) = suc (spent K)
  spent (cut_on K) = suc (spent K)
