-- Runs that are cut short: one rule for each way in which a rule of Rules.antt is stopped. 01, "Steps, depth, room" and refusals 12 to 15.
use Rattle.std.specs.Prelude.{ℕ, suc, ◌-◌, ◌≤◌, ◌<◌, ◌≡◌, Bool, true, List, length}
use Rattle.grammar.specs.Expr.{Expr, Sequence, Choice, Star, Not, Call, Def, Is, Isa, Block, Local, On}
use Rattle.grammar.specs.Grammar.{Grammar, node}
use Rattle.meaning.specs.State.{State, Env, visible, hide, switch}
use Rattle.meaning.specs.Outcome.{pass, fail, some}
use Rattle.meaning.specs.Cost.{Cost, nothing, enter, ◌⊕◌}
use Rattle.meaning.specs.Rules.{Derives, named}
use Rattle.meaning.specs.Limits.{Within}

module _ (g : Grammar) (x : List ℕ) (r : ℕ) where
  -- `Cut d b v e p σ n s c`: with depth d and b steps left and room r, the run of e from p and σ is refused with number n at place s,
  -- when c has been charged. "Where a step inside refuses, the whole call refuses at once."
  pub data Cut : (d b : ℕ) → Env → Expr → (p : ℕ) → State → (number place : ℕ) → Cost → Type 0 where
    -- "On entry the step limit is looked at first, then the depth limit; a refused entry is not charged." A later round of a Star
    -- looks at the step limit too, and is stopped by the first of these.
    no_steps : {d : ℕ} {v : Env} {e : Expr} {p : ℕ} {σ : State} → Cut d 0 v e p σ 12 p nothing
    no_depth : {b : ℕ} {v : Env} {e : Expr} {p : ℕ} {σ : State} → Cut 0 (suc b) v e p σ 13 p nothing
    -- "Room is looked at when a symbol would be stored, after its pattern's own were dropped."
    no_room : {d b : ℕ} {v : Env} {t p q : ℕ} {σ τ : State} {c : Cost}
        → Derives g x v (named g t) p σ (pass q τ) c → Within c d b r → r ≤ length σ → Cut (suc d) (suc b) v (Def t) p σ 14 p (enter c)
    -- "A round that passes and consumes nothing is refused": it ends where it began (that it never ends before is `forward`).
    empty_round : {d b : ℕ} {v : Env} {a p q : ℕ} {σ τ : State} {c : Cost}
        → Derives g x v (node g a) p σ (pass q τ) c → Within c d b r → q ≤ p → Cut (suc d) (suc b) v (Star a) p σ 15 p (enter c)
    -- A premise that is stopped, after premises that came to their ends.
    cut_first : {d b : ℕ} {v : Env} {i j p : ℕ} {σ : State} {n s : ℕ} {c : Cost}
        → Cut d b v (node g i) p σ n s c → Cut (suc d) (suc b) v (Sequence i j) p σ n s (enter c)
    cut_second : {d b : ℕ} {v : Env} {i j p q : ℕ} {σ τ : State} {n s : ℕ} {c e : Cost}
        → Derives g x v (node g i) p σ (pass q τ) c → Within c d b r → Cut d (b - c.steps) v (node g j) q τ n s e
        → Cut (suc d) (suc b) v (Sequence i j) p σ n s (enter (c ⊕ e))
    cut_alternative : {d b : ℕ} {v : Env} {i j p : ℕ} {σ : State} {n s : ℕ} {c : Cost}
        → Cut d b v (node g i) p σ n s c → Cut (suc d) (suc b) v (Choice i j) p σ n s (enter c)
    cut_other : {d b : ℕ} {v : Env} {i j p : ℕ} {σ : State} {n s : ℕ} {c e : Cost}
        → Derives g x v (node g i) p σ fail c → Within c d b r → Cut d (b - c.steps) v (node g j) p σ n s e
        → Cut (suc d) (suc b) v (Choice i j) p σ n s (enter (c ⊕ e))
    cut_round : {d b : ℕ} {v : Env} {a p : ℕ} {σ : State} {n s : ℕ} {c : Cost}
        → Cut d b v (node g a) p σ n s c → Cut (suc d) (suc b) v (Star a) p σ n s (enter c)
    cut_later : {d b : ℕ} {v : Env} {a p q : ℕ} {σ τ : State} {n s : ℕ} {c e : Cost}
        → Derives g x v (node g a) p σ (pass q τ) c → Within c d b r → p < q → Cut (suc d) (b - c.steps) v (Star a) q τ n s e
        → Cut (suc d) (suc b) v (Star a) p σ n s (enter c ⊕ e)
    cut_not : {d b : ℕ} {v : Env} {a p : ℕ} {σ : State} {n s : ℕ} {c : Cost}
        → Cut d b v (node g a) p σ n s c → Cut (suc d) (suc b) v (Not a) p σ n s (enter c)
    cut_call : {d b : ℕ} {v : Env} {a p : ℕ} {σ : State} {n s : ℕ} {c : Cost}
        → Cut d b v (node g a) p σ n s c → Cut (suc d) (suc b) v (Call a) p σ n s (enter c)
    cut_def : {d b : ℕ} {v : Env} {t p : ℕ} {σ : State} {n s : ℕ} {c : Cost}
        → Cut d b v (named g t) p σ n s c → Cut (suc d) (suc b) v (Def t) p σ n s (enter c)
    cut_is : {d b : ℕ} {v : Env} {t p : ℕ} {σ : State} {n s : ℕ} {c : Cost}
        → some (visible v t σ) ≡ true → Cut d b v (named g t) p σ n s c → Cut (suc d) (suc b) v (Is t) p σ n s (enter c)
    cut_isa : {d b : ℕ} {v : Env} {t p : ℕ} {σ : State} {n s : ℕ} {c : Cost}
        → some (visible v t σ) ≡ true → Cut d b v (named g t) p σ n s c → Cut (suc d) (suc b) v (Isa t) p σ n s (enter c)
    cut_block : {d b : ℕ} {v : Env} {t a p : ℕ} {σ : State} {n s : ℕ} {c : Cost}
        → Cut d b v (node g a) p σ n s c → Cut (suc d) (suc b) v (Block t a) p σ n s (enter c)
    cut_local : {d b : ℕ} {v : Env} {t a p : ℕ} {σ : State} {n s : ℕ} {c : Cost}
        → Cut d b (hide v t σ) (node g a) p σ n s c → Cut (suc d) (suc b) v (Local t a) p σ n s (enter c)
    cut_on : {d b : ℕ} {v : Env} {k a p : ℕ} {w : Bool} {σ : State} {n s : ℕ} {c : Cost}
        → Cut d b (switch v k w) (node g a) p σ n s c → Cut (suc d) (suc b) v (On k w a) p σ n s (enter c)
