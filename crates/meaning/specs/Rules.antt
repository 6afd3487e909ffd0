-- The rules. 01, "Meaning" and "Steps, depth, room": Figure 3 of document 004 as 01 reads it, with Ford's rules of failure. There is no
-- limit in them.
use Rattle.std.specs.Prelude.{ℕ, ◌+◌, ◌<◌, ◌≡◌, Bool, true, false, List, [], ◌∷◌, ◌++◌, length, take, drop, get_or}
use Rattle.grammar.specs.Expr.{Expr, Empty, Byte, Range, Any, Text, Sequence, Choice, Star, Not, Call, Def, Match, Is, Isa, Exists, Block, Local, If, On}
use Rattle.grammar.specs.Grammar.{Grammar, node, pattern}
use Rattle.meaning.specs.State.{Symbol, State, Env, visible, hide, switch}
use Rattle.meaning.specs.Outcome.{Outcome, pass, fail, begins, some, in_range, agree, pass_if, swap, restored, closed, matched, compared}
use Rattle.meaning.specs.Cost.{Cost, nothing, enter, ◌⊕◌, holding}

-- The node that is a table's pattern.
abbrev pub named : Grammar → ℕ → Expr
named g t = node g (pattern g t)

-- The symbol that a Def of table t stores.
abbrev pub symbol : (t from to : ℕ) → Symbol
symbol t from to = record { table = t; from = from; to = to }

module _ (g : Grammar) (x : List ℕ) where
  -- `Derives v e p σ o c`: under v, from place p and state σ, the expression e comes to the outcome o at the cost c.
  pub data Derives : Env → Expr → ℕ → State → Outcome → Cost → Type 0 where
    empty : {v : Env} {p : ℕ} {σ : State} → Derives v Empty p σ (pass p σ) (enter nothing)
    byte : {v : Env} {b p : ℕ} {σ : State} → Derives v (Byte b) p σ (pass_if (begins (b ∷ []) (drop p x)) (p + 1) σ) (enter nothing)
    range :
        {v : Env} {lo hi p : ℕ} {σ : State} → Derives v (Range lo hi) p σ (pass_if (in_range lo hi (drop p x)) (p + 1) σ) (enter nothing)
    any : {v : Env} {p : ℕ} {σ : State} → Derives v Any p σ (pass_if (some (drop p x)) (p + 1) σ) (enter nothing)
    text :
        {v : Env} {bytes : List ℕ} {p : ℕ} {σ : State}
        → Derives v (Text bytes) p σ (pass_if (begins bytes (drop p x)) (p + length bytes) σ) (enter nothing)
    -- Sequence: a, then b from where a came to.
    seq_first : {v : Env} {a b p : ℕ} {σ : State} {c : Cost}
        → Derives v (node g a) p σ fail c → Derives v (Sequence a b) p σ fail (enter c)
    seq_both : {v : Env} {a b p q : ℕ} {σ τ : State} {o : Outcome} {c d : Cost}
        → Derives v (node g a) p σ (pass q τ) c → Derives v (node g b) q τ o d → Derives v (Sequence a b) p σ o (enter (c ⊕ d))
    -- Choice: a; or, where a fails, b from the same place and state. "A failed first alternative counts too".
    choice_first : {v : Env} {a b p q : ℕ} {σ τ : State} {c : Cost}
        → Derives v (node g a) p σ (pass q τ) c → Derives v (Choice a b) p σ (pass q τ) (enter c)
    choice_second : {v : Env} {a b p : ℕ} {σ : State} {o : Outcome} {c d : Cost}
        → Derives v (node g a) p σ fail c → Derives v (node g b) p σ o d → Derives v (Choice a b) p σ o (enter (c ⊕ d))
    -- Star: "runs its body until it fails, and keeps the rounds that passed", each having consumed something. "Star costs 1 for
    -- each round tried (the first is its entry), the failing round included"; "a round adds no depth".
    star_stop : {v : Env} {a p : ℕ} {σ : State} {c : Cost}
        → Derives v (node g a) p σ fail c → Derives v (Star a) p σ (pass p σ) (enter c)
    star_more : {v : Env} {a p q : ℕ} {σ τ : State} {o : Outcome} {c d : Cost}
        → Derives v (node g a) p σ (pass q τ) c → p < q → Derives v (Star a) q τ o d → Derives v (Star a) p σ o (enter c ⊕ d)
    not : {v : Env} {a p : ℕ} {σ : State} {o : Outcome} {c : Cost}
        → Derives v (node g a) p σ o c → Derives v (Not a) p σ (swap p σ o) (enter c)
    call : {v : Env} {a p : ℕ} {σ : State} {o : Outcome} {c : Cost}
        → Derives v (node g a) p σ o c → Derives v (Call a) p σ o (enter c)
    -- Def: "runs the table's pattern, drops what the pattern itself stored, then stores the consumed bytes".
    def_fail : {v : Env} {t p : ℕ} {σ : State} {c : Cost}
        → Derives v (named g t) p σ fail c → Derives v (Def t) p σ fail (enter c)
    def_pass : {v : Env} {t p q : ℕ} {σ τ : State} {c : Cost}
        → Derives v (named g t) p σ (pass q τ) c → Derives v (Def t) p σ (pass q (σ ++ (symbol t p q ∷ []))) (enter (c ⊕ holding σ))
    match : {v : Env} {t p : ℕ} {σ : State} → Derives v (Match t) p σ (matched x p σ (visible v t σ)) (enter nothing)
    -- Is: "fails on an empty list without running the pattern"; else with the latest symbol, and Isa with some symbol.
    is_none : {v : Env} {t p : ℕ} {σ : State}
        → some (visible v t σ) ≡ false → Derives v (Is t) p σ fail (enter nothing)
    is_some : {v : Env} {t p : ℕ} {σ : State} {o : Outcome} {c : Cost}
        → some (visible v t σ) ≡ true → Derives v (named g t) p σ o c
        → Derives v (Is t) p σ (compared x p σ (take 1 (visible v t σ)) o) (enter c)
    isa_none : {v : Env} {t p : ℕ} {σ : State}
        → some (visible v t σ) ≡ false → Derives v (Isa t) p σ fail (enter nothing)
    isa_some : {v : Env} {t p : ℕ} {σ : State} {o : Outcome} {c : Cost}
        → some (visible v t σ) ≡ true → Derives v (named g t) p σ o c
        → Derives v (Isa t) p σ (compared x p σ (visible v t σ) o) (enter c)
    exists : {v : Env} {t p : ℕ} {σ : State} → Derives v (Exists t) p σ (pass_if (some (visible v t σ)) p σ) (enter nothing)
    block : {v : Env} {t a p : ℕ} {σ : State} {o : Outcome} {c : Cost}
        → Derives v (node g a) p σ o c → Derives v (Block t a) p σ (closed t σ o) (enter c)
    local : {v : Env} {t a p : ℕ} {σ : State} {o : Outcome} {c : Cost}
        → Derives (hide v t σ) (node g a) p σ o c → Derives v (Local t a) p σ (closed t σ o) (enter c)
    if :
        {v : Env} {k p : ℕ} {w : Bool} {σ : State}
        → Derives v (If k w) p σ (pass_if (agree (get_or v.truths k true) w) p σ) (enter nothing)
    on : {v : Env} {k a p : ℕ} {w : Bool} {σ : State} {o : Outcome} {c : Cost}
        → Derives (switch v k w) (node g a) p σ o c → Derives v (On k w a) p σ (restored σ o) (enter c)
