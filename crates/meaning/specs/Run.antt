-- The machine as a function: the rules under limits. 01, "Meaning", "Steps, depth, room" and refusals 12 to 15.
use Rattle.std.specs.Prelude.{ℕ, zero, suc, ◌+◌, ◌-◌, Bool, true, false, List, [], ◌∷◌, ◌++◌, ltb, length, take, drop, get_or}
use Rattle.grammar.specs.Expr.{Expr, Empty, Byte, Range, Any, Text, Sequence, Choice, Star, Not, Call, Def, Match, Is, Isa, Exists, Block, Local, If, On}
use Rattle.grammar.specs.Grammar.{Grammar, node}
use Rattle.meaning.specs.State.{State, Env, visible, hide, switch}
use Rattle.meaning.specs.Outcome.{Outcome, pass, fail, begins, some, in_range, agree, pass_if, swap, restored, closed, matched, compared}
use Rattle.meaning.specs.Cost.{Cost, nothing, enter, ◌⊕◌, holding}
use Rattle.meaning.specs.Rules.{named, symbol}

-- It came to an outcome at a cost; or it was refused, with 01's number and place, when so much had been charged.
pub data Result : Type 0 where
  ran : Outcome → Cost → Result
  refused : (number place : ℕ) → Cost → Result

-- "Where a step inside refuses, the whole call refuses at once."
abbrev pub next : Result → (Outcome → Cost → Result) → Result
next (ran o c) k = k o c
next (refused n p c) k = refused n p c

-- The cost of entering, and of what ran before, put in front.
abbrev pub charge : Result → Result
charge (ran o c) = ran o (enter c)
charge (refused n p c) = refused n p (enter c)

abbrev pub after : Cost → Result → Result
after c (ran o d) = ran o (c ⊕ d)
after c (refused n p d) = refused n p (c ⊕ d)

-- Go on where it passed; go on where it failed.
abbrev pub on_pass : (ℕ → State → Cost → Result) → Outcome → Cost → Result
on_pass k (pass q τ) c = k q τ c
on_pass k fail c = ran fail c

abbrev pub on_fail : (Cost → Result) → Outcome → Cost → Result
on_fail k (pass q τ) c = ran (pass q τ) c
on_fail k fail c = k c

-- A round that passed is refused if it consumed nothing, else the rest of the rounds follow; a round that failed ends the Star.
abbrev pub if_consumed : Bool → ℕ → Cost → (Unit {0} → Result) → Result
if_consumed true p c k = k tt
if_consumed false p c k = refused 15 p c

abbrev pub round : ℕ → State → (ℕ → State → Cost → Result) → Outcome → Cost → Result
round p σ k (pass q τ) c = if_consumed (ltb p q) p c (λ u. k q τ c)
round p σ k fail c = ran (pass p σ) c

-- The rounds of a Star with b steps left; `f b p σ` runs its body. The first number is at least b, and only there to count down: it
-- comes to 0 where b does, so the first line never speaks of a step that was left.
unfoldable pub rounds : (ℕ → ℕ → State → Result) → ℕ → ℕ → ℕ → State → Result
rounds f zero b p σ = refused 12 p nothing
rounds f (suc k) zero p σ = refused 12 p nothing
rounds f (suc k) (suc b) p σ = next (charge (f b p σ)) (round p σ (λ q τ c. after c (rounds f k (suc b - c.steps) q τ)))

module _ (g : Grammar) (x : List ℕ) (room : ℕ) where
  -- Def: a symbol is stored if there is room.
  abbrev pub stored : Bool → ℕ → ℕ → State → ℕ → Cost → Result
  stored true t p σ q c = ran (pass q (σ ++ (symbol t p q ∷ []))) (c ⊕ holding σ)
  stored false t p σ q c = refused 14 p c

  -- Is and Isa: an empty list fails without running the pattern.
  abbrev pub if_any : Bool → (Unit {0} → Result) → Result
  if_any true k = k tt
  if_any false k = ran fail nothing

  -- An expression that was entered, with b steps left; `f` runs what stands inside it.
  abbrev pub entered : (ℕ → Env → Expr → ℕ → State → Result) → ℕ → Env → Expr → ℕ → State → Result
  entered f b v Empty p σ = ran (pass p σ) (enter nothing)
  entered f b v (Byte n) p σ = ran (pass_if (begins (n ∷ []) (drop p x)) (p + 1) σ) (enter nothing)
  entered f b v (Range lo hi) p σ = ran (pass_if (in_range lo hi (drop p x)) (p + 1) σ) (enter nothing)
  entered f b v Any p σ = ran (pass_if (some (drop p x)) (p + 1) σ) (enter nothing)
  entered f b v (Text bytes) p σ = ran (pass_if (begins bytes (drop p x)) (p + length bytes) σ) (enter nothing)
  entered f b v (Sequence i j) p σ = charge (next (f b v (node g i) p σ) (on_pass (λ q τ c. after c (f (b - c.steps) v (node g j) q τ))))
  entered f b v (Choice i j) p σ = charge (next (f b v (node g i) p σ) (on_fail (λ c. after c (f (b - c.steps) v (node g j) p σ))))
  entered f b v (Star i) p σ = rounds (λ k q τ. f k v (node g i) q τ) (suc b) (suc b) p σ
  entered f b v (Not i) p σ = charge (next (f b v (node g i) p σ) (λ o c. ran (swap p σ o) c))
  entered f b v (Call i) p σ = charge (f b v (node g i) p σ)
  entered f b v (Def t) p σ = charge (next (f b v (named g t) p σ) (on_pass (λ q τ c. stored (ltb (length σ) room) t p σ q c)))
  entered f b v (Match t) p σ = ran (matched x p σ (visible v t σ)) (enter nothing)
  entered f b v (Is t) p σ =
      charge (if_any (some (visible v t σ)) (λ u. next (f b v (named g t) p σ) (λ o c. ran (compared x p σ (take 1 (visible v t σ)) o) c)))
  entered f b v (Isa t) p σ =
      charge (if_any (some (visible v t σ)) (λ u. next (f b v (named g t) p σ) (λ o c. ran (compared x p σ (visible v t σ) o) c)))
  entered f b v (Exists t) p σ = ran (pass_if (some (visible v t σ)) p σ) (enter nothing)
  entered f b v (Block t i) p σ = charge (next (f b v (node g i) p σ) (λ o c. ran (closed t σ o) c))
  entered f b v (Local t i) p σ = charge (next (f b (hide v t σ) (node g i) p σ) (λ o c. ran (closed t σ o) c))
  entered f b v (If k w) p σ = ran (pass_if (agree (get_or v.truths k true) w) p σ) (enter nothing)
  entered f b v (On k w i) p σ = charge (next (f b (switch v k w) (node g i) p σ) (λ o c. ran (restored σ o) c))

  -- With depth d and b steps left. "On entry the step limit is looked at first, then the depth limit".
  unfoldable pub run : (d b : ℕ) → Env → Expr → ℕ → State → Result
  run zero zero v e p σ = refused 12 p nothing
  run zero (suc b) v e p σ = refused 13 p nothing
  run (suc d) zero v e p σ = refused 12 p nothing
  run (suc d) (suc b) v e p σ = entered (run d) b v e p σ
