-- What is said of an expression where one tally is carried. 01, "Steps, depth, room": "One running tally of steps and greatest depth is
-- carried through the run". `run` gives what an expression costs by itself; here that stands on top of what was spent before it.
use Rattle.std.specs.Prelude.{ℕ, ◌+◌, ◌-◌, max, List, ltb}
use Rattle.grammar.specs.Expr.{Expr, Star}
use Rattle.grammar.specs.Grammar.{Grammar, node}
use Rattle.format.specs.Reading.{pick}
use Rattle.meaning.specs.State.{State, Env}
use Rattle.meaning.specs.Outcome.{Outcome, pass, fail}
use Rattle.meaning.specs.Run.{Result, ran, refused, run}

-- It came to an outcome, or it was refused with a number and a place; steps and greatest depth from the start of the whole run.
pub data Told : Type 0 where
  came : Outcome → (steps depth : ℕ) → Told
  stopped : (number place steps depth : ℕ) → Told

-- On top of a tally, below so many expressions that are entered and not left.
abbrev pub carry : (steps depth above : ℕ) → Result → Told
carry steps depth above (ran o c) = came o (steps + c.steps) (max depth (above + c.depth))
carry steps depth above (refused n p c) = stopped n p (steps + c.steps) (max depth (above + c.depth))

-- Go on where it passed, with the tally as it is then; go on where it failed.
abbrev pub and_then : Told → (ℕ → State → ℕ → ℕ → Told) → Told
and_then (came (pass q τ) s d) k = k q τ s d
and_then (came fail s d) k = came fail s d
and_then (stopped n p s d) k = stopped n p s d

abbrev pub or_else : Told → (ℕ → ℕ → Told) → Told
or_else (came (pass q τ) s d) k = came (pass q τ) s d
or_else (came fail s d) k = k s d
or_else (stopped n p s d) k = stopped n p s d

-- What a kind makes of the outcome inside it.
abbrev pub become : (Outcome → Outcome) → Told → Told
become f (came o s d) = came (f o) s d
become f (stopped n p s d) = stopped n p s d

-- What follows a round of a Star that began at p.
abbrev pub after_round : ℕ → State → Told → (ℕ → State → ℕ → ℕ → Told) → Told
after_round p σ (came (pass q τ) s d) again = pick (ltb p q) (again q τ s d) (stopped 15 p s d)
after_round p σ (came fail s d) again = came (pass p σ) s d
after_round p σ (stopped n q s d) again = stopped n q s d

-- Under the limits B, D and R, where so much depth is left and the tally stands at `steps` and `depth`.
module _ (g : Grammar) (x : List ℕ) (B D R : ℕ) where
  unfoldable pub tells : (left steps depth : ℕ) → Env → Expr → ℕ → State → Told
  tells left steps depth v e p σ = carry steps depth (D - left) (run g x R left (B - steps) v e p σ)

  -- A Star whose next round is charged already, with so much depth left for its body.
  abbrev pub rounding : (left steps depth : ℕ) → Env → ℕ → ℕ → State → Told
  rounding left steps depth v a p σ =
      after_round p σ (tells left steps depth v (node g a) p σ) (λ q τ s d. tells (left + 1) s d v (Star a) q τ)
