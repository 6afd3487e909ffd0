-- A cost within limits. 01, "Steps, depth, room". (The ranges of the limits themselves are an entry check: `allowed`, `Ranges`.)
use Rattle.std.specs.Prelude.{ℕ, ◌≤◌}
use Rattle.meaning.specs.Cost.{Cost}

-- A cost is within a depth, a number of steps and a number of symbols.
pub record Within (c : Cost) (d b r : ℕ) : Type 0 where
  pub fits_steps : c.steps ≤ b
  pub fits_depth : c.depth ≤ d
  pub fits_room : c.room ≤ r
