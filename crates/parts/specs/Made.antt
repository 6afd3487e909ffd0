-- The kinds that an outcome in one number has: 0 passed, 1 failed, 12 to 15 the number of what stopped the run. No other is ever made.
use Rattle.std.specs.Prelude.{ℕ, ◌≤◌}

abbrev pub Made : (kind : ℕ) → Type 0
Made kind = (kind ≤ 15) × (2 ≤ kind → 12 ≤ kind)
