-- What a derivation takes. 01, "Steps, depth, room".
use Rattle.std.specs.Prelude.{ℕ, suc, ◌+◌, max, length}
use Rattle.meaning.specs.State.{State}

infixl 60 ◌⊕◌
-- Steps; the greatest depth entered, the expression's own being 1; the most symbols held after a store.
pub record Cost : Type 0 where
  pub steps : ℕ
  pub depth : ℕ
  pub room : ℕ

abbrev pub nothing : Cost
nothing = record { steps = 0; depth = 0; room = 0 }

-- "Entering an expression costs 1", and "whatever it runs has one more" depth.
abbrev pub enter : Cost → Cost
enter c = record { steps = suc c.steps; depth = suc c.depth; room = c.room }

-- One after the other.
abbrev pub ◌⊕◌ : Cost → Cost → Cost
◌⊕◌ a b = record { steps = a.steps + b.steps; depth = max a.depth b.depth; room = max a.room b.room }

-- A symbol more than are held.
abbrev pub holding : State → Cost
holding σ = record { steps = 0; depth = 0; room = suc (length σ) }
