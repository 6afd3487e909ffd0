-- WHAT IS GIVEN FOR A TEXT AND A BUFFER THAT IS LENT FOR ITS IMAGE.
use Rattle.std.specs.Prelude.{ℕ, ◌≡◌, List, ◌++◌, length, drop, Result, Ok, Err}
use Rattle.format.specs.Written.{encode}
use Rattle.notation.specs.Judged.{Answer, good, refused}
use Rattle.notation.specs.Said.{Says}
use Rattle.compiler.specs.declared.refusal.Refusal.{Refusal}
use Rattle.compiler.specs.Refusals.{number_of}

-- How many bytes the image has that was written, or why the text is refused.
abbrev pub Compiled : Type 0
Compiled = Result ℕ Refusal

-- What is given for an answer: the image at the buffer's front, its length, and what lies past it as it was; or number and place, and the
-- whole buffer as it was.
abbrev pub Gives : Answer → (before after : List ℕ) → Compiled → Type 0
Gives (good g) before after (Ok n) = (n ≡ length (encode g)) × (after ≡ encode g ++ drop (length (encode g)) before)
Gives (good g) before after (Err r) = ⊥
Gives (refused k p) before after (Ok n) = ⊥
Gives (refused k p) before after (Err r) = (number_of r.slip ≡ k) × (r.place ≡ p) × (after ≡ before)

-- What is given is given for what is said of the text.
pub record Compiles (text before after : List ℕ) (r : Compiled) : Type 0 where
  pub says : (a : Answer) × Says text (length before) a × Gives a before after r
