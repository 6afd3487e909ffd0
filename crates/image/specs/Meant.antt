-- What the values of the code say, in the terms of the definitions. What a reader hands out is in `reader`.
use Rattle.std.specs.Prelude.{◌≡◌, ℕ, Result, Ok, Err}
use Rattle.grammar.specs.Grammar.{tables, size}
use Rattle.reader.specs.declared.reader.Reader.{Reader}
use Rattle.reader.specs.declared.refusal.Refusal.{Refusal}
use Rattle.reader.specs.Meant.{number_of, behind}
use Rattle.image.specs.declared.head.Head as code
use Rattle.image.specs.Shapes.{head_from}
use Rattle.format.specs.Reading.{Reading, got, fault}
use Rattle.format.specs.Image.{Head, Checked, good, refused}

-- The numbers that an image begins with.
abbrev pub heading : code.Head → Head
heading h = record { tables = h.tables; conditions = h.conditions; nodes = h.nodes; start = h.start }

-- They were read, a reader then standing at `at`; or a refusal.
abbrev pub headed : Result code.Head Refusal → (at : ℕ) → Reading Head
headed (Ok h) at = got (heading h) at
headed (Err f) at = fault (number_of f.fault) f.place

-- What reading them gives; the reader then stands behind them, or where it stood if they were refused, over the same image.
pub record Begins (before after : Reader) (r : Result code.Head Refusal) : Type 0 where
  pub result : headed r after.at ≡ head_from before.image.now before.at
  pub stands : after.at ≡ behind (head_from before.image.now before.at) before.at
  pub image : after.image ≡ before.image

-- What is said of an image: what is told of a good one, or the number and the place of a refusal.
pub data Said (A : Type 0) : Type 0 where
  fine : A → Said A
  faulty : (number place : ℕ) → Said A

-- What the walk says of an image: T, C, N and the start node of its grammar, or the refusal.
abbrev pub answered : Checked → Said Head
answered (good g) = fine (record { tables = tables g; conditions = g.conditions; nodes = size g; start = g.start })
answered (refused number place) = faulty number place

abbrev pub loaded : Result code.Head Refusal → Said Head
loaded (Ok h) = fine (heading h)
loaded (Err f) = faulty (number_of f.fault) f.place

-- What check says of an image. 01: "Check gives 1 to 8 or good".
abbrev pub verdict : Checked → Said (Unit {0})
verdict (good g) = fine tt
verdict (refused number place) = faulty number place

abbrev pub checked : Result (Unit {0}) Refusal → Said (Unit {0})
checked (Ok _) = fine tt
checked (Err f) = faulty (number_of f.fault) f.place
