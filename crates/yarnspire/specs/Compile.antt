-- What `compile` promises, for every text and every buffer. 02, L2.
use Rattle.std.specs.Prelude.{ℕ, ◌≡◌, List, ◌++◌, ◌↔◌, length, drop, Ok, Err}
use Rattle.grammar.specs.Grammar.{Grammar}
use Rattle.format.specs.Written.{encode}
use Rattle.format.specs.Image.{good, read_image}
use Rattle.notation.specs.Tree.{Production}
use Rattle.notation.specs.Text.{ReadsAs}
use Rattle.notation.specs.Judged as answer
use Rattle.notation.specs.Said.{Says}
use Rattle.notation.specs.Kept.{Taken, Due}
use Rattle.notation.specs.SaidLaws.{Meant}
use Rattle.compiler.specs.Refusals as refusals
use Rattle.compiler.specs.Compiles.{Compiled}
use Rattle.compiler.specs.Compiles as compiler
use Rattle.compiler.specs.declared.refusal.Refusal.{Refusal}

pub record Compiles (text before after : List ℕ) (r : Compiled) : Type 0 where
  -- What is said of the text for the room that the buffer gives (`Says` in `notation`), and what is given for it: the image at the buffer's front, with
  -- what lies past it as it was; or number and place, and the buffer as it was. This settles every call, and what follows says it again in other words.
  pub is : compiler.Compiles text before after r
  -- An image is written exactly if the text is at most 65,535 bytes, the notation derives it, its names keep the rules, 01's limits hold, and the image of
  -- its grammar fits the buffer.
  pub written : ((n : ℕ) × (r ≡ Ok n)) ↔ ((g : Grammar) × Taken text (length before) g)
  -- The image is that grammar's, at the buffer's front; past it the buffer is as it was.
  pub image : (n : ℕ) → r ≡ Ok n → (g : Grammar) × Taken text (length before) g × (n ≡ length (encode g)) × (after ≡ encode g ++ drop n before)
  -- It is good by `check`, and its grammar means the text's reading.
  pub means :
      (n : ℕ) (g : Grammar) → r ≡ Ok n → Taken text (length before) g
      → (read_image (encode g) ≡ good g) × ((ps : List Production) × ReadsAs text ps × Meant g ps)
  -- A refusal has its number exactly if that is the first of 20 to 25 that is due.
  pub refused : (number : ℕ) → ((f : Refusal) × (r ≡ Err f) × (refusals.number_of f.slip ≡ number)) ↔ Due text (length before) number
  -- Its place is the one that is said, and the buffer is as it was.
  pub untouched : (f : Refusal) → r ≡ Err f → Says text (length before) (answer.refused (refusals.number_of f.slip) f.place) × (after ≡ before)

-- The same in three numbers, for C.
abbrev pub number_of : Compiled → ℕ
number_of (Ok n) = 0
number_of (Err f) = refusals.number_of f.slip

abbrev pub length_of : Compiled → ℕ
length_of (Ok n) = n
length_of (Err f) = 0

abbrev pub at_of : Compiled → ℕ
at_of (Ok n) = 0
at_of (Err f) = f.place

pub record ThreeNumbers (text before after : List ℕ) (number long at : ℕ) : Type 0 where
  pub compiled : Compiled
  pub compiles : Compiles text before after compiled
  pub number_is : number ≡ number_of compiled
  pub length_is : long ≡ length_of compiled
  pub at_is : at ≡ at_of compiled
