-- What the public functions promise, for every image, input, limits and slot buffer.
use Rattle.std.specs.Prelude.{ℕ, Result, Ok, Err, ◌≤◌, ◌≡◌, List, ◌↔◌, ◌⊎◌, length, take}
use Rattle.grammar.specs.Grammar.{Grammar}
use Rattle.format.specs.Image.{read_image}
use Rattle.format.specs.RoundTrip.{Stands, Refuses}
use Rattle.meaning.specs.Outcome.{Outcome}
use Rattle.meaning.specs.Cost.{Cost}
use Rattle.meaning.specs.Recognise.{Answer, recognise}
use Rattle.meaning.specs.Demands.{Entered, Recognises, Derivable, Stops, Demand2, Demand3, Fixed}
use Rattle.reader.specs.declared.refusal.Refusal.{Refusal}
use Rattle.reader.specs.Meant.{number_of as fault_number}
use Rattle.image.specs.Meant.{checked, verdict}
use Rattle.yarnspire.specs.declared.answer.Answer as code
use Rattle.yarnspire.specs.Answer.{number_of, place_of, numbers, Kind, six_of, Listed}

-- Check. What is said, the fault's number and the place are what reading the image front to back finds (`checked` and `verdict` in `image`); in words: it is
-- good exactly if the image is the writing of a sound grammar and at most 16,384 bytes long, and a refusal is one of 1 to 8 with what `Refuses` says of its
-- place.
pub record Checks (image : List ℕ) (r : Result (Unit {0}) Refusal) : Type 0 where
  pub is : checked r ≡ verdict (read_image image)
  pub good : (r ≡ Ok tt) ↔ ((g : Grammar) × Stands image g)
  pub refused : (f : Refusal) → r ≡ Err f → Refuses image (fault_number f.fault) f.place

-- The same in two numbers: 0 and 0 for good.
pub record Numbers (image : List ℕ) (number place : ℕ) : Type 0 where
  pub verdict : Result (Unit {0}) Refusal
  pub checks : Checks image verdict
  pub number_is : number ≡ number_of verdict
  pub place_is : place ≡ place_of verdict

-- Recognise, as six numbers and the slots.
pub record Answers (image input : List ℕ) (B D R : ℕ) (before after : List ℕ) (a : Answer) : Type 0 where
  -- All of it is what the definition says, refusals too: this settles every call, and what follows says it again in other words. The kind
  -- is one of 01's, and no more is consumed than there is.
  pub is : record { answer = a; slots = after } ≡ recognise image input B D R before
  pub kind : Kind a.kind
  pub inside : a.consumed ≤ length input
  -- Either the entry checks pass, or the answer is one of 1 to 11: all zero but number and place, and the slots untouched. (Which check gives
  -- which number: `image_refused`, `input_refused`, `limits_refused`, `slots_refused` in `Demands`.)
  pub entry : ((g : Grammar) × Entered image g input B D R before)
      ⊎ ((n place : ℕ) × (1 ≤ n) × (n ≤ 11) × (a ≡ numbers n 0 0 0 0 place) × (after ≡ before))
  -- Of the rules alone: at most one outcome and cost can be derived (`unique` in `meaning`: there is at most one derivation), and there is one
  -- within the limits or a run that is cut short.
  pub once : (g : Grammar) (o o' : Outcome) (c c' : Cost) → Recognises g input o c → Recognises g input o' c' → (o ≡ o') × (c ≡ c')
  pub ends : (g : Grammar) → Derivable g input B D R ⊎ ((n place : ℕ) × (c : Cost) × Stops g input B D R n place c)
  -- Once the entry checks pass, each of the two fixes every number and every slot: the count by counting on the derivation, the slots by what
  -- remains of it.
  pub fixed : (g : Grammar) → Entered image g input B D R before → Fixed g input B D R before (record { answer = a; slots = after })
  -- The same as the demands put it: accepted n, or failed, exactly if there is a derivation of that within the limits, refused 12 to 15
  -- exactly if there is none.
  pub demand_2 : (g : Grammar) → Entered image g input B D R before → Demand2 g input B D R a
  pub demand_3 : (g : Grammar) → Entered image g input B D R before → Demand3 g input B D R a before after

-- As an enum: its six numbers, and a refusal's number is never one that stands for accepted or failed.
pub record Recognised (image input : List ℕ) (B D R : ℕ) (before after : List ℕ) (r : code.Answer) : Type 0 where
  pub answers : Answers image input B D R before after (six_of r)
  pub listed : Listed r

-- With the accepted text: the input's first bytes, as many as are consumed, and none where nothing is accepted.
pub record Texts (image input : List ℕ) (B D R : ℕ) (before after : List ℕ) (a : Answer) (text : List ℕ) : Type 0 where
  pub answers : Answers image input B D R before after a
  pub front : text ≡ take a.consumed input
