-- The cases marked P of 01, "Harbour cases", from image bytes: one table under one theorem. Each row is an image, an input, B, D and R, and what the
-- call gives: kind, consumed, steps, depth, symbols, place, and the slots up to the zeros. `A=AB` with Is and with Match is one case of 01 and two rows. The buffer begins as 3R + 1 sevens, so the last number
-- shows that nothing past 3R is written. What 01 leaves out of a row is worked out from the rules.
use Rattle.std.specs.Prelude.{ℕ, ◌+◌, ◌-◌, ◌*◌, ◌≡◌, refl, List, [], ◌∷◌, ◌++◌, map, length, replicate}
use Rattle.format.specs.Cases.{harbour}
use Rattle.meaning.specs.Recognise.{Called, recognise}

pub record Case : Type 0 where
  pub image : List ℕ
  pub input : List ℕ
  pub B : ℕ
  pub D : ℕ
  pub R : ℕ
  pub answer : List ℕ
  pub slots : List ℕ

abbrev row : (image input : List ℕ) (B D R : ℕ) (answer slots : List ℕ) → Case
row image input B D R answer slots = record { image = image; input = input; B = B; D = D; R = R; answer = answer; slots = slots }

-- Image H with Match in the place of Is.
abbrev harbour_match : List ℕ
harbour_match =
    0x01 ∷ 0x01 ∷ 0x00 ∷ 0x08 ∷ 0x07 ∷ 0x02 ∷ 0x02 ∷ 0x41 ∷ 0x5A ∷ 0x07 ∷ 0x00 ∷ 0x05 ∷ 0x00 ∷ 0x01 ∷ 0x0A ∷ 0x00 ∷ 0x01 ∷ 0x3D ∷ 0x0B ∷ 0x00
    ∷ 0x05 ∷ 0x04 ∷ 0x05 ∷ 0x05 ∷ 0x03 ∷ 0x06 ∷ []

-- A Call to itself alone; a Star of Empty.
abbrev call_itself : List ℕ
call_itself = 0x01 ∷ 0x00 ∷ 0x00 ∷ 0x01 ∷ 0x00 ∷ 0x09 ∷ 0x00 ∷ []

abbrev star_of_empty : List ℕ
star_of_empty = 0x01 ∷ 0x00 ∷ 0x00 ∷ 0x02 ∷ 0x01 ∷ 0x00 ∷ 0x07 ∷ 0x00 ∷ []

-- A choice of (Def then `!`) and (name then Exists): nodes 0 Range A Z, 1 Star 0, 2 Sequence 0 1 (the name), 3 Def 0, 4 Byte `!`, 5 Sequence 3 4,
-- 6 Exists 0, 7 Sequence 2 6, 8 Choice 5 7.
abbrev def_or_exists : List ℕ
def_or_exists =
    0x01 ∷ 0x01 ∷ 0x00 ∷ 0x09 ∷ 0x08 ∷ 0x02 ∷ 0x02 ∷ 0x41 ∷ 0x5A ∷ 0x07 ∷ 0x00 ∷ 0x05 ∷ 0x00 ∷ 0x01 ∷ 0x0A ∷ 0x00 ∷ 0x01 ∷ 0x21 ∷ 0x05 ∷ 0x03 ∷ 0x04
    ∷ 0x0E ∷ 0x00 ∷ 0x05 ∷ 0x02 ∷ 0x06 ∷ 0x06 ∷ 0x05 ∷ 0x07 ∷ []

-- The bytes of the inputs: A, B and =.
abbrev A : ℕ
A = 0x41

abbrev B' : ℕ
B' = 0x42

abbrev eq : ℕ
eq = 0x3D

abbrev pub harbour_cases : List Case
harbour_cases =
    row harbour (A ∷ eq ∷ A ∷ []) 13 6 1 (0 ∷ 3 ∷ 13 ∷ 6 ∷ 1 ∷ 0 ∷ []) (0 ∷ 0 ∷ 1 ∷ [])
    ∷ row harbour (A ∷ eq ∷ A ∷ []) 12 6 1 (12 ∷ 0 ∷ 12 ∷ 5 ∷ 0 ∷ 3 ∷ []) []
    ∷ row harbour (A ∷ eq ∷ A ∷ []) 13 5 1 (13 ∷ 0 ∷ 12 ∷ 5 ∷ 0 ∷ 3 ∷ []) []
    ∷ row harbour (A ∷ eq ∷ A ∷ []) 13 6 0 (14 ∷ 0 ∷ 6 ∷ 5 ∷ 0 ∷ 0 ∷ []) []
    ∷ row harbour (A ∷ B' ∷ eq ∷ A ∷ B' ∷ []) 17 6 1 (0 ∷ 5 ∷ 17 ∷ 6 ∷ 1 ∷ 0 ∷ []) (0 ∷ 0 ∷ 2 ∷ [])
    ∷ row harbour (A ∷ eq ∷ B' ∷ []) 13 6 1 (99 ∷ 0 ∷ 13 ∷ 6 ∷ 0 ∷ 0 ∷ []) []
    ∷ row harbour [] 4 4 0 (99 ∷ 0 ∷ 4 ∷ 4 ∷ 0 ∷ 0 ∷ []) []
    ∷ row harbour (A ∷ eq ∷ A ∷ B' ∷ []) 1000000 256 256 (99 ∷ 0 ∷ 15 ∷ 6 ∷ 0 ∷ 0 ∷ []) []
    ∷ row harbour_match (A ∷ eq ∷ A ∷ B' ∷ []) 1000000 256 256 (0 ∷ 3 ∷ 9 ∷ 5 ∷ 1 ∷ 0 ∷ []) (0 ∷ 0 ∷ 1 ∷ [])
    ∷ row call_itself (A ∷ []) 10 256 256 (12 ∷ 0 ∷ 10 ∷ 10 ∷ 0 ∷ 0 ∷ []) []
    ∷ row call_itself (A ∷ []) 1000 4 256 (13 ∷ 0 ∷ 4 ∷ 4 ∷ 0 ∷ 0 ∷ []) []
    ∷ row star_of_empty (A ∷ []) 1000000 256 256 (15 ∷ 0 ∷ 2 ∷ 2 ∷ 0 ∷ 0 ∷ []) []
    ∷ row def_or_exists (A ∷ []) 1000000 256 256 (99 ∷ 0 ∷ 14 ∷ 6 ∷ 0 ∷ 0 ∷ []) []
    ∷ []

-- The six fields and then the slots.
abbrev pub told : Called → List ℕ
told c = c.answer.kind ∷ c.answer.consumed ∷ c.answer.steps ∷ c.answer.depth ∷ c.answer.symbols ∷ c.answer.place ∷ c.slots

abbrev gives : Case → List ℕ
gives c = told (recognise c.image c.input c.B c.D c.R (replicate (3 * c.R + 1) 7))

abbrev expected : Case → List ℕ
expected c = c.answer ++ (c.slots ++ (replicate (3 * c.R - length c.slots) 0 ++ (7 ∷ [])))

-- THE P CASES.
pub harbour_cases_lem : map gives harbour_cases ≡ map expected harbour_cases
unfolding recognise
harbour_cases_lem = refl

-- ## The entry checks at the ends of their ranges

-- Image H on the empty input with B, D, R and a number of sevens for slots; then the kind, and how many sevens are left.
record Entry : Type 0 where
  pub B : ℕ
  pub D : ℕ
  pub R : ℕ
  pub sevens : ℕ
  pub kind : ℕ
  pub rest : ℕ

abbrev entry : (B D R sevens kind rest : ℕ) → Entry
entry B D R sevens kind rest = record { B = B; D = D; R = R; sevens = sevens; kind = kind; rest = rest }

abbrev entries : List Entry
entries =
    entry 1000000 256 256 768 99 0
    ∷ entry 4 4 0 0 99 0
    ∷ entry 1 1 1 4 12 1
    ∷ entry 0 4 0 0 10 0
    ∷ entry 1000001 4 0 0 10 0
    ∷ entry 4 0 0 0 10 0
    ∷ entry 4 257 0 0 10 0
    ∷ entry 4 4 257 771 10 771
    ∷ entry 4 4 257 0 10 0
    ∷ entry 4 4 1 3 99 0
    ∷ entry 4 4 1 2 11 2
    ∷ entry 4 4 256 767 11 767
    ∷ []

abbrev entered : Entry → List ℕ
entered e = let c = recognise harbour [] e.B e.D e.R (replicate e.sevens 7) in c.answer.kind ∷ c.slots

pub entry_cases : map entered entries ≡ map (λ e. e.kind ∷ (replicate (e.sevens - e.rest) 0 ++ replicate e.rest 7)) entries
unfolding recognise
entry_cases = refl
