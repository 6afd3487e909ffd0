-- `check` meets its promise: of a good image it says what `load` says, but its numbers. Assumes nothing.
use Rattle.std.proofs.Common.{◌≡◌, ◌∙◌, ap, Result, Ok, Err, IsOkAnd, MatchResult}
use Rattle.reader.specs.declared.refusal.Refusal.{Refusal}
use Rattle.image.specs.declared.head.Head as code
use Rattle.format.specs.Image.{Head, Checked, good, refused, read_image}
use Rattle.image.specs.Meant.{Said, fine, faulty, answered, loaded, verdict, checked}
use Rattle.image.proofs.walk.check.Goals as goal

-- Whether it is good, and no more.
abbrev whether : Said Head → Said (Unit {0})
whether (fine h) = fine tt
whether (faulty number place) = faulty number place

same : (k : Checked) {s : Said Head} → s ≡ answered k → whether s ≡ verdict k
same (good g) e = ap whether e
same (refused number place) e = ap whether e

says :
    (l : Result code.Head Refusal) (r : Result (Unit {0}) Refusal) (P : code.Head → Unit {0} → Type 0)
    → MatchResult l (λ h. IsOkAnd r (P h)) (λ f. r ≡ Err f) → checked r ≡ whether (loaded l)
says (Ok h) (Ok _) P m = λ i. fine tt
says (Ok h) (Err f) P m = elim m [ ]
says (Err f) r P m = ap checked m

pub returns : goal.returns
returns c = says c.load.result c.map.result _ c.map.ensures.cases ∙ same (read_image c.args.image.now) c.load.ensures.answer
