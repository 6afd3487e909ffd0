-- One thing is given for every text and every buffer.
use Rattle.std.specs.Prelude.{ℕ, ◌≡◌, List, Ok, Err}
use Rattle.std.proofs.Common.{ap, sym, ◌∙◌, subst}
use Rattle.notation.specs.Judged.{Answer, good, refused}
use Rattle.notation.specs.SaidLaws.{one_answer}
use Rattle.compiler.specs.Refusals.{one_refusal}
use Rattle.compiler.specs.Compiles.{Compiled, Gives, Compiles}

-- For one answer one thing is given.
gives_once :
    (before after later : List ℕ) (a : Answer) (r s : Compiled) → Gives a before after r → Gives a before later s → (r ≡ s) × (after ≡ later)
gives_once before after later (good g) (Ok n) (Ok m) f h = (let e : n ≡ m = cc in ap Ok e, cc)
gives_once before after later (good g) (Ok n) (Err s) f h = absurd h
gives_once before after later (good g) (Err r) s f h = absurd f
gives_once before after later (refused k p) (Ok n) s f h = absurd f
gives_once before after later (refused k p) (Err r) (Ok m) f h = absurd h
gives_once before after later (refused k p) (Err r) (Err s) f h = (ap Err (one_refusal r s (f.0 ∙ sym h.0) (f.1 ∙ sym h.1)), cc)

-- ONE OUTCOME: what is given and what the buffer then holds are fixed by the text and the buffer before.
pub one_outcome :
    {text before after later : List ℕ} {r s : Compiled} → Compiles text before after r → Compiles text before later s → (r ≡ s) × (after ≡ later)
one_outcome {before = before} {after} {later} {r} {s} c d =
    let a = c.says in
    let b = d.says in
    gives_once before after later a.0 r s a.2 (subst (λ x. Gives x before later s) (one_answer b.1 a.1) b.2)
