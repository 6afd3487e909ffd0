-- Two outcomes that a promise permits are equal: one theorem for each public function. Each is stated of the promise.
use Rattle.std.specs.Prelude.{ℕ, Result, ◌≡◌, List, take}
use Rattle.std.proofs.Common.{ap, sym, ◌∙◌, arith}
use Rattle.meaning.specs.Recognise as m
use Rattle.reader.specs.declared.refusal.Refusal.{Refusal}
use Rattle.image.specs.Unique.{one_verdict as one_checked}
use Rattle.yarnspire.specs.declared.answer.Answer.{Answer}
use Rattle.yarnspire.specs.declared.answer.Answer.TheVariants.{Accepted, Failed, Refused}
use Rattle.yarnspire.specs.Answer.{number_of, place_of, six_of}
use Rattle.yarnspire.specs.RefusalLaws.{refusal_range, one_why}
use Rattle.yarnspire.specs.Promise.{Checks, Numbers, Answers, Recognised, Texts}

-- `check`
pub one_verdict : {image : List ℕ} {r r' : Result (Unit {0}) Refusal} → Checks image r → Checks image r' → r ≡ r'
one_verdict {image} {r} {r'} h h' = one_checked image r r' h.is h'.is

-- `yarnspire_check`
pub one_pair : {image : List ℕ} {n n' p p' : ℕ} → Numbers image n p → Numbers image n' p' → (n ≡ n') × (p ≡ p')
one_pair h h' =
    let e = one_verdict h.checks h'.checks in
    (h.number_is ∙ ap number_of e ∙ sym h'.number_is, h.place_is ∙ ap place_of e ∙ sym h'.place_is)

-- An answer's six numbers fix the answer.
pub same_answer : (r r' : Answer) → six_of r ≡ six_of r' → r ≡ r'
same_answer (Accepted n s d h) (Accepted n' s' d' h') e = λ i. Accepted (e i).consumed (e i).steps (e i).depth (e i).symbols
same_answer (Accepted n s d h) (Failed s' d') e = absurd (omega (arith, ap (λ a. a.kind) e))
same_answer (Accepted n s d h) (Refused w p s' d') e = absurd (omega (arith, ap (λ a. a.kind) e, (refusal_range w).0))
same_answer (Failed s d) (Accepted n' s' d' h') e = absurd (omega (arith, ap (λ a. a.kind) e))
same_answer (Failed s d) (Failed s' d') e = λ i. Failed (e i).steps (e i).depth
same_answer (Failed s d) (Refused w p s' d') e = absurd (omega (arith, ap (λ a. a.kind) e, (refusal_range w).1))
same_answer (Refused w p s d) (Accepted n' s' d' h') e = absurd (omega (arith, ap (λ a. a.kind) e, (refusal_range w).0))
same_answer (Refused w p s d) (Failed s' d') e = absurd (omega (arith, ap (λ a. a.kind) e, (refusal_range w).1))
same_answer (Refused w p s d) (Refused w' p' s' d') e =
    let why = one_why w w' (ap (λ a. a.kind) e) in λ i. Refused (why i) (e i).place (e i).steps (e i).depth

module _ {image input : List ℕ} {B D R : ℕ} {before after after' : List ℕ} where
  -- `yarnspire_recognise`: the six numbers and every slot.
  pub one_answer : {a a' : m.Answer} → Answers image input B D R before after a → Answers image input B D R before after' a'
      → (a ≡ a') × (after ≡ after')
  one_answer h h' = let e = h.is ∙ sym h'.is in (ap (λ k. k.answer) e, ap (λ k. k.slots) e)

  -- `recognise`: the answer and every slot.
  pub one_recognised : {r r' : Answer} → Recognised image input B D R before after r → Recognised image input B D R before after' r'
      → (r ≡ r') × (after ≡ after')
  one_recognised {r} {r'} h h' =
      let e = one_answer h.answers h'.answers in (same_answer r r' e.0, e.1)

  -- `accepted_text`: the six numbers, every slot and the text's bytes.
  pub one_text : {a a' : m.Answer} {t t' : List ℕ} → Texts image input B D R before after a t → Texts image input B D R before after' a' t'
      → (a ≡ a') × (after ≡ after') × (t ≡ t')
  one_text h h' =
      let e = one_answer h.answers h'.answers in
      (e.0, e.1, h.front ∙ ap (λ a. take a.consumed input) e.0 ∙ sym h'.front)

  -- and so the answer.
  pub one_recognition : {r r' : Answer} {t t' : List ℕ} → Texts image input B D R before after (six_of r) t → Texts image input B D R before after' (six_of r') t'
      → (r ≡ r') × (after ≡ after') × (t ≡ t')
  one_recognition {r} {r'} h h' =
      let e = one_answer h.answers h'.answers in
      (same_answer r r' e.0, e.1, h.front ∙ ap (λ a. take a.consumed input) e.0 ∙ sym h'.front)
