-- `ended` meets its promise. Assumes nothing.
use Prim.Native.Nat.{ℕ, ◌-◌, ◌*◌}
use mathlib.Core.Path.{◌≡◌, ap, ap₂, sym, ◌∙◌}
use mathlib.Core.List.{◌++◌}
use native.Mathlib.Omega.{arith}
use lib.ListN.{length, take, replicate}
use Rattle.yarnspire.specs.Ended.{answer_for, kept_of}
use Rattle.yarnspire.proofs.run.ended.Goals as goal

pub returns-in-Passed : goal.returns-in-Passed
returns-in-Passed c = let a = c.args in let n = c.in-Passed.held * 3 in
    let e = sym c.in-Passed.is ∙ c.opened.ensures in
    let long : length c.split_at_mut-front.result.1.now ≡ length a.slots.now - n = omega (arith, c.split_at_mut-front.ensures.back_len) in (
      ap answer_for e,
      ap₂ (λ l m. l ++ m) c.copy_from_slice.ensures.after (c.fill.ensures.after (λ y h. h)) ∙ ap (λ k. take n a.store.now ++ replicate k 0) long
          ∙ ap (λ o. take (kept_of o) a.store.now ++ replicate (length a.slots.now - kept_of o) 0) e,
    )

none_kept : (n : ℕ) → replicate {A = ℕ} n 0 ≡ replicate {A = ℕ} (n - 0) 0
none_kept n = let z : n ≡ n - 0 = omega arith in ap (λ k. replicate {A = ℕ} k 0) z

pub returns-in-Failed : goal.returns-in-Failed
returns-in-Failed c = let a = c.args in
    let e = sym c.in-Failed.is ∙ c.opened.ensures in
    (ap answer_for e, c.fill-in-Failed.ensures.after (λ y h. h) ∙ none_kept (length a.slots.now) ∙ ap (λ o. take (kept_of o) a.store.now ++ replicate (length a.slots.now - kept_of o) 0) e)

pub returns-in-Refused : goal.returns-in-Refused
returns-in-Refused c = let a = c.args in
    let e = sym c.in-Refused.is ∙ c.opened.ensures in
    (ap answer_for e, c.fill-in-Refused.ensures.after (λ y h. h) ∙ none_kept (length a.slots.now) ∙ ap (λ o. take (kept_of o) a.store.now ++ replicate (length a.slots.now - kept_of o) 0) e)
