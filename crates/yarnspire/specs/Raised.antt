-- Demand 2's last sentence, over two calls: "raising limits within their ranges, with slots to match, never alters an answer that was
-- accepted or failed". Only the promises of the two calls are used.
use Rattle.std.specs.Prelude.{ℕ, ◌*◌, ◌≤◌, ◌≡◌, List, ◌⊎◌, length, take}
use Rattle.std.proofs.Common.{ap, sym, ◌∙◌, inl, inr, arith}
use Rattle.grammar.specs.Grammar.{Grammar}
use Rattle.meaning.specs.State.{State}
use Rattle.meaning.specs.Recognise as m
use Rattle.meaning.specs.Demands.{Ranges, Entered}
use Rattle.meaning.proofs.Demands.{raised_limits}
use Rattle.yarnspire.specs.declared.answer.Answer.{Answer}
use Rattle.yarnspire.specs.Answer.{numbers, six_of}
use Rattle.yarnspire.specs.Promise.{Answers, Recognised, Texts}
use Rattle.yarnspire.specs.Unique.{same_answer}

-- Limits that are raised within their ranges, and slots to match.
pub record Raises (B D R B' D' R' : ℕ) (slots : List ℕ) : Type 0 where
  pub more_steps : B ≤ B'
  pub more_depth : D ≤ D'
  pub more_room : R ≤ R'
  pub ranges : Ranges B' D' R'
  pub slots_enough : 3 * R' ≤ length slots

-- An answer that was accepted or failed.
abbrev pub Settled : m.Answer → Type 0
Settled a = (a.kind ≡ 0) ⊎ (a.kind ≡ 99)

module _ {image input : List ℕ} {B D R B' D' R' : ℕ} {before after before' after' : List ℕ} where
  -- The six numbers are the same, and the slots hold the same symbols, with zeros up to the new 3R.
  pub raised : {a a' : m.Answer} → Answers image input B D R before after a → Settled a → Raises B D R B' D' R' before'
      → Answers image input B' D' R' before' after' a'
      → (a' ≡ a) × (τ : State) × (length τ ≡ a.symbols) × (after ≡ m.filled R τ before) × (after' ≡ m.filled R' τ before')
  raised {a} {a'} h settled r h' = go h.entry
    where
      old : a ≡ (m.recognise image input B D R before).answer
      old = ap (λ k. k.answer) h.is

      as_kind : {k : ℕ} → k ≡ a.kind → Settled a → (k ≡ 0) ⊎ (k ≡ 99)
      as_kind e (inl z) = inl (e ∙ z)
      as_kind e (inr z) = inr (e ∙ z)

      unsettled : (n place : ℕ) → 1 ≤ n → n ≤ 11 → a ≡ numbers n 0 0 0 0 place → Settled a → ⊥
      unsettled n place l m e (inl z) = omega (arith, ap (λ a. a.kind) e)
      unsettled n place l m e (inr z) = omega (arith, ap (λ a. a.kind) e)

      go : ((g : Grammar) × Entered image g input B D R before)
          ⊎ ((n place : ℕ) × (1 ≤ n) × (n ≤ 11) × (a ≡ numbers n 0 0 0 0 place) × (after ≡ before))
          → (a' ≡ a) × (τ : State) × (length τ ≡ a.symbols) × (after ≡ m.filled R τ before) × (after' ≡ m.filled R' τ before')
      go (inl E) =
          let E' : Entered image E.0 input B' D' R' before' = record {
            image_good = E.1.image_good;
            input_short = E.1.input_short;
            ranges = r.ranges;
            slots_enough = r.slots_enough;
          } in
          let w = raised_limits E.1 E' r.more_steps r.more_depth r.more_room (as_kind (sym (ap (λ a. a.kind) old)) settled) in (
            ap (λ k. k.answer) h'.is ∙ w.0 ∙ sym old,
            w.1,
            w.2 ∙ sym (ap (λ a. a.symbols) old),
            ap (λ k. k.slots) h.is ∙ w.3,
            ap (λ k. k.slots) h'.is ∙ w.4,
          )
      go (inr w) = absurd (unsettled w.0 w.1 w.2 w.3 w.4 settled)

  -- So is the answer of recognise,
  pub raised_answer : {r r' : Answer} → Recognised image input B D R before after r → Settled (six_of r) → Raises B D R B' D' R' before'
      → Recognised image input B' D' R' before' after' r' → r' ≡ r
  raised_answer {r} {r'} h settled l h' = same_answer r' r (raised h.answers settled l h'.answers).0

  -- and the accepted text.
  pub raised_text : {a a' : m.Answer} {t t' : List ℕ} → Texts image input B D R before after a t → Settled a → Raises B D R B' D' R' before'
      → Texts image input B' D' R' before' after' a' t' → t' ≡ t
  raised_text h settled l h' =
      h'.front ∙ ap (λ a. take a.consumed input) (raised h.answers settled l h'.answers).0 ∙ sym h.front
