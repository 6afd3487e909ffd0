-- `over_image` meets its promise. The loop's invariant: no end so far is past the limit, and what is still to come has the first that is. Assumes
-- nothing.
use Rattle.std.proofs.Common.{ℕ, ◌+◌, ◌≡◌, ap, sym, ◌∙◌, Bool, ◌∷◌, rules}
use lib.Dec.{ltb}
use Rattle.std.specs.Slice.Iter.{iter_rest}
use Rattle.notation.specs.Lexer.{lexemes}
use Rattle.notation.specs.Places.{name_place}
use Rattle.lexer.proofs.StreamLaws.{taken_text, ended}
use Rattle.naming.specs.Found.{found}
use Rattle.naming.proofs.StepLaws.{met, steps, name_is}
use Rattle.naming.proofs.HeadLaws.{head_is, no_head}
use Rattle.naming.proofs.ImageLaws.{Ending, ending_over, ending_out, ending_token, ending_head, ending_here, ending_bad, above_is}
use Rattle.naming.proofs.image.over_image.Goals as goal

-- What the test of an end says.
tested : (base end : ℕ) {n : ℕ} {a b : Bool} → n ≡ end → a ≡ ltb 16384 (base + n) → a ≡ b → ltb 16384 (base + end) ≡ b
tested base end e f g = sym (ap (λ n. ltb 16384 (base + n)) e) ∙ sym f ∙ g

pub returns-in_err-end : goal.returns-in_err-end
returns-in_err-end c ps g r S =
    let text = c.args.text.now in
    let base = c.args.base in
    let ends = c.args.ends.now in
    c.from_residual.ensures
    ∙ ending_out 16384 base ends (name_place text) (lexemes text) (iter_rest c.loop-t.ends) c.in_err-end.ensures.steps.0 c.loop-t.invariant.3
    ∙ ap (found (name_place text)) (above_is r g base ends S 16384)

pub returns-then-is_past : goal.returns-then-is_past
returns-then-is_past c ps g r S =
    let text = c.args.text.now in
    let base = c.args.base in
    let v = c.loop-t.invariant in
    let T = c.in-Some.ensures.steps in
    let cut : iter_rest c.loop-t.ends ≡ c.in_ok-end.end.now ∷ iter_rest c.next-then-eq.new.self = search rules in
    ending_here 16384 base c.args.ends.now (name_place text) (lexemes text) (rw (cut, steps T v.2) at v.3) (head_is text _ (search rules))
    (tested base c.in_ok-end.end.now c.from.ensures c.is_past.ensures c.if-is_past.true) (name_is (met T v.2))
    ∙ ap (found (name_place text)) (above_is r g base c.args.ends.now S 16384)

pub loop-t-preserved-else-is_past : goal.loop-t-preserved-else-is_past
loop-t-preserved-else-is_past c =
    let text = c.args.text.now in
    let base = c.args.base in
    let v = c.loop-t.invariant in
    let T = c.in-Some.ensures.steps in
    let cut : iter_rest c.loop-t.ends ≡ c.in_ok-end.end.now ∷ iter_rest c.next-then-eq.new.self = search rules in (
      tt,
      tt,
      taken_text T ∙ v.2,
      ending_head 16384 base c.args.ends.now (name_place text) (lexemes text) (rw (cut, steps T v.2) at v.3) (head_is text _ (search rules))
          (tested base c.in_ok-end.end.now c.from.ensures c.is_past.ensures c.if-is_past.false),
    )

pub loop-t-preserved : goal.loop-t-preserved
loop-t-preserved c =
    let text = c.args.text.now in
    let v = c.loop-t.invariant in
    let T = c.in-Some.ensures.steps in (
      tt,
      tt,
      taken_text T ∙ v.2,
      ending_token 16384 c.args.base c.args.ends.now (name_place text) (lexemes text) (rw (steps T v.2) at v.3) (no_head text _ (search rules)),
    )

pub returns : goal.returns
returns c ps g r S =
    let text = c.args.text.now in
    let base = c.args.base in
    let ends = c.args.ends.now in
    let E = ended c.in-None.ensures.steps (Ending 16384 base ends (name_place text) (lexemes text) (iter_rest c.loop-t.ends))
    (ending_bad 16384 base ends (name_place text) (lexemes text)) c.loop-t.invariant.3
    in
    ending_over 16384 base ends (name_place text) (lexemes text) (iter_rest c.loop-t.ends) E
    ∙ ap (found (name_place text)) (above_is r g base ends S 16384)
