-- `over_nodes` meets its promise. The loop's invariant: no production that has ended is past the limit, and what is still to come, with what is
-- open, has the first that is. Assumes nothing.
use Rattle.std.proofs.Common.{ℕ, ◌≡◌, ap, ◌∙◌, List, ◌∷◌, arith, rules}
use lib.Dec.{ltb}
use Rattle.std.specs.Bool.{then_some}
use Rattle.notation.specs.Lexer.{lexemes}
use Rattle.notation.specs.Places.{name_place}
use Rattle.lexer.specs.declared.token.Token.{Token}
use Rattle.lexer.specs.declared.tokens.Tokens.{Tokens}
use Rattle.lexer.specs.Meant.{placed}
use Rattle.lexer.specs.Stream.{left, Takes}
use Rattle.lexer.proofs.StreamLaws.{taken_text, ended}
use Rattle.naming.proofs.StepLaws.{met, steps, whole, name_is}
use Rattle.naming.proofs.HeadLaws.{head_is, no_head}
use Rattle.naming.proofs.OverLaws.{Weighing, weighing_all, weighing_token, weighing_head, weighing_here, weighing_bad, weighing_end, past_is}
use Rattle.naming.proofs.nodes.over_nodes.Goals as goal

-- The token that was taken, in front of what is still to come.
front :
    {text : List ℕ} {s later : Tokens} {t : Token} {name nodes weight : ℕ} → Takes s t later → s.text.now ≡ text
    → Weighing 512 (name_place text) (lexemes text) name nodes weight (left s)
    → Weighing 512 (name_place text) (lexemes text) name nodes weight (placed text t ∷ left later)
front T k W = rw (steps T k) at W

pub loop-t-init : goal.loop-t-init
loop-t-init c =
    let text = c.args.text.now in
    let s = c.into_iter-t-iterator.result in
    let k : s.text.now ≡ text = search rules in
    let e : left s ≡ lexemes text = whole s text k (search rules) in
    (tt, tt, k, rw e (weighing_all 512 text (name_place text) c.requires))

pub returns-then-nodes-gt512 : goal.returns-then-nodes-gt512
returns-then-nodes-gt512 c ps r =
    let text = c.args.text.now in
    let v = c.loop-t.invariant in
    weighing_here 512 (name_place text) (lexemes text) (front c.in-Some.ensures.steps v.2 v.3) (head_is text _ (search rules))
    c.closed-nodes.ensures c.if-nodes-gt512.true
    ∙ past_is r 512 (name_place text)

pub loop-t-preserved-then-eq : goal.loop-t-preserved-then-eq
loop-t-preserved-then-eq c =
    let text = c.args.text.now in
    let v = c.loop-t.invariant in
    let T = c.in-Some.ensures.steps in (
      tt,
      tt,
      taken_text T ∙ v.2,
      weighing_head 512 (name_place text) (lexemes text) (front T v.2 v.3) (head_is text _ (search rules)) c.closed-nodes.ensures
          c.if-nodes-gt512.false (name_is (met T v.2)),
    )

pub overflow_add-weight : goal.overflow_add-weight
overflow_add-weight c =
    let text = c.args.text.now in
    let v = c.loop-t.invariant in
    omega (
      arith,
      (weighing_token 512 (name_place text) (lexemes text) (front c.in-Some.ensures.steps v.2 v.3) (no_head text _ (search rules))
          c.weight_of-weight.ensures).light,
    )

pub loop-t-preserved : goal.loop-t-preserved
loop-t-preserved c =
    let text = c.args.text.now in
    let v = c.loop-t.invariant in
    let T = c.in-Some.ensures.steps in (
      tt,
      tt,
      taken_text T ∙ v.2,
      weighing_token 512 (name_place text) (lexemes text) (front T v.2 v.3) (no_head text _ (search rules)) c.weight_of-weight.ensures,
    )

pub returns : goal.returns
returns c ps r =
    let text = c.args.text.now in
    let l = c.loop-t in
    let W = ended c.in-None.ensures.steps (Weighing 512 (name_place text) (lexemes text) l.name l.nodes l.weight)
    (weighing_bad 512 (name_place text) (lexemes text)) l.invariant.3
    in
    c.then_some.ensures ∙ ap (λ n. then_some (ltb 512 n) l.name) c.closed.ensures
    ∙ weighing_end 512 (name_place text) (lexemes text) W ∙ past_is r 512 (name_place text)
