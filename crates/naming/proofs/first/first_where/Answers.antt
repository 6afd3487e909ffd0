-- `first_where` meets its promise. The loop's invariant: what is still to come has the first token of which the test holds. Assumes nothing.
use Rattle.std.proofs.Common.{refl, sym, ◌∙◌}
use Rattle.lexer.proofs.StreamLaws.{taken_text}
use Rattle.naming.proofs.StepLaws.{met}
use Rattle.naming.proofs.WhereLaws.{where_past, where_here, where_over}
use Rattle.naming.proofs.first.first_where.Goals as goal

pub returns : goal.returns
returns g c holds b tests =
    let e = where_over holds c.in-None.ensures.steps b in
    rw (← c.loop-t.invariant.3 holds b tests, e) tt

pub test-requires : goal.test-requires
test-requires g c = c.requires _ (met c.in-Some.ensures.steps c.loop-t.invariant.2)

pub returns-then-test : goal.returns-then-test
returns-then-test g c holds b tests =
    let T = c.in-Some.ensures.steps in
    let k = c.loop-t.invariant.2 in
    let e = where_here holds T k (sym (tests _ _ (met T k) c.test.ensures) ∙ c.if-test.true) in
    rw (← c.loop-t.invariant.3 holds b tests, e) (refl, met T k)

pub loop-t-preserved : goal.loop-t-preserved
loop-t-preserved g c =
    let T = c.in-Some.ensures.steps in
    let k = c.loop-t.invariant.2 in (
      tt,
      tt,
      taken_text T ∙ k,
      λ holds b tests.
          sym (where_past holds T k (sym (tests _ _ (met T k) c.test.ensures) ∙ c.if-test.false)) ∙ c.loop-t.invariant.3 holds b tests,
    )
