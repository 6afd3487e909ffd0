-- `gather` meets its promise. The loop's invariant: what is gathered, with what is still to come, is what the whole text gives. Assumes nothing.
use Rattle.std.proofs.Common.{ℕ, ◌≡◌, ap, ◌∙◌, Bool, List, arith}
use Rattle.notation.specs.Lexer.{lexemes}
use Rattle.notation.specs.At.{name_at}
use Rattle.lexer.specs.Meant.{meant}
use Rattle.lexer.specs.declared.token.Token as lexer
use Rattle.lexer.proofs.StreamLaws.{taken_text, ended}
use Rattle.naming.specs.Told.{named}
use Rattle.naming.specs.Gathered.{sort_of}
use Rattle.naming.specs.declared.gather.Sort.{Sort}
use Rattle.naming.proofs.StepLaws.{met, steps, name_is}
use Rattle.naming.proofs.GatherLaws.{sort_bad, Gathering, gathering_room, gathering_past, gathering_on, gathering_all}
use Rattle.naming.proofs.gather.gather.Goals as goal

pub add-g-requires : goal.add-g-requires
add-g-requires c =
    let a = c.args in
    let v = c.loop-t.invariant in
    let M = met c.in-Some.ensures.steps v.2 in (
      omega (arith, gathering_room (sort_of a.sort) a.text.now (lexemes a.text.now) v.4, c.requires.1, v.3),
      omega (arith, M.lexed.name_inside M.one, c.requires.0),
      v.4.ordered,
    )

-- What the token's sort says of it.
says : (sort : Sort) (text : List ℕ) (t : lexer.Token) {b d : Bool} → sort_of sort (meant text t) ≡ named b (name_at text t.name) → b ≡ d
    → sort_of sort (meant text t) ≡ named d (name_at text t.name)
says sort text t e f = e ∙ ap (λ b. named b (name_at text t.name)) f

pub loop-t-preserved-then-is_of : goal.loop-t-preserved-then-is_of
loop-t-preserved-then-is_of c =
    let a = c.args in
    let text = a.text.now in
    let v = c.loop-t.invariant in
    let T = c.in-Some.ensures.steps in
    let A = c.add-g.ensures in (
      tt,
      tt,
      taken_text T ∙ v.2,
      A.long ∙ v.3,
      gathering_on (sort_of a.sort) text (lexemes text) (name_is (met T v.2)) (says a.sort text _ (c.is_of.ensures text) c.if-is_of.true) A
          (rw (steps T v.2) at v.4),
    )

pub loop-t-preserved : goal.loop-t-preserved
loop-t-preserved c =
    let a = c.args in
    let text = a.text.now in
    let v = c.loop-t.invariant in
    let T = c.in-Some.ensures.steps in (
      tt,
      tt,
      taken_text T ∙ v.2,
      v.3,
      gathering_past (sort_of a.sort) text (lexemes text) (says a.sort text _ (c.is_of.ensures text) c.if-is_of.false) (rw (steps T v.2) at v.4),
    )

pub returns : goal.returns
returns c =
    let a = c.args in
    let f = sort_of a.sort in
    let text = a.text.now in
    gathering_all f text
    (ended c.in-None.ensures.steps (Gathering f text (lexemes text) c.loop-t.at c.loop-t.g)
    (λ x e. gathering_past f text (lexemes text) (ap f e ∙ sort_bad a.sort)) c.loop-t.invariant.4)
