-- `ends` meets its promise: by what is open, and the token's kind. Assumes nothing.
use mathlib.Core.Path.{◌≡◌, ◌∙◌, ap, sym}
use native.Mathlib.Omega.{arith}
use borrow.Author.Rules.{rules}
use Rattle.walker.specs.Acts.{closer_of}
use Rattle.walker.proofs.ActLaws.{bracket_closed, bracket_open}
use Rattle.walker.proofs.act.ends.Goals as goal

pub returns-then-height-eq0 : goal.returns-then-height-eq0
returns-then-height-eq0 c = λ s e. rw c.if-height-eq0.true (c.bottom.ensures s)

pub returns-then-eq : goal.returns-then-eq
returns-then-eq c = λ s e. let q : c.args.kind ≡ c.closer.result = search rules in
    bracket_closed c.args.height s (rw e c.requires.0) (omega arith) (q ∙ c.closer.ensures ∙ ap closer_of (sym e))

pub returns : goal.returns
returns c = λ s e. let n : c.args.kind ≡ c.closer.result → ⊥ = (λ q. search rules) in
    bracket_open c.args.height s (rw e c.requires.0) (omega arith) c.requires.1 (λ q. n (q ∙ ap closer_of e ∙ sym c.closer.ensures))
