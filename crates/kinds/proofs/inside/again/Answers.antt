-- `again` meets its promise. Assumes nothing.
use Prim.Native.Nat.{◌+◌, ◌-◌}
use mathlib.Core.Path.{ap, sym, ◌∙◌, subst}
use lib.ListN.{length, drop}
use Rattle.meaning.specs.Outcome.{text, begins}
use Rattle.meaning.specs.Inside.{Part}
use Rattle.parts.specs.Slots.{meant}
use Rattle.parts.proofs.FrontLaws.{starts_begins}
use Rattle.kinds.specs.Turned.{given_of}
use Rattle.kinds.specs.TurnedLaws.{text_length}
use Rattle.kinds.proofs.inside.again.Goals as goal

pub returns : goal.returns
returns c = let a = c.args in
    let read = c.symbol_at-symbol in
    let s = meant read.result in
    let y = text a.input.now s in
    let rest = drop a.at a.input.now in
    c.given.ensures ∙ ap (λ b. given_of b (a.at + (s.to - s.from)) a.held a.steps a.depth) (c.starts_with-ok.ensures.value ∙ starts_begins y a.input.now a.at)
    ∙ ap (λ n. given_of (begins y rest) (a.at + n) a.held a.steps a.depth) (sym (text_length a.input.now s (subst (Part (length a.input.now)) (sym read.ensures) c.requires.4)))
    ∙ ap (λ s. given_of (begins (text a.input.now s) rest) (a.at + length (text a.input.now s)) a.held a.steps a.depth) read.ensures
