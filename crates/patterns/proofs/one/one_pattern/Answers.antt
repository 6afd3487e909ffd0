-- `one_pattern` meets its promise. The loop's invariant: the pass has come to the defs from here on. Assumes nothing.
use mathlib.Core.Path.{ap, sym, ◌∙◌}
use borrow.Author.Rules.{rules}
use Rattle.lexer.proofs.StreamLaws.{taken_text}
use Rattle.patterns.proofs.OneLaws.{its_kind, def_left, other_left, left_behind, ended_left, starts, passes_end, at_fault}
use Rattle.patterns.proofs.one.one_pattern.Goals as goal

pub loop-t-init : goal.loop-t-init
loop-t-init c = let h = c.new-t-items.ensures in let i = c.into_iter-t-iterator.ensures.into_iter_gives in
    let e = ap (λ s. s.text.now) i ∙ h.text in
    (tt, tt, e, starts c.into_iter-t-iterator.result e (ap (λ s. s.at) i ∙ h.front) _ (search rules), search rules, search rules)

pub hold-requires : goal.hold-requires
hold-requires c = let i = c.loop-t.invariant in let T = c.in-Some.ensures.steps in let d = sym c.is_def.ensures ∙ c.if-is_def.true in
    (i.4, i.5, c.requires, record { from = c.loop-t.t-iterator.at; lexed = rw i.2 at T.lexed; def = its_kind c.in-Some.t.kind d }, rw (def_left T i.2 d, left_behind T i.2) at i.3)

pub returns-in-None-hold : goal.returns-in-None-hold
returns-in-None-hold c = let i = c.loop-t.invariant in let T = c.in-Some.ensures.steps in let L = rw i.2 at T.lexed in
    at_fault c.args.text.now c.in-Some.t L.inside (rw c.in-None-hold.is at c.hold.ensures).0

pub loop-t-preserved : goal.loop-t-preserved
loop-t-preserved c = let i = c.loop-t.invariant in let T = c.in-Some.ensures.steps in
    (tt, tt, taken_text T ∙ i.2, rw (other_left T i.2 (sym c.is_def.ensures ∙ c.if-is_def.false)) at i.3, i.4, i.5)

pub returns : goal.returns
returns c = passes_end (ended_left c.in-None.ensures.steps c.loop-t.invariant.3)
