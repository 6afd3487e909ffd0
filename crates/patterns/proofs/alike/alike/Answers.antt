-- `alike` meets its promise. The loop's invariant: the two walks from here on come to what they come to from the start. The measure is what is to go
-- of the first. Assumes nothing.
use mathlib.Core.Path.{sym, ◌∙◌}
use native.Mathlib.Omega.{arith}
use borrow.Author.Rules.{rules}
use Rattle.walker.specs.SymbolLaws.{taken_shown}
use Rattle.patterns.proofs.BesideLaws.{one_more, none_more, beside_start, beside_more, first_ends, symbol_alone, break_alone, both_broken, contents_differ}
use Rattle.patterns.proofs.alike.alike.Goals as goal

pub loop-symbol-init : goal.loop-symbol-init
loop-symbol-init c = let r = c.requires in beside_start _ _ r.2 r.0 r.1 c.inside-v.ensures c.inside-w.ensures

pub same_contents-requires : goal.same_contents-requires
same_contents-requires c = let s = c.in-Symbol-Symbol in let t = c.args.text.now in
    let A = rw s.is-0 at c.next-a.ensures in
    let B = rw s.is-1 at c.next-b.ensures in (taken_shown t s.token s.symbol A.nexts.taken, taken_shown t s.twin s.other B.nexts.taken)

pub returns-then-not-same_contents : goal.returns-then-not-same_contents
returns-then-not-same_contents c = let i = c.loop-symbol.invariant in let s = c.in-Symbol-Symbol in
    let A = rw s.is-0 at c.next-a.ensures in
    let B = rw s.is-1 at c.next-b.ensures in (
      sym i.streams ∙ contents_differ A B (sym c.same_contents.ensures ∙ c.if-not-same_contents.true),
      A.long ∙ i.left_long,
      B.long ∙ i.right_long,
    )

pub loop-symbol-preserved-then-eq : goal.loop-symbol-preserved-then-eq
loop-symbol-preserved-then-eq c = let s = c.in-Symbol-Symbol in
    rw (one_more c.loop-symbol.defs s.symbol (search rules))
    (beside_more c.loop-symbol.invariant (rw s.is-0 at c.next-a.ensures) (rw s.is-1 at c.next-b.ensures)
    (sym c.same_contents.ensures ∙ c.if-not-same_contents.false))

pub loop-symbol-preserved : goal.loop-symbol-preserved
loop-symbol-preserved c = let s = c.in-Symbol-Symbol in
    rw (none_more c.loop-symbol.defs s.symbol (λ e. search rules))
    (beside_more c.loop-symbol.invariant (rw s.is-0 at c.next-a.ensures) (rw s.is-1 at c.next-b.ensures)
    (sym c.same_contents.ensures ∙ c.if-not-same_contents.false))

pub returns-in-Broken-Broken : goal.returns-in-Broken-Broken
returns-in-Broken-Broken c = let i = c.loop-symbol.invariant in
    let A = rw c.in-Broken-Broken.is-0 at c.next-a.ensures in
    let B = rw c.in-Broken-Broken.is-1 at c.next-b.ensures in
    let h = both_broken A B in
    ((sym i.streams ∙ h.0, omega (arith, h.1, i.count)), A.long ∙ i.left_long, B.long ∙ i.right_long)

pub returns-in_default : goal.returns-in_default
returns-in_default c = let i = c.loop-symbol.invariant in
    let A = rw c.in_default.is-0 at c.next-a.ensures in
    let B = c.next-b.ensures in
    (sym i.streams ∙ symbol_alone c.next-b.result A B c.in_default.not-Symbol-1, A.long ∙ i.left_long, B.long ∙ i.right_long)

pub returns-in_default-2 : goal.returns-in_default-2
returns-in_default-2 c = let i = c.loop-symbol.invariant in
    let A = rw c.in_default.is-0 at c.next-a.ensures in
    let B = c.next-b.ensures in
    (sym i.streams ∙ break_alone c.next-b.result A B c.in_default.not-Broken-1, A.long ∙ i.left_long, B.long ∙ i.right_long)

pub returns-in_default-3 : goal.returns-in_default-3
returns-in_default-3 c = let i = c.loop-symbol.invariant in
    let A = rw c.in_default.is-0 at c.next-a.ensures in
    let B = c.next-b.ensures in
    (sym i.streams ∙ first_ends A B, A.long ∙ i.left_long, B.long ∙ i.right_long)
