-- `order_in_front` meets its promise. Assumes nothing.
use Rattle.std.proofs.Common.{refl, sym, ◌∙◌, rules, tests}
use Rattle.std.proofs.lemmas.Iterator.{YieldsList-from_slice, YieldsList-from_zip}
use Rattle.std.proofs.lemmas.Iterator.Search.{find_from_yields_List}
use Rattle.index.proofs.NameLaws.{ends, by_found, by_shorter}
use Rattle.index.proofs.order.order_in_front.Goals as goal

pub returns-in-Some : goal.returns-in-Some
returns-in-Some c =
    let a = c.args.a.now in
    let b = c.args.b.now in
    let found = find_from_yields_List ends c.find.new.self _ c.find.result c.find.ensures.ran (YieldsList-from_zip (YieldsList-from_slice a cc) (YieldsList-from_slice b cc)) (λ x b q k. search (rules, tests)) in
    rw (c.cmp.ensures, c.named.ensures, c.named-in-Some.ensures) (by_found a b c.in-Some.x.now c.in-Some.y.now (sym found ∙ rw c.in-Some.is refl))

pub returns-in-None : goal.returns-in-None
returns-in-None c =
    let a = c.args.a.now in
    let b = c.args.b.now in
    let found = find_from_yields_List ends c.find.new.self _ c.find.result c.find.ensures.ran (YieldsList-from_zip (YieldsList-from_slice a cc) (YieldsList-from_slice b cc)) (λ x b q k. search (rules, tests)) in
    rw (c.cmp-in-None.ensures, c.named_at.ensures, c.named_at-in-None.ensures) (by_shorter a b c.min-end.result (sym found ∙ rw c.in-None.is refl) c.min-end.ensures)
