-- `begin_pattern` meets its promise. Assumes nothing.
use mathlib.Core.Path.{◌≡◌, ap, sym, ◌∙◌, subst}
use native.Mathlib.Omega.{arith}
use lib.ListN.{length, get_or, set}
use Rattle.notation.specs.At.{name_at}
use Rattle.index.specs.PlaceLaws.{names_length}
use Rattle.writer.specs.Named.{names_of}
use Rattle.notation.specs.BelowLaws.{place_below}
use mathlib.Core.Bool.{true}
use Rattle.emitter.specs.Known.{Begins}
use Rattle.emitter.specs.KnownLaws.{begins_old, begins_new}
use Rattle.emitter.proofs.pattern.begin_pattern.Goals as goal

pub bounds-patterns-i : goal.bounds-patterns-i
bounds-patterns-i c = let a = c.args in
    let t = name_at a.names.text.now a.p in
    let ts = names_of a.names.text.now a.names.tables.now in
    omega (arith, c.requires.1, c.table-i.ensures.0, place_below t ts c.requires.2, names_length a.names.text.now a.names.tables.now (length a.names.tables.now) (omega arith))

pub returns-then-patterns-i-ne512 : goal.returns-then-patterns-i-ne512
returns-then-patterns-i-ne512 c = let a = c.args in
    let t = name_at a.names.text.now a.p in
    let ts = names_of a.names.text.now a.names.tables.now in
    begins_old a.patterns.now ts t c.requires.2 (subst (λ i. get_or a.patterns.now i 0 ≡ 512 → ⊥) c.table-i.ensures.0 c.if-patterns-i-ne512.true)

pub returns : goal.returns
returns c = let a = c.args in
    let t = name_at a.names.text.now a.p in
    let ts = names_of a.names.text.now a.names.tables.now in
    let e = c.table-i.ensures.0 in
    subst (λ i. Begins a.patterns.now ts t (set a.patterns.now i 513) true) (sym e)
    (begins_new a.patterns.now ts t c.requires.2 c.requires.0 (ap (λ i. get_or a.patterns.now i 0) (sym e) ∙ c.if-patterns-i-ne512.false))
