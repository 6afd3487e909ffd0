-- `end_pattern` meets its promise. Assumes nothing.
use mathlib.Core.Path.{sym, subst}
use native.Mathlib.Omega.{arith}
use lib.ListN.{length, set, length-set}
use Rattle.notation.specs.At.{name_at}
use Rattle.notation.specs.Patterns.{ends_at, put}
use Rattle.index.specs.PlaceLaws.{names_length}
use Rattle.writer.specs.Named.{names_of}
use Rattle.notation.specs.BelowLaws.{place_below}
use Rattle.emitter.specs.Known.{Tells}
use Rattle.emitter.specs.KnownLaws.{known_node, tells_put}
use Rattle.emitter.proofs.pattern.end_pattern.Goals as goal

pub bounds-patterns-i : goal.bounds-patterns-i
bounds-patterns-i c = let a = c.args in
    let t = name_at a.names.text.now a.opened.name in
    let ts = names_of a.names.text.now a.names.tables.now in
    omega (arith, c.requires.1, c.table-i.ensures.0, place_below t ts (c.requires.2 c.if-opened.true), names_length a.names.text.now a.names.tables.now (length a.names.tables.now) (omega arith))

pub returns-then-opened : goal.returns-then-opened
returns-then-opened c = let a = c.args in
    let t = name_at a.names.text.now a.opened.name in
    let ts = names_of a.names.text.now a.names.tables.now in
    record {
      tells = λ f T. rw c.if-opened.true
          (subst (λ i. Tells (set a.patterns.now i a.node) ts (put t (ends_at a.node) f)) (sym c.table-i.ensures.0)
          (rw (known_node a.node c.requires.3) at (tells_put a.patterns.now ts t f T c.requires.0 a.node)));
      long = simp length-set;
    }
