-- `begin_operator` meets its promise. Assumes nothing.
use Rattle.std.proofs.Common.{arith, subst}
use Rattle.notation.specs.At.{name_at}
use Rattle.writer.specs.Named.{names_of}
use Rattle.writer.specs.Operator.{opener_of}
use Rattle.emitter.specs.Shown.{Tabled}
use Rattle.emitter.proofs.MarkLaws.{marks_def, marks_none}
use Rattle.emitter.proofs.pattern.begin_operator.Goals as goal

pub begin_pattern-requires : goal.begin_pattern-requires
unfolding opener_of
begin_pattern-requires c = let a = c.args in
    let ts = names_of a.names.text.now a.names.tables.now in
    (c.requires.0, c.requires.1, subst (λ o. Tabled ts (opener_of o (name_at a.names.text.now a.p))) c.in-Def.is c.requires.2)

pub returns-in-Def : goal.returns-in-Def
unfolding opener_of
returns-in-Def c = let a = c.args in
    rw c.in-Def.is (marks_def (names_of a.names.text.now a.names.tables.now) a.patterns.now (name_at a.names.text.now a.p) _ c.begin_pattern.result (omega arith) c.begin_pattern.ensures)

pub returns-in_default : goal.returns-in_default
returns-in_default c = let a = c.args in
    marks_none (names_of a.names.text.now a.names.tables.now) a.patterns.now (name_at a.names.text.now a.p) a.opener c.in_default.not-Def
