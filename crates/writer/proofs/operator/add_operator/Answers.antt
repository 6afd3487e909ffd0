-- `add_operator` meets its promise. Assumes nothing.
use Rattle.std.proofs.Common.{refl, sym, ap, ap₂, ◌∙◌, [], ◌∷◌}
use Rattle.format.specs.Written.{numbers}
use Rattle.grammar.specs.Expr.{Def, Block, Local, On}
use Rattle.notation.specs.At.{name_at}
use Rattle.writer.specs.Named.{place_by}
use Rattle.writer.specs.Operator.{opener_of}
use Rattle.writer.proofs.LeafLaws.{bit_byte}
use Rattle.writer.proofs.operator.add_operator.Goals as goal

pub returns-in-Def : goal.returns-in-Def
unfolding opener_of
returns-in-Def c production = let a = c.args in
    rw c.in-Def.is (c.add_table.ensures (Def (place_by a.names.text.now a.names.tables.now (name_at a.names.text.now a.p))) refl)

pub returns-in-Block : goal.returns-in-Block
unfolding opener_of
returns-in-Block c production = let a = c.args in
    rw c.in-Block.is (c.add.ensures (Block (place_by a.names.text.now a.names.tables.now (name_at a.names.text.now a.p)) a.a) (ap (λ t. numbers (15 ∷ t ∷ a.a ∷ [])) (sym c.table.ensures.0)))

pub returns-in-Local : goal.returns-in-Local
unfolding opener_of
returns-in-Local c production = let a = c.args in
    rw c.in-Local.is (c.add-in-Local.ensures (Local (place_by a.names.text.now a.names.tables.now (name_at a.names.text.now a.p)) a.a) (ap (λ t. numbers (16 ∷ t ∷ a.a ∷ [])) (sym c.table-in-Local.ensures.0)))

pub returns-in-On : goal.returns-in-On
unfolding opener_of
returns-in-On c production = let a = c.args in
    let w = c.in-On.truth in
    rw c.in-On.is (c.add-in-On.ensures (On (place_by a.names.text.now a.names.switches.now (name_at a.names.text.now a.p)) w a.a)
    (ap₂ (λ s b. numbers (18 ∷ s ∷ b ∷ a.a ∷ [])) (sym c.switch-switch.ensures.0) (bit_byte w ∙ sym c.from.ensures)))
