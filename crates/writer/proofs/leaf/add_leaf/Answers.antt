-- `add_leaf` meets its promise. Assumes nothing.
use Rattle.std.proofs.Common.{◌≡◌, true, refl, ap, ap₂, sym, subst, ◌∙◌, [], ◌∷◌, drop}
use Rattle.format.specs.Written.{numbers}
use Rattle.grammar.specs.Expr.{Any, Call, Match, Is, Isa, Exists, If}
use Rattle.lexer.specs.Meant.{leaf_at}
use Rattle.notation.specs.Naming.{all}
use Rattle.notation.specs.Limits.{short}
use Rattle.notation.specs.At.{name_at, quoted_of}
use Rattle.notation.specs.Compile.{leaf_count}
use Rattle.writer.specs.Leaf.{LeafTaken}
use Rattle.writer.specs.Put.{Room}
use Rattle.writer.specs.Named.{place_by, production_by}
use Rattle.writer.proofs.LeafLaws.{bit_byte, taken_quoted, taken_class, short_quoted}
use Rattle.writer.proofs.leaf.add_leaf.Goals as goal

pub add_quoted-requires : goal.add_quoted-requires
unfolding leaf_at
add_quoted-requires c =
    let a = c.args in
    let e = c.in-Quoted.is in (
      taken_quoted a.names.text.now a.t (subst (LeafTaken a.names.text.now a.t) e c.requires.ascending.2),
      short_quoted (quoted_of (drop a.t.start a.names.text.now)) (subst (λ l. all (λ b. b) (short (leaf_at a.names.text.now a.t l)) ≡ true) e c.requires.room.0),
      subst (λ l. Room a.out.now a.m (leaf_count (leaf_at a.names.text.now a.t l))) e c.requires.room.1,
    )

pub add_class-requires : goal.add_class-requires
unfolding leaf_at
add_class-requires c =
    let a = c.args in
    let e = c.in-Class.is in
    let k = taken_class a.names.text.now a.t (subst (LeafTaken a.names.text.now a.t) e c.requires.ascending.2) in
    (k.0, k.1, subst (λ l. Room a.out.now a.m (leaf_count (leaf_at a.names.text.now a.t l))) e c.requires.room.1)

pub returns-in-Any : goal.returns-in-Any
unfolding leaf_at
returns-in-Any c = rw c.in-Any.is (c.add.ensures Any refl)

pub returns-in-Class : goal.returns-in-Class
unfolding leaf_at
returns-in-Class c = let a = c.args in
    rw c.in-Class.is
    (c.add_class.ensures (production_by a.names.text.now a.names.heads.now a.names.roots.now) (place_by a.names.text.now a.names.tables.now) (place_by a.names.text.now a.names.switches.now))

pub returns-in-Call : goal.returns-in-Call
unfolding leaf_at
returns-in-Call c = let a = c.args in
    rw c.in-Call.is
    (c.add-in-Call.ensures (Call (production_by a.names.text.now a.names.heads.now a.names.roots.now (name_at a.names.text.now a.t.name))) (ap (λ n. numbers (9 ∷ n ∷ [])) (sym c.root.ensures)))

pub returns-in-Match : goal.returns-in-Match
unfolding leaf_at
returns-in-Match c = let a = c.args in
    rw c.in-Match.is (c.add_table.ensures (Match (place_by a.names.text.now a.names.tables.now (name_at a.names.text.now a.t.name))) refl)

pub returns-in-Is : goal.returns-in-Is
unfolding leaf_at
returns-in-Is c = let a = c.args in
    rw c.in-Is.is (c.add_table-in-Is.ensures (Is (place_by a.names.text.now a.names.tables.now (name_at a.names.text.now a.t.name))) refl)

pub returns-in-Isa : goal.returns-in-Isa
unfolding leaf_at
returns-in-Isa c = let a = c.args in
    rw c.in-Isa.is (c.add_table-in-Isa.ensures (Isa (place_by a.names.text.now a.names.tables.now (name_at a.names.text.now a.t.name))) refl)

pub returns-in-Exists : goal.returns-in-Exists
unfolding leaf_at
returns-in-Exists c = let a = c.args in
    rw c.in-Exists.is (c.add_table-in-Exists.ensures (Exists (place_by a.names.text.now a.names.tables.now (name_at a.names.text.now a.t.name))) refl)

pub returns-in-If : goal.returns-in-If
unfolding leaf_at
returns-in-If c = let a = c.args in
    let w = c.in-If.truth in
    rw c.in-If.is (c.add-in-If.ensures (If (place_by a.names.text.now a.names.switches.now (name_at a.names.text.now a.t.name)) w)
    (ap₂ (λ s b. numbers (17 ∷ s ∷ b ∷ [])) (sym c.switch-switch.ensures.0) (bit_byte w ∙ sym c.from.ensures)))
