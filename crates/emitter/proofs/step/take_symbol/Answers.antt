-- `take_symbol` meets its promise. Assumes nothing.
use Rattle.std.proofs.Common.{◌-◌, get_or, subst, sym}
use Rattle.notation.specs.At.{name_at}
use Rattle.lexer.specs.Meant.{leaf_at}
use Rattle.walker.specs.Walks.{symbol_at}
use Rattle.writer.specs.declared.operator.Unary.TheVariants.{And, Not, After}
use Rattle.writer.specs.declared.operator.Binary.TheVariants.{Sequence, Choice}
use Rattle.writer.specs.Named.{names_of, place_by, production_by}
use Rattle.writer.specs.Operator.{opener_token}
use Rattle.emitter.specs.Shown.{Tabled, Apt}
use Rattle.emitter.specs.StepLaws.{shown_stand, shown_follow, shown_leave, shown_join, shown_enter, shown_begin}
use Rattle.emitter.proofs.AptLaws.{tells_length, latest_tabled, unary_asks, join_asks}
use Rattle.emitter.proofs.step.take_symbol.Goals as goal

pub enter-requires-clause-ascending : goal.enter-requires-clause-ascending
enter-requires-clause-ascending c = let a = c.args in
    let h = subst (λ x. Apt (names_of a.names.text.now a.names.tables.now) (symbol_at a.names.text.now a.t x) a.s) c.in-Opens.is c.requires.shown.3 in (
      c.requires.ascending.1.tables_listed,
      tells_length a.patterns.now a.names.text.now a.names.tables.now c.requires.shown.0.known c.requires.shown.1.known_shown,
      subst (Tabled (names_of a.names.text.now a.names.tables.now)) (sym (opener_token a.names.text.now a.t c.in-Opens.opener)) h.0,
    )

pub leave-requires-clause-numbered : goal.leave-requires-clause-numbered
leave-requires-clause-numbered c = let a = c.args in
    let S = c.requires.shown.1 in
    let h = subst (λ x. Apt (names_of a.names.text.now a.names.tables.now) (symbol_at a.names.text.now a.t x) a.s) c.in-Closes.is c.requires.shown.3 in
    (c.requires.ascending.1, tells_length a.patterns.now a.names.text.now a.names.tables.now c.requires.shown.0.known S.known_shown, latest_tabled S h.1 c.requires.shown.2)

pub follow-requires : goal.follow-requires
follow-requires c = let a = c.args in
    let S = c.requires.shown.1 in
    let u = unary_asks S And (subst (λ x. Apt (names_of a.names.text.now a.names.tables.now) (symbol_at a.names.text.now a.t x) a.s) c.in-And.is c.requires.shown.3) in
    (S.long_done, u.0, S.tall, u.1 (get_or a.stacks.now.done (a.s.complete - 1) 0))

pub follow-requires-in-Not : goal.follow-requires-in-Not
follow-requires-in-Not c = let a = c.args in
    let S = c.requires.shown.1 in
    let u = unary_asks S Not (subst (λ x. Apt (names_of a.names.text.now a.names.tables.now) (symbol_at a.names.text.now a.t x) a.s) c.in-Not.is c.requires.shown.3) in
    (S.long_done, u.0, S.tall, u.1 (get_or a.stacks.now.done (a.s.complete - 1) 0))

pub follow-requires-in-After : goal.follow-requires-in-After
follow-requires-in-After c = let a = c.args in
    let S = c.requires.shown.1 in
    let u = unary_asks S (After c.in-After.suffix) (subst (λ x. Apt (names_of a.names.text.now a.names.tables.now) (symbol_at a.names.text.now a.t x) a.s) c.in-After.is c.requires.shown.3) in
    (S.long_done, u.0, S.tall, u.1 (get_or a.stacks.now.done (a.s.complete - 1) 0))

pub returns-in-Head : goal.returns-in-Head
returns-in-Head c st S = let a = c.args in
    rw c.in-Head.is
    (shown_begin (production_by a.names.text.now a.names.heads.now a.names.roots.now) (place_by a.names.text.now a.names.tables.now) (place_by a.names.text.now a.names.switches.now) S (name_at a.names.text.now a.t.name) c.begin.ensures)

pub returns-in-Leaf : goal.returns-in-Leaf
returns-in-Leaf c st S = let a = c.args in
    rw c.in-Leaf.is
    (shown_stand (production_by a.names.text.now a.names.heads.now a.names.roots.now) (place_by a.names.text.now a.names.tables.now) (place_by a.names.text.now a.names.switches.now) S (leaf_at a.names.text.now a.t c.in-Leaf.leaf) c.stand.ensures)

pub returns-in-Opens : goal.returns-in-Opens
returns-in-Opens c st S = let a = c.args in
    rw (c.in-Opens.is, ← (opener_token a.names.text.now a.t c.in-Opens.opener))
    (shown_enter (production_by a.names.text.now a.names.heads.now a.names.roots.now) (place_by a.names.text.now a.names.tables.now) (place_by a.names.text.now a.names.switches.now) S c.enter.ensures)

pub returns-in-Closes : goal.returns-in-Closes
returns-in-Closes c st S = let a = c.args in
    let calls = production_by a.names.text.now a.names.heads.now a.names.roots.now in
    let h = subst (λ x. Apt (names_of a.names.text.now a.names.tables.now) (symbol_at a.names.text.now a.t x) a.s) c.in-Closes.is c.requires.shown.3 in
    rw c.in-Closes.is
    (shown_leave calls (place_by a.names.text.now a.names.tables.now) (place_by a.names.text.now a.names.switches.now) S h.0 h.1 (c.leave.ensures.grows calls) c.leave.ensures.ends)

pub returns-in-And : goal.returns-in-And
returns-in-And c st S = let a = c.args in
    let u = unary_asks S And (subst (λ x. Apt (names_of a.names.text.now a.names.tables.now) (symbol_at a.names.text.now a.t x) a.s) c.in-And.is c.requires.shown.3) in
    rw c.in-And.is
    (shown_follow (production_by a.names.text.now a.names.heads.now a.names.roots.now) (place_by a.names.text.now a.names.tables.now) (place_by a.names.text.now a.names.switches.now) S u.0 And c.follow.ensures)

pub returns-in-Not : goal.returns-in-Not
returns-in-Not c st S = let a = c.args in
    let u = unary_asks S Not (subst (λ x. Apt (names_of a.names.text.now a.names.tables.now) (symbol_at a.names.text.now a.t x) a.s) c.in-Not.is c.requires.shown.3) in
    rw c.in-Not.is
    (shown_follow (production_by a.names.text.now a.names.heads.now a.names.roots.now) (place_by a.names.text.now a.names.tables.now) (place_by a.names.text.now a.names.switches.now) S u.0 Not c.follow-in-Not.ensures)

pub returns-in-After : goal.returns-in-After
returns-in-After c st S = let a = c.args in
    let q = c.in-After.suffix in
    let u = unary_asks S (After q) (subst (λ x. Apt (names_of a.names.text.now a.names.tables.now) (symbol_at a.names.text.now a.t x) a.s) c.in-After.is c.requires.shown.3) in
    rw c.in-After.is
    (shown_follow (production_by a.names.text.now a.names.heads.now a.names.roots.now) (place_by a.names.text.now a.names.tables.now) (place_by a.names.text.now a.names.switches.now) S u.0 (After q) c.follow-in-After.ensures)

pub returns-in-Sequence : goal.returns-in-Sequence
returns-in-Sequence c st S = let a = c.args in
    let u = join_asks S Sequence (subst (λ x. Apt (names_of a.names.text.now a.names.tables.now) (symbol_at a.names.text.now a.t x) a.s) c.in-Sequence.is c.requires.shown.3) in
    rw c.in-Sequence.is
    (shown_join (production_by a.names.text.now a.names.heads.now a.names.roots.now) (place_by a.names.text.now a.names.tables.now) (place_by a.names.text.now a.names.switches.now) S u.0 Sequence c.join.ensures)

pub returns-in-Choice : goal.returns-in-Choice
returns-in-Choice c st S = let a = c.args in
    let u = join_asks S Choice (subst (λ x. Apt (names_of a.names.text.now a.names.tables.now) (symbol_at a.names.text.now a.t x) a.s) c.in-Choice.is c.requires.shown.3) in
    rw c.in-Choice.is
    (shown_join (production_by a.names.text.now a.names.heads.now a.names.roots.now) (place_by a.names.text.now a.names.tables.now) (place_by a.names.text.now a.names.switches.now) S u.0 Choice c.join-in-Choice.ensures)
