-- `is_undefined` meets its promise. Assumes nothing.
use Rattle.std.proofs.Common.{ℕ, sym, ◌∙◌, List, length, rules}
use Rattle.notation.specs.Tree.{Name}
use Rattle.index.specs.Listed.{names_at}
use Rattle.naming.proofs.UndefinedLaws.{call_told, ask_told, none_told}
use Rattle.naming.proofs.undefined.is_undefined.Goals as goal

-- The names at the places of a list.
abbrev all_at : (text places : List ℕ) → List Name
all_at text places = names_at text places (length places)

pub returns-then-eq : goal.returns-then-eq
returns-then-eq c =
    let a = c.args in
    let text = a.text.now in
    c.is_missing.ensures ∙ sym (call_told (all_at text a.heads.now) (all_at text a.tables.now) text a.t (search rules))

pub returns-then-asks : goal.returns-then-asks
returns-then-asks c =
    let a = c.args in
    let text = a.text.now in
    c.is_missing-then-asks.ensures
    ∙ sym (ask_told (all_at text a.heads.now) (all_at text a.tables.now) text a.t (sym c.asks.ensures ∙ c.if-asks.true))

pub returns-else-asks : goal.returns-else-asks
returns-else-asks c =
    let a = c.args in
    let text = a.text.now in
    c.if-asks.false
    ∙ sym (none_told (all_at text a.heads.now) (all_at text a.tables.now) text a.t (search rules) (sym c.asks.ensures ∙ c.if-asks.false))
