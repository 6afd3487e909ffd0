-- `behind_word` meets its promise: by what follows the word, one after the other. Assumes nothing.
use Rattle.lexer.proofs.NameLaws.{finds_at, finds_none}
use Rattle.lexer.proofs.OperatorLaws.{no_kind_begins, no_name_begins, no_close_begins, open_begins, close_begins}
use Rattle.lexer.proofs.operator.behind_word.Goals as goal

pub returns-in_err-kind : goal.returns-in_err-kind
returns-in_err-kind c = rw c.from_residual.ensures (no_kind_begins _ c.requires c.in_err-kind.ensures)

pub returns-in_err-name : goal.returns-in_err-name
returns-in_err-name c =
    rw c.from_residual-in_err-name.ensures (no_name_begins _ c.requires _ c.in_ok-kind.ensures.is (finds_none c.name_from.ensures c.in_err-name.was))

pub returns-in_err-next-in-Asks : goal.returns-in_err-next-in-Asks
returns-in_err-next-in-Asks c =
    let f = finds_at c.name_from.ensures c.in_ok-name.was in
    let e = c.in_ok-kind.ensures in
    rw c.from_residual-in_err-next-in-Asks.ensures (no_close_begins _ c.requires _ e.is f.0 e.onward f.1 c.in-Asks.is c.in_err-next-in-Asks.ensures)

pub returns-in_ok-next-in-Asks : goal.returns-in_ok-next-in-Asks
returns-in_ok-next-in-Asks c =
    let f = finds_at c.name_from.ensures c.in_ok-name.was in
    let e = c.in_ok-kind.ensures in
    close_begins _ c.requires _ e.is f.0 e.onward f.1 c.in-Asks.is c.in_ok-next-in-Asks.ensures

pub returns-in-Opens : goal.returns-in-Opens
returns-in-Opens c =
    let f = finds_at c.name_from.ensures c.in_ok-name.was in
    let e = c.in_ok-kind.ensures in
    open_begins _ c.requires _ e.is f.0 e.onward f.1 c.in-Opens.is
