-- `operator` meets its promise: by the name behind the `<`. Assumes nothing.
use Rattle.lexer.proofs.NameLaws.{finds_at, finds_none, name_slice}
use Rattle.lexer.proofs.OperatorLaws.{no_word_begins, unknown_begins, operator_at}
use Rattle.lexer.proofs.operator.operator.Goals as goal

pub returns-in_err-from : goal.returns-in_err-from
returns-in_err-from c =
    rw c.from_residual.ensures (no_word_begins c.args.text.now c.args.start c.requires.0 c.requires.1 (finds_none c.name_from.ensures c.in_err-from.was))

pub returns-in_err-word : goal.returns-in_err-word
returns-in_err-word c = let f = finds_at c.name_from.ensures c.in_ok-from.was in
    rw c.from_residual-in_err-word.ensures (unknown_begins c.args.text.now c.args.start c.requires.0 c.requires.1 c.in_ok-from.field-0.start c.in_ok-from.field-0.next f.0
    (rw (name_slice c.name_from.ensures c.in_ok-from.was) at c.in_err-word.ensures))

pub behind_word-requires : goal.behind_word-requires
behind_word-requires c = let f = finds_at c.name_from.ensures c.in_ok-from.was in
    operator_at _ _ c.requires.0 c.requires.1 c.in_ok-from.field-0.start c.in_ok-from.field-0.next f.0 f.1 (rw (name_slice c.name_from.ensures c.in_ok-from.was) at c.in_ok-word.ensures)
