-- `same_contents` meets its promise: by the symbol. Assumes nothing.
use mathlib.Core.Path.{◌≡◌, ap, sym, ◌∙◌}
use mathlib.Core.Logic.{⊎_elim}
use borrow.Author.Rules.{rules}
use Rattle.notation.specs.Symbols.{same_symbol}
use Rattle.walker.specs.Walks.{symbol_at}
use Rattle.patterns.proofs.ContentsLaws.{heads_same, openers_same, symbols_differ}
use Rattle.patterns.proofs.contents.same_contents.Goals as goal

pub returns-then-ne : goal.returns-then-ne
returns-then-ne c = let a = c.args in
    sym (symbols_differ a.text.now a.a a.b a.symbol a.other c.requires.0 c.requires.1 (λ e. search rules))

pub returns-in-Head : goal.returns-in-Head
returns-in-Head c = let a = c.args in let t = a.text.now in let e : a.symbol ≡ a.other = (search rules) in
    c.same_name.ensures
    ∙ ⊎_elim (λ e. rw e (heads_same t a.a a.b)) (λ e. rw e.1 (openers_same t a.a a.b e.0)) c.in-Head.is
    ∙ ap (λ s. same_symbol (symbol_at t a.a a.symbol) (symbol_at t a.b s)) e
