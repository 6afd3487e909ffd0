-- `word_of` meets its promise: by the first word that the name is. Assumes nothing.
use mathlib.Core.Path.{sym, ◌∙◌}
use native.Mathlib.Omega.{arith}
use Rattle.lexer.proofs.WordLaws.{words, all_left, none_left, here_left, on_left}
use Rattle.lexer.proofs.word.word_of.Goals as goal

pub loop-spelled-init : goal.loop-spelled-init
loop-spelled-init c = all_left (words _)

pub returns-then-eq : goal.returns-then-eq
returns-then-eq c = here_left c.loop-spelled.invariant _ (omega arith) (sym c.eq.ensures ∙ c.if-eq.true)

pub loop-spelled-preserved : goal.loop-spelled-preserved
loop-spelled-preserved c = on_left c.loop-spelled.invariant _ (omega arith) (sym c.eq.ensures ∙ c.if-eq.false)

pub returns : goal.returns
returns c = none_left c.loop-spelled.invariant (omega arith)
