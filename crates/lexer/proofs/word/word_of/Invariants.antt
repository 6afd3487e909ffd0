-- `word_of` meets its promise. The loop's invariant: what the words from here on say of the name is what is wanted.
use Rattle.notation.specs.Lexer.{word}
use Rattle.lexer.proofs.WordLaws.{Left}
use Rattle.lexer.proofs.word.word_of.Given as goal

abbrev pub invariant-loop-spelled : goal.invariant-loop-spelled
invariant-loop-spelled l = Left l.spelled-items l.spelled-index l.name (word l.name)
