-- `is_long` meets its promise. Assumes nothing.
use Rattle.std.proofs.Common.{ap, sym, ◌∙◌, rules}
use lib.Dec.{ltb}
use Rattle.lexer.proofs.LeafLaws.{quoted_here}
use Rattle.naming.proofs.LongLaws.{long_here, short_other}
use Rattle.naming.proofs.long.is_long.Goals as goal

pub quoted_length-requires : goal.quoted_length-requires
quoted_length-requires c = quoted_here c.requires.lexed (search rules)

pub returns-then-eq : goal.returns-then-eq
returns-then-eq c = ap (ltb 64) c.quoted_length.ensures ∙ sym (long_here c.args.text.now c.args.t (search rules))

pub returns-else-eq : goal.returns-else-eq
returns-else-eq c = c.if-eq.false ∙ sym (short_other c.args.text.now c.args.t (search rules))
