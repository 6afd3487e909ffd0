-- `same_class` meets its promise: by the two rows of parts. Assumes nothing.
use Rattle.std.proofs.Common.{◌∙◌, ap₂}
use Rattle.notation.specs.Lexer.{same}
use Rattle.notation.specs.Symbols.{ends}
use Rattle.chars.proofs.CompareLaws.{compared, parts_compare}
use Rattle.chars.proofs.class.same_class.Goals as goal

pub returns : goal.returns
returns c = compared parts_compare c.eq.ensures.ran ∙ ap₂ (λ p q. same (ends p) (ends q)) c.class.ensures c.class-2.ensures
