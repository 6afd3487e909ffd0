-- `same_quoted` meets its promise: by the two rows of bytes. Assumes nothing.
use Rattle.std.proofs.Common.{◌∙◌, ap₂}
use Rattle.notation.specs.Lexer.{same}
use Rattle.chars.proofs.CompareLaws.{compared, bytes_compare}
use Rattle.chars.proofs.quoted.same_quoted.Goals as goal

pub returns : goal.returns
returns c = compared bytes_compare c.eq.ensures.ran ∙ ap₂ same c.quoted.ensures c.quoted-2.ensures
