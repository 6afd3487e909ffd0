-- `lacking` meets its promise: what is gathered decides what is undefined. Assumes nothing.
use mathlib.Core.Path.{ap, ◌∙◌}
use Rattle.notation.specs.Uses.{head_of}
use Rattle.notation.specs.Places.{name_place}
use Rattle.notation.specs.Lexer.{lexemes}
use Rattle.naming.specs.Found.{found}
use Rattle.naming.specs.GatheredLaws.{gathered_ascending}
use Rattle.naming.specs.UndefinedLaws.{undefined_gathered}
use Rattle.compiler.proofs.ListedLaws.{enough, gathers_listed, gathers_ascending}
use Rattle.naming.specs.declared.gather.Sort.TheVariants.{Tables}
use Rattle.compiler.proofs.judge.lacking.Goals as goal

pub gather-g-requires : goal.gather-g-requires
gather-g-requires c = (c.requires.0, enough Tables c.args.text.now c.requires.0)

pub first_undefined-requires : goal.first_undefined-requires
first_undefined-requires c = (rw c.requires.1 (gathered_ascending head_of (lexemes c.args.text.now)), gathers_ascending c.gather-g.ensures)

pub returns : goal.returns
returns c ps r = let text = c.args.text.now in
    c.first_undefined.ensures
    ∙ rw (c.requires.1, gathers_listed c.gather-g.ensures)
    (ap (found (name_place text)) (undefined_gathered r (lexemes text)))
