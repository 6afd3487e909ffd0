-- `name_end` meets its promise: by the bytes from the place on, where it is in the text. Assumes nothing.
use Rattle.std.proofs.Common.{arith, ◌∙◌}
use Rattle.std.proofs.lemmas.List.{take_rest}
use Rattle.lexer.proofs.NameLaws.{name_ends, name_over}
use Rattle.lexer.proofs.name.name_end.Goals as goal

pub returns-in-Some : goal.returns-in-Some
returns-in-Some c = let t = c.args.text.now in
    let l = c.in-Some.ensures.lookup.0 in
    rw (c.name_length.ensures, l.2 ∙ take_rest t c.args.from) (name_ends t c.args.from l.0)

pub returns-in-None : goal.returns-in-None
returns-in-None c = let l = c.in-None.ensures.lookup.0 in name_over c.args.text.now c.args.from (grind arith)
