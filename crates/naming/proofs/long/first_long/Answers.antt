-- `first_long` meets its promise. Assumes nothing.
use Rattle.std.proofs.Common.{◌≡◌, refl, ◌∙◌, rules}
use Rattle.std.specs.Option.{option_map}
use Rattle.notation.specs.Lexer.{lexemes}
use Rattle.notation.specs.Naming.{all}
use Rattle.notation.specs.Places.{first_where, long}
use Rattle.naming.proofs.WhereLaws.{found_start}
use Rattle.naming.proofs.long.first_long.Goals as goal

pub returns : goal.returns
unfolding all
returns c =
    let text = c.args.text.now in
    let r = c.first_where.result in
    let e : c.map.result ≡ option_map (λ t. t.start) r = search rules in
    e ∙ found_start text (first_where long (lexemes text)) r (c.first_where.ensures long refl (λ t b m called. search rules))
