-- `first_undefined` meets its promise. Assumes nothing.
use Rattle.std.proofs.Common.{◌≡◌, ℕ, refl, ◌∙◌, rules, Bool, List, length}
use Rattle.std.specs.Option.{option_map}
use Rattle.notation.specs.Token.{Token}
use Rattle.notation.specs.Lexer.{lexemes}
use Rattle.notation.specs.Naming.{all}
use Rattle.notation.specs.Places.{first_where, undefined}
use Rattle.index.specs.Listed.{names_at}
use Rattle.naming.proofs.WhereLaws.{found_name}
use Rattle.naming.proofs.undefined.first_undefined.Goals as goal

-- The test at a text and its lists.
abbrev lacks : (text heads tables : List ℕ) → Token → Bool
lacks text heads tables = undefined (names_at text heads (length heads)) (names_at text tables (length tables))

pub returns : goal.returns
unfolding all
returns c =
    let text = c.args.text.now in
    let test = lacks text c.args.heads.now c.args.tables.now in
    let r = c.first_where.result in
    let e : c.map.result ≡ option_map (λ t. t.name) r = search rules in
    e ∙ found_name text (first_where test (lexemes text)) r (c.first_where.ensures test refl (λ t b m called. search rules))
