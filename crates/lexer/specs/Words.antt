-- What is promised of the words that name operators.
use Rattle.std.specs.Prelude.{Option, Some, None}
use Rattle.notation.specs.Tree.{match, is, isa, exists, def, block, local}
use Rattle.notation.specs.Lexer.{opener, asks, ifs, ons, unknown}
use Rattle.notation.specs.Lexer as N
use Rattle.lexer.specs.declared.token.Leaf.TheVariants.{Match, Is, Isa, Exists}
use Rattle.lexer.specs.declared.token.Opener.TheVariants.{Def, Block, Local}
use Rattle.lexer.specs.declared.word.Word.{Word}
use Rattle.lexer.specs.declared.word.Word.TheVariants.{Asks, Ifs, Opens, Ons}

-- What the code says of a word.
pub data Worded : N.Word → Option Word → Type 0 where
  is_match : Worded (asks match) (Some (Asks Match))
  is_is : Worded (asks is) (Some (Asks Is))
  is_isa : Worded (asks isa) (Some (Asks Isa))
  is_exists : Worded (asks exists) (Some (Asks Exists))
  is_if : Worded ifs (Some Ifs)
  is_def : Worded (opener def) (Some (Opens Def))
  is_block : Worded (opener block) (Some (Opens Block))
  is_local : Worded (opener local) (Some (Opens Local))
  is_on : Worded ons (Some Ons)
  is_unknown : Worded unknown None
