-- What the rules say of a reading, before its image is made: 21 to 23, and 24 but for the image.
use Rattle.std.specs.Prelude.{ℕ, ◌≡◌, List, [], map, Result, Ok, Err, ⊤}
use Rattle.std.proofs.Math.Option.{Option}
use Rattle.notation.specs.Tree.{Production}
use Rattle.notation.specs.Token.{Lexeme}
use Rattle.notation.specs.Lexer.{lexemes}
use Rattle.notation.specs.Text.{ReadsAs}
use Rattle.notation.specs.Naming.{names, definitions}
use Rattle.notation.specs.Uses.{head_of, def_of, switch_of}
use Rattle.notation.specs.Places.{token_place, name_place, first_where, first_name, undefined, again, ninth, long, first_over, is_head, only, unlike}
use Rattle.notation.specs.Judged.{refused}
use Rattle.notation.specs.Said.{Says}
use Rattle.naming.specs.Found.{found}
use Rattle.std.specs.declared.option.Option as Std
use Rattle.std.specs.declared.option.Option.TheVariants.{Some, None}
use Rattle.compiler.specs.declared.refusal.Slip.{Slip}
use Rattle.compiler.specs.declared.refusal.Slip.TheVariants.{Undefined, Twice, Unlike, OverLimit}
use Rattle.compiler.specs.declared.refusal.Refusal.{Refusal}
use Rattle.compiler.specs.Refusals.{number_of}

infixr 20 ◌then◌
-- A text passes, or it is refused.
abbrev pub Judgement : Type 0
Judgement = Result ⊤ Refusal

-- Refused where something was found.
abbrev pub cleared : Slip → Std.Option ℕ → Judgement
cleared slip (Some p) = Err (record { slip = slip; place = p })
cleared slip None = Ok tt

-- The first of two judgements, or the second where the first lets pass.
abbrev pub ◌then◌ : Judgement → Judgement → Judgement
◌then◌ (Ok _) later = later
◌then◌ (Err r) later = Err r

-- The rules, for a text that reads as these productions.
module _ (text : List ℕ) (ps : List Production) where
  -- What is looked for, in this order: a name that is not defined, a name that is defined twice, a def that is not alike to the first of its
  -- table, a ninth table, a ninth condition, a long quoted text, the production with which there are over 512 nodes.
  abbrev pub lacks : Option Lexeme
  lacks = first_where (undefined (names ps) (map (λ d. d.table) (definitions ps))) (lexemes text)

  abbrev pub twice : Option Lexeme
  twice = first_name head_of again [] (lexemes text)

  abbrev pub differs : Option Lexeme
  differs = unlike (definitions ps) (lexemes text)

  abbrev pub ninth_table : Option Lexeme
  ninth_table = first_name def_of ninth [] (lexemes text)

  abbrev pub ninth_switch : Option Lexeme
  ninth_switch = first_name switch_of ninth [] (lexemes text)

  abbrev pub long_text : Option Lexeme
  long_text = first_where long (lexemes text)

  abbrev pub over_nodes : Option Lexeme
  over_nodes = first_over 512 (λ n. n) 0 ps (only is_head (lexemes text))

  -- 21 and 22, 23, and 24.
  abbrev pub by_names : Judgement
  by_names = cleared Undefined (found (name_place text) lacks) then cleared Twice (found (name_place text) twice)

  abbrev pub by_patterns : Judgement
  by_patterns = cleared Unlike (found (token_place text) differs)

  abbrev pub by_limits : Judgement
  by_limits =
      cleared OverLimit (found (name_place text) ninth_table)
      then cleared OverLimit (found (name_place text) ninth_switch)
      then cleared OverLimit (found (token_place text) long_text)
      then cleared OverLimit (found (name_place text) over_nodes)

  -- All rules, in their order.
  unfoldable pub ruled : Judgement
  ruled = by_names then by_patterns then by_limits

-- The text reads as productions of which every rule holds.
pub record Passes (text : List ℕ) (ps : List Production) : Type 0 where
  pub reading : ReadsAs text ps
  pub passes : ruled text ps ≡ Ok tt

abbrev pub Passed : List ℕ → Type 0
Passed text = (ps : List Production) × Passes text ps

-- A judgement that refuses is said of the text, whatever room there is for its image.
abbrev pub Judges : List ℕ → Judgement → Type 0
Judges text (Ok _) = Passed text
Judges text (Err r) = (room : ℕ) → Says text room (refused (number_of r.slip) r.place)
