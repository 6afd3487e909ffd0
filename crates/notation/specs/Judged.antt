-- WHAT IS SAID OF A READING: the grammar that it is written as, or the first refusal of 21 to 25 that holds, with its place. 02, L2: "by this order"; each is
-- looked for in the whole text before the next.
use Rattle.std.specs.Prelude.{ℕ, List, [], map, leb, length}
use Rattle.std.proofs.Math.Option.{Option, some, none}
use Rattle.format.specs.Reading.{pick}
use Rattle.format.specs.Written.{encode}
use Rattle.grammar.specs.Grammar.{Grammar}
use Rattle.notation.specs.Tree.{Production}
use Rattle.notation.specs.Token.{Lexeme}
use Rattle.notation.specs.Naming.{names, definitions}
use Rattle.notation.specs.Compile.{compile}
use Rattle.notation.specs.Uses.{head_of, def_of, switch_of}
use Rattle.notation.specs.Places.{token_place, name_place, first_where, first_name, undefined, again, ninth, long, first_over, image_up_to, is_head, only, unlike}

pub data Answer : Type 0 where
  good : Grammar → Answer
  refused : (number place : ℕ) → Answer

-- A refusal where something was found, else what comes after it.
abbrev pub or_else : {A : Type 0} → Option A → (A → Answer) → Answer → Answer
or_else (some x) found otherwise = found x
or_else none found otherwise = otherwise

-- 24, "past a limit of 01": at most 8 tables, 8 conditions, 64 bytes in a quoted text, 512 nodes, 16,384 bytes in the image. Then 25.
module _ (text : List ℕ) (room : ℕ) (ps : List Production) (ls : List Lexeme) where
  -- At a token's name, or at the token itself.
  abbrev pub at_name : ℕ → Lexeme → Answer
  at_name number l = refused number (name_place text l)

  abbrev pub at_token : ℕ → Lexeme → Answer
  at_token number l = refused number (token_place text l)

  abbrev pub limited : Grammar → Answer
  limited g =
      or_else (first_name def_of ninth [] ls) (at_name 24)
      (or_else (first_name switch_of ninth [] ls) (at_name 24)
      (or_else (first_where long ls) (at_token 24)
      (or_else (first_over 512 (λ n. n) 0 ps (only is_head ls)) (at_name 24)
      (or_else (first_over 16384 (image_up_to g) 0 ps (only is_head ls)) (at_name 24)
      (pick (leb (length (encode g)) room) (good g) (refused 25 0))))))

  -- 21, 22, 23, and then the limits.
  unfoldable pub judged : Answer
  judged =
      or_else (first_where (undefined (names ps) (map (λ d. d.table) (definitions ps))) ls) (at_name 21)
      (or_else (first_name head_of again [] ls) (at_name 22)
      (or_else (unlike (definitions ps) ls) (at_token 23) (limited (compile ps))))
