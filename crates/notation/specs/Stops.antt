-- WHERE THE READING OF A TEXT STOPS, for a text that is not of the notation. Nothing here knows of a reader.
use Rattle.std.specs.Prelude.{ℕ, suc, ◌≤◌, ◌<◌, ◌≡◌, List, [], ◌∷◌, ◌++◌, length, take, drop}
use Rattle.notation.specs.Tree.{Production}
use Rattle.notation.specs.Token.{Token, Lexeme, bare}
use Rattle.notation.specs.Notation.{Productions}
use Rattle.notation.specs.Unread.{LexesTo}

-- These tokens can be gone on with to a text of the notation.
abbrev pub GoesOn : List Token → Type 0
GoesOn ts = (us : List Token) × (ps : List Production) × Productions (ts ++ us) ps

-- The reading stops at token i: what stands before it can be gone on with, and with it no longer can. Or it stops at the end: all tokens can be
-- gone on with, but are no such text yet.
pub record Stops (ts : List Token) (i : ℕ) : Type 0 where
  pub inside : i ≤ length ts
  pub alive : GoesOn (take i ts)
  pub dead : i < length ts → GoesOn (take (suc i) ts) → ⊥
  pub unfinished : i ≡ length ts → (ps : List Production) → Productions ts ps → ⊥

-- The bytes from the front lexeme on; none where no lexeme is left, which is the text's end.
abbrev pub here_of : List Lexeme → List ℕ
here_of [] = []
here_of (l ∷ ls) = l.here

-- The same as a place, the text's tokens going as far as they do: there begins the lexeme at which the reading stops, or the text ends.
pub record StopsAt (text : List ℕ) (p : ℕ) : Type 0 where
  pub lexemes : List Lexeme
  pub lexes : LexesTo text lexemes
  pub number : ℕ
  pub stops : Stops (bare lexemes) number
  pub inside : p ≤ length text
  pub here : drop p text ≡ here_of (drop number lexemes)
