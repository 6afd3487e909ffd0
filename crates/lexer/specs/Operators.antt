-- What is promised of the parts of an operator in angle brackets.
use Rattle.std.specs.Prelude.{ℕ, ◌≤◌, ◌<◌, ◌≡◌, List, Option, Some, None, drop, length, get_or}
use Prim.Native.Char.{code}
use Rattle.notation.specs.Lexer.{Piece, piece, no, ◌then◌, operator, truth, sign}
use Rattle.notation.specs.Lexer as N
use Rattle.notation.specs.LexicalToken.{token_of}
use Rattle.notation.specs.Places.{behind_truth, name_in}
use Rattle.lexer.specs.declared.token.Kind.{Kind}
use Rattle.lexer.specs.declared.token.Kind.TheVariants.{Leaf}
use Rattle.lexer.specs.declared.token.Leaf.TheVariants.{If}
use Rattle.lexer.specs.declared.token.Opener.TheVariants.{On}
use Rattle.lexer.specs.declared.word.Word.{Word}
use Rattle.lexer.specs.declared.word.Word.TheVariants.{Asks, Ifs, Opens, Ons}
use Rattle.lexer.specs.Words.{Worded}

-- What an operator is by its word and what stands before its name: perhaps a `!`, if a condition's name follows.
unfoldable pub asked : Word → List ℕ → Piece Kind
asked (Asks l) s = piece (Leaf l) s
asked (Opens o) s = piece (Kind.Opens o) s
asked Ifs s = truth s then λ w s. piece (Leaf (If w)) s
asked Ons s = truth s then λ w s. piece (Kind.Opens (On w)) s

-- This stands at a place, and ends in the text; or nothing like it does.
pub record Stands {A : Type 0} (here : Piece A) (x : A) (text : List ℕ) (at next : ℕ) : Type 0 where
  pub is : here ≡ piece x (drop next text)
  pub onward : at ≤ next
  pub within : next ≤ length text

abbrev pub Sees : {A : Type 0} → Piece A → (text : List ℕ) (at : ℕ) → Option (A × ℕ) → Type 0
Sees here text at (Some (x, n)) = Stands here x text at n
Sees here text at None = here ≡ no

-- A `>` behind a gap.
abbrev pub Closes : (text : List ℕ) (at : ℕ) → Option ℕ → Type 0
Closes text at (Some n) = Stands (sign (code ">") (drop at text)) tt text at n
Closes text at None = sign (code ">") (drop at text) ≡ no

-- A `<` stands at a place.
abbrev pub AngleAt : (text : List ℕ) (start : ℕ) → Type 0
AngleAt text start = (start < length text) × (get_or text start 0 ≡ code "<")

-- An operator begins at `start`, and its word ends at `at`.
pub record OperatorAt (text : List ℕ) (start : ℕ) (named : Word) (at : ℕ) : Type 0 where
  pub word : N.Word
  pub worded : Worded word (Some named)
  pub goes : token_of (drop start text) ≡ operator word (drop at text)
  pub names : name_in (drop start text) ≡ behind_truth (truth (drop at text))
  pub onward : start < at
  pub inside : at ≤ length text
