-- What the code's places in a gap stand for, and what is promised of a gap.
use Rattle.std.specs.Prelude.{ℕ, ◌+◌, ◌≤◌, ◌≡◌, List, drop, length, Option, Some, None, Result, Ok, Err, IfSome}
use Rattle.notation.specs.Lexer.{Skipped, past, unclosed, skip, gap}
use Rattle.notation.specs.Lexer as N
use Rattle.lexer.specs.declared.gap.Inside.{Inside}
use Rattle.lexer.specs.declared.gap.Inside.TheVariants.{Outside, InLine, Opening, InBlock, Starred}
use Rattle.lexer.specs.declared.gap.OpenComment.{OpenComment}

-- Where in a gap, a comment being the bytes from its place on.
abbrev pub inside_of : (text : List ℕ) → Inside → N.Inside
inside_of text Outside = N.outside
inside_of text InLine = N.in_line
inside_of text (Opening n) = N.opening (drop n text)
inside_of text (InBlock n) = N.in_block (drop n text)
inside_of text (Starred n) = N.starred (drop n text)

-- The place of the comment is from one place to another.
abbrev pub CommentIn : (low high : ℕ) → Inside → Type 0
CommentIn low high Outside = Unit
CommentIn low high InLine = Unit
CommentIn low high (Opening n) = (low ≤ n) × (n ≤ high)
CommentIn low high (InBlock n) = (low ≤ n) × (n ≤ high)
CommentIn low high (Starred n) = (low ≤ n) × (n ≤ high)

-- What a step from a place says: where the next byte stands; or the gap ends here.
abbrev pub moved : (text : List ℕ) (i : ℕ) → Option Inside → Skipped
moved text i (Some m) = skip (inside_of text m) (drop (i + 1) text)
moved text i None = past (drop i text)

-- What is promised of a step from a place.
pub record Stepped (text : List ℕ) (i : ℕ) (inside : Inside) (r : Option Inside) : Type 0 where
  pub goes : skip (inside_of text inside) (drop i text) ≡ moved text i r
  pub comment : (low : ℕ) → low ≤ i → CommentIn low i inside → IfSome r (CommentIn low i)

-- So many bytes further on a gap is skipped as from here.
pub record Further (rest : List ℕ) (inside : Inside) (n : ℕ) : Type 0 where
  pub goes : (text : List ℕ) → skip (inside_of text inside) rest ≡ skip (inside_of text inside) (drop n rest)
  pub within : n ≤ length rest

-- The bytes behind a gap, or from the open `/*` on; and the place where they begin.
unfoldable pub skipped : List ℕ → Result ℕ OpenComment → Skipped
skipped text (Ok n) = past (drop n text)
skipped text (Err c) = unclosed (drop c.at text)

unfoldable pub place : Result ℕ OpenComment → ℕ
place (Ok n) = n
place (Err c) = c.at

-- What is promised of the gap at a place: it ends, or its open comment begins, there or further on, in the text.
pub record Skips (text : List ℕ) (start : ℕ) (r : Result ℕ OpenComment) : Type 0 where
  pub goes : gap (drop start text) ≡ skipped text r
  pub onward : start ≤ place r
  pub inside : start ≤ length text → place r ≤ length text
