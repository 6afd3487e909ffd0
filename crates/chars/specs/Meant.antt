-- What the code's values say, in the terms of the definitions.
use Rattle.std.specs.Prelude.{ℕ, ◌+◌, ◌≤◌, ◌<◌, ◌≡◌, List, drop, length, get_or, Option, Some, None, IfSome}
use Rattle.std.proofs.Math.Option.{some, none}
use Rattle.std.proofs.Math.Option as Math
use Rattle.notation.specs.Tree as Tree
use Rattle.notation.specs.Token.{leaf}
use Rattle.notation.specs.Lexer.{Piece, piece, no, fresh, quote, range, begin, parts, class_here}
use Rattle.notation.specs.At.{value, class_of}
use Rattle.chars.specs.declared.class.Part.{Part}
use Rattle.chars.specs.declared.written.Read.{Read}

-- What the code found, as the definitions have it.
abbrev pub found : {A : Type 0} → Option A → Math.Option A
found (Some x) = some x
found None = none

-- This is written at a place, and ends in the text at `next`, behind the place.
pub record Stands {A : Type 0} (written : Piece A) (x : A) (text : List ℕ) (at next : ℕ) : Type 0 where
  pub is : written ≡ piece x (drop next text)
  pub onward : at < next
  pub within : next ≤ length text

-- What was read at a place is what is written there, if anything is: `of` is what a value of the code stands for.
abbrev pub Reads : {A V : Type 0} (of : V → A) → Piece A → (text : List ℕ) (at : ℕ) → Option (Read V) → Type 0
Reads of written text at (Some r) = Stands written (of r.what) text at r.next
Reads of written text at None = written ≡ no

-- A byte stands for itself.
abbrev pub ReadsByte : Piece ℕ → (text : List ℕ) (at : ℕ) → Option (Read ℕ) → Type 0
ReadsByte written text at r = Reads (λ b. b) written text at r

-- A part goes from its first byte to its second, which is not below it.
abbrev pub from_to : Part → Tree.Part
from_to p = range p.lo p.hi

abbrev pub ReadsPart : Piece Tree.Part → (text : List ℕ) (at : ℕ) → Option (Read Part) → Type 0
ReadsPart written text at r = Reads from_to written text at r × IfSome r (λ r. r.what.lo ≤ r.what.hi)

-- What is still to come of a row, which goes up to `stop`.
abbrev pub left : {A : Type 0} (row_to : ℕ → List ℕ → Piece (List A)) (stop : ℕ) (text : List ℕ) (at : ℕ) → List A
left row_to stop text at = value (row_to stop (drop at text))

-- What stands at a place ends as the code says: the piece there is x, with the bytes behind that end; or there is none.
abbrev pub Ends : {A : Type 0} → Piece A → (x : A) (text : List ℕ) (from : ℕ) → Option ℕ → Type 0
Ends here x text from (Some n) = (here ≡ piece x (drop n text)) × (from < n) × (n ≤ length text)
Ends here x text from None = here ≡ no

-- Quoted text behind its first mark.
abbrev pub QuoteEnds : (mark : ℕ) (text : List ℕ) (from : ℕ) → Option ℕ → Type 0
QuoteEnds mark text from = Ends (quote mark fresh (drop from text)) (value (quote mark fresh (drop from text))) text from

-- Parts, up to the `]`; and a class behind its `[`.
abbrev pub PartsEnd : (text : List ℕ) (from : ℕ) → Option ℕ → Type 0
PartsEnd text from = Ends (parts begin fresh (drop from text)) (value (parts begin fresh (drop from text))) text from

abbrev pub ClassEnds : (text : List ℕ) (from : ℕ) → Option ℕ → Type 0
ClassEnds text from = Ends (class_here (drop from text)) (leaf (class_of (value (parts begin fresh (drop from text))))) text from

-- A piece is there.
pub record There {A : Type 0} (here : Piece A) : Type 0 where
  pub what : A
  pub rest : List ℕ
  pub is : here ≡ piece what rest

-- Quoted text stands at a place, the byte there being its mark; and a class, the byte there being its `[`.
abbrev pub QuotedAt : (text : List ℕ) (p : ℕ) → Type 0
QuotedAt text p = (p < length text) × There (quote (get_or text p 0) fresh (drop (p + 1) text))

abbrev pub ClassAt : (text : List ℕ) (p : ℕ) → Type 0
ClassAt text p = (p < length text) × There (parts begin fresh (drop (p + 1) text))
