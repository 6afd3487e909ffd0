-- WHEN A TEXT IS TAKEN, AND WHY ELSE IT IS REFUSED. 02, L2. Nothing here knows of places: `SaidLaws` has that something is said by these rules.
use Rattle.std.specs.Prelude.{ℕ, ◌≤◌, ◌<◌, ◌≡◌, true, false, List, length}
use Rattle.format.specs.Written.{encode}
use Rattle.grammar.specs.Grammar.{Grammar}
use Rattle.notation.specs.Tree.{Production}
use Rattle.notation.specs.Text.{ReadsAs}
use Rattle.notation.specs.Naming.{all_defined, once_named, one_pattern}
use Rattle.notation.specs.Limits.{fits}
use Rattle.notation.specs.Compile.{compile}

-- The reading keeps the naming rules, and its grammar the limits.
pub record Keeps (ps : List Production) : Type 0 where
  pub names_defined : all_defined ps ≡ true
  pub names_once : once_named ps ≡ true
  pub patterns_one : one_pattern ps ≡ true
  pub fitting : fits ps (compile ps) ≡ true

-- The text is short enough, and reads as these productions.
pub record Read (text : List ℕ) (ps : List Production) : Type 0 where
  pub short : length text ≤ 65535
  pub reading : ReadsAs text ps

-- A text is taken for a grammar. `room` is the length of the buffer that is lent for the image.
pub record Taken (text : List ℕ) (room : ℕ) (g : Grammar) : Type 0 where
  pub productions : List Production
  pub is_read : Read text productions
  pub keeps : Keeps productions
  pub is : compile productions ≡ g
  pub image_fits : length (encode g) ≤ room

-- ## Why a text is refused, by the number of the refusal: the first rule that is not kept

-- 20
pub data Unreadable (text : List ℕ) : Type 0 where
  too_long : 65535 < length text → Unreadable text
  underivable : ((ps : List Production) → ReadsAs text ps → ⊥) → Unreadable text

-- 21
abbrev pub Undefined : List ℕ → Type 0
Undefined text = (ps : List Production) × Read text ps × (all_defined ps ≡ false)

-- 22
abbrev pub NamedTwice : List ℕ → Type 0
NamedTwice text = (ps : List Production) × Read text ps × (all_defined ps ≡ true) × (once_named ps ≡ false)

-- 23
abbrev pub TwoPatterns : List ℕ → Type 0
TwoPatterns text = (ps : List Production) × Read text ps × (all_defined ps ≡ true) × (once_named ps ≡ true) × (one_pattern ps ≡ false)

-- 24
abbrev pub PastLimit : List ℕ → Type 0
PastLimit text =
    (ps : List Production) × Read text ps × (all_defined ps ≡ true) × (once_named ps ≡ true) × (one_pattern ps ≡ true) × (fits ps (compile ps) ≡ false)

-- 25
abbrev pub NoRoom : List ℕ → ℕ → Type 0
NoRoom text room = (ps : List Production) × Read text ps × Keeps ps × (room < length (encode (compile ps)))

-- The number that is due.
pub data Due (text : List ℕ) (room : ℕ) : ℕ → Type 0 where
  due_20 : Unreadable text → Due text room 20
  due_21 : Undefined text → Due text room 21
  due_22 : NamedTwice text → Due text room 22
  due_23 : TwoPatterns text → Due text room 23
  due_24 : PastLimit text → Due text room 24
  due_25 : NoRoom text room → Due text room 25
