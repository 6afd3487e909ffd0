-- HOW FAR A TEXT'S TOKENS GO, whether or not they go to its end. To the two rules of `Lexes` come two more with which they stop: behind a gap stands what is
-- no token, or a comment is not closed. There the last lexeme stands, `bad`; nothing behind it is looked at.
use Rattle.std.specs.Prelude.{ℕ, ◌≡◌, true, List, [], ◌∷◌}
use Prim.Native.Char.{code}
use Rattle.notation.specs.Bytes.{blank}
use Rattle.notation.specs.Token.{Token, bad, Lexeme}
use Rattle.notation.specs.Lexical.{Line, Block, Gap, Spelled}

-- A gap comes to a comment that nothing closes; c is what stands from its `/*` on.
pub data Unclosed : (s c : List ℕ) → Type 0 where
  never : {s : List ℕ} → ((r : List ℕ) → Block s r → ⊥) → Unclosed (code "/" ∷ code "*" ∷ s) (code "/" ∷ code "*" ∷ s)
  white : {b : ℕ} {s c : List ℕ} → blank b ≡ true → Unclosed s c → Unclosed (b ∷ s) c
  line : {s t c : List ℕ} → Line s t → Unclosed t c → Unclosed (code "/" ∷ code "/" ∷ s) c
  comment : {s t c : List ℕ} → Block s t → Unclosed t c → Unclosed (code "/" ∷ code "*" ∷ s) c

pub data LexesTo : List ℕ → List Lexeme → Type 0 where
  finish : {s : List ℕ} → Gap s [] → LexesTo s []
  token : {t : Token} {ls : List Lexeme} {s u r : List ℕ} → Gap s u → Spelled t u r → LexesTo r ls → LexesTo s (record { here = u; token = t } ∷ ls)
  stuck : {b : ℕ} {s u : List ℕ} → Gap s (b ∷ u) → ((t : Token) (r : List ℕ) → Spelled t (b ∷ u) r → ⊥)
      → LexesTo s (record { here = b ∷ u; token = bad } ∷ [])
  unclosed : {s c : List ℕ} → Unclosed s c → LexesTo s (record { here = c; token = bad } ∷ [])
