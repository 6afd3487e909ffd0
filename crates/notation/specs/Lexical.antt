-- THE LEXICAL RULES, as a grammar over bytes: one constructor a rule. `X .. s r` says that an X stands at the front of the bytes s, and r is what
-- comes behind it.
--
--   Gap    <- ([ \t\n\r] / '//' (!'\n' .)* ('\n' / !.) / '/*' (!'*/' .)* '*/')*
--   Name   <- [A-Za-z_] [A-Za-z_0-9]*
--   End    <- ![A-Za-z_0-9]
--   Quoted <- ['] (!['] Char)* ['] / ["] (!["] Char)* ["]
--   Class  <- '[' !'^' Part+ ']'
--   Part   <- !']' Char '-' !']' Char / !']' Char
--   Char   <- '\\x' Hex Hex / '\\' [nrt\\'"\[\]^-] / ![\\\n\r] .
--   Hex    <- [0-9A-Fa-f]
--   Token  <- Name Gap '=' / Name !(Gap '=') / Quoted / Class / [.()/&!?*+>]
--           / '<' Gap ('def' / 'block' / 'local') End Gap Name
--           / '<' Gap 'on' End Gap ('!' Gap)? Name
--           / '<' Gap ('match' / 'isa' / 'is' / 'exists') End Gap Name Gap '>'
--           / '<' Gap 'if' End Gap ('!' Gap)? Name Gap '>'
--   Text   <- Gap (Token Gap)* !.
--
-- and a range in a class must not go down.
use Rattle.std.specs.Prelude.{ℕ, ◌+◌, ◌*◌, ◌≤◌, ◌≡◌, Bool, true, false, List, [], ◌∷◌, ◌++◌}
use Prim.Native.Char.{code}
use Rattle.std.proofs.Math.Option.{some}
use Rattle.notation.specs.Bytes.{bytes, one_of, blank, letter, name_byte, hex_digit, escape}
use Rattle.notation.specs.Tree.{Name, Part, Query, match, is, isa, exists, any, quoted, class, call, query, if, and, not, option, star, plus, Opener, def, block, local, on}
use Rattle.notation.specs.Token.{Token, head, leaf, opens, closes, left, right, slash, before, after, Lexeme}

-- ## Gaps

-- Behind `//`.
pub data Line : (s r : List ℕ) → Type 0 where
  over : Line [] []
  ends : {r : List ℕ} → Line (10 ∷ r) r
  goes : {b : ℕ} {s r : List ℕ} → (b ≡ 10 → ⊥) → Line s r → Line (b ∷ s) r

-- Behind `/*`.
pub data Block : (s r : List ℕ) → Type 0 where
  shuts : {r : List ℕ} → Block (code "*" ∷ code "/" ∷ r) r
  starred : {c : ℕ} {s r : List ℕ} → (c ≡ code "/" → ⊥) → Block (c ∷ s) r → Block (code "*" ∷ c ∷ s) r
  goes_on : {b : ℕ} {s r : List ℕ} → (b ≡ code "*" → ⊥) → Block s r → Block (b ∷ s) r

-- Neither a blank nor a comment begins here.
pub data Solid : List ℕ → Type 0 where
  at_end : Solid []
  byte : {b : ℕ} {s : List ℕ} → blank b ≡ false → (b ≡ code "/" → ⊥) → Solid (b ∷ s)
  last_slash : Solid (code "/" ∷ [])
  lone_slash : {c : ℕ} {s : List ℕ} → (c ≡ code "/" → ⊥) → (c ≡ code "*" → ⊥) → Solid (code "/" ∷ c ∷ s)

pub data Gap : (s r : List ℕ) → Type 0 where
  nothing : {r : List ℕ} → Solid r → Gap r r
  white : {b : ℕ} {s r : List ℕ} → blank b ≡ true → Gap s r → Gap (b ∷ s) r
  line : {s t r : List ℕ} → Line s t → Gap t r → Gap (code "/" ∷ code "/" ∷ s) r
  comment : {s t r : List ℕ} → Block s t → Gap t r → Gap (code "/" ∷ code "*" ∷ s) r

-- ## Names

pub data NameBytes : List ℕ → Type 0 where
  none_left : NameBytes []
  one_more : {b : ℕ} {n : List ℕ} → name_byte b ≡ true → NameBytes n → NameBytes (b ∷ n)

-- No byte of a name stands here.
pub data NameEnds : List ℕ → Type 0 where
  text_ends : NameEnds []
  other_byte : {b : ℕ} {s : List ℕ} → name_byte b ≡ false → NameEnds (b ∷ s)

pub data Named : Name → (s r : List ℕ) → Type 0 where
  name : {b : ℕ} {n r : List ℕ} → letter b ≡ true → NameBytes n → NameEnds r → Named (b ∷ n) (b ∷ (n ++ r)) r

-- ## Bytes in quoted text and classes; `stop` is what would end these

pub data Char (stop : ℕ) : ℕ → (s r : List ℕ) → Type 0 where
  itself : {b : ℕ} {r : List ℕ} → (b ≡ stop → ⊥) → (b ≡ code "\\" → ⊥) → one_of "\n\r" b ≡ false → Char stop b (b ∷ r) r
  escaped : {e b : ℕ} {r : List ℕ} → escape e ≡ some b → Char stop b (code "\\" ∷ e ∷ r) r
  hex : {d e u v : ℕ} {r : List ℕ} → hex_digit d ≡ some u → hex_digit e ≡ some v → Char stop (16 * u + v) (code "\\" ∷ code "x" ∷ d ∷ e ∷ r) r

pub data Chars (stop : ℕ) : List ℕ → (s r : List ℕ) → Type 0 where
  done : {r : List ℕ} → Chars stop [] (stop ∷ r) r
  char : {b : ℕ} {x s t r : List ℕ} → Char stop b s t → Chars stop x t r → Chars stop (b ∷ x) s r

-- No `-` with a byte of the class behind it stands here.
pub data NoRange : List ℕ → Type 0 where
  no_dash : {b : ℕ} {s : List ℕ} → (b ≡ code "-" → ⊥) → NoRange (b ∷ s)
  last_dash : {s : List ℕ} → NoRange (code "-" ∷ code "]" ∷ s)

pub data Parts : List Part → (s r : List ℕ) → Type 0 where
  parts_end : {r : List ℕ} → Parts [] (code "]" ∷ r) r
  single : {b : ℕ} {ps : List Part} {s t r : List ℕ} → Char (code "]") b s t → NoRange t → Parts ps t r
      → Parts (record { lo = b; hi = b } ∷ ps) s r
  range : {lo hi : ℕ} {ps : List Part} {s t u r : List ℕ} → Char (code "]") lo s (code "-" ∷ t) → Char (code "]") hi t u → lo ≤ hi → Parts ps u r
      → Parts (record { lo = lo; hi = hi } ∷ ps) s r

pub data NoCaret : List ℕ → Type 0 where
  no_caret : {b : ℕ} {s : List ℕ} → (b ≡ code "^" → ⊥) → NoCaret (b ∷ s)

-- ## Tokens

pub data Opens : (Name → Opener) → Name → Type 0 where
  a_def : Opens def (bytes "def")
  a_block : Opens block (bytes "block")
  a_local : Opens local (bytes "local")

pub data Asks : Query → Name → Type 0 where
  a_match : Asks match (bytes "match")
  an_is : Asks is (bytes "is")
  an_isa : Asks isa (bytes "isa")
  an_exists : Asks exists (bytes "exists")

-- A gap, and then a name; a byte; perhaps a `!`.
pub data Then (P : (s r : List ℕ) → Type 0) : (s r : List ℕ) → Type 0 where
  behind : {s t r : List ℕ} → Gap s t → P t r → Then P s r

pub data Sign (b : ℕ) : (s r : List ℕ) → Type 0 where
  sign : {r : List ℕ} → Sign b (b ∷ r) r

pub data Truth : Bool → (s r : List ℕ) → Type 0 where
  negated : {r : List ℕ} → Truth false (code "!" ∷ r) r
  plain : {b : ℕ} {s : List ℕ} → (b ≡ code "!" → ⊥) → Truth true (b ∷ s) (b ∷ s)
  plain_end : Truth true [] []

-- A name is a production's if a gap and a `=` follow. A comment that is not closed ends no gap, so no `=` follows then.
pub data Spelled : Token → (s r : List ℕ) → Type 0 where
  a_head : {n : Name} {s t r : List ℕ} → Named n s t → Then (Sign (code "=")) t r → Spelled (head n) s r
  a_call : {n : Name} {s t : List ℕ} → Named n s t → ((r : List ℕ) → Then (Sign (code "=")) t r → ⊥) → Spelled (leaf (call n)) s t
  a_dot : {r : List ℕ} → Spelled (leaf any) (code "." ∷ r) r
  a_text : {mark : ℕ} {x s r : List ℕ} → one_of "'\"" mark ≡ true → Chars mark x s r → Spelled (leaf (quoted x)) (mark ∷ s) r
  a_class : {p : Part} {ps : List Part} {s r : List ℕ} → NoCaret s → Parts (p ∷ ps) s r → Spelled (leaf (class p ps)) (code "[" ∷ s) r
  a_query : {q : Query} {w t : Name} {s u v r : List ℕ} → Asks q w → Then (Named w) s u → Then (Named t) u v → Then (Sign (code ">")) v r
      → Spelled (leaf (query q t)) (code "<" ∷ s) r
  an_if : {c : Name} {w : Bool} {s u v x r : List ℕ} → Then (Named (bytes "if")) s u → Then (Truth w) u v → Then (Named c) v x
      → Then (Sign (code ">")) x r → Spelled (leaf (if c w)) (code "<" ∷ s) r
  an_opener : {o : Name → Opener} {w t : Name} {s u r : List ℕ} → Opens o w → Then (Named w) s u → Then (Named t) u r
      → Spelled (opens (o t)) (code "<" ∷ s) r
  an_on : {c : Name} {w : Bool} {s u v r : List ℕ} → Then (Named (bytes "on")) s u → Then (Truth w) u v → Then (Named c) v r
      → Spelled (opens (on c w)) (code "<" ∷ s) r
  a_greater : {r : List ℕ} → Spelled closes (code ">" ∷ r) r
  a_left : {r : List ℕ} → Spelled left (code "(" ∷ r) r
  a_right : {r : List ℕ} → Spelled right (code ")" ∷ r) r
  a_slash : {r : List ℕ} → Spelled slash (code "/" ∷ r) r
  an_and : {r : List ℕ} → Spelled (before and) (code "&" ∷ r) r
  a_not : {r : List ℕ} → Spelled (before not) (code "!" ∷ r) r
  an_option : {r : List ℕ} → Spelled (after option) (code "?" ∷ r) r
  a_star : {r : List ℕ} → Spelled (after star) (code "*" ∷ r) r
  a_plus : {r : List ℕ} → Spelled (after plus) (code "+" ∷ r) r

-- A text is a gap, and then a token and so on, or nothing. Each token keeps the bytes from it on, which say where it stands.
pub data Lexes : List ℕ → List Lexeme → Type 0 where
  finish : {s : List ℕ} → Gap s [] → Lexes s []
  token : {t : Token} {ls : List Lexeme} {s u r : List ℕ} → Gap s u → Spelled t u r → Lexes r ls → Lexes s (record { here = u; token = t } ∷ ls)
