-- What a text's tokens say one by one: the names that they define and use, and the quoted texts. `UsesLaws` has that it is what the naming rules
-- go by.
use Rattle.std.specs.Prelude.{ℕ, Bool, List, [], ◌∷◌, ◌++◌, leb, length}
use Rattle.notation.specs.Tree.{Name, Leaf, any, quoted, class, call, query, if, Opener, def, block, local, on}
use Rattle.notation.specs.Token.{Token, head, leaf, opens, closes, left, right, slash, before, after, bad}
use Rattle.notation.specs.Naming.{called_by, table_of, condition_of}

-- What a token says, by what a head, a leaf and an opener say. The others say nothing.
abbrev pub says : {A : Type 0} → (Name → List A) → (Leaf → List A) → (Opener → List A) → Token → List A
says h f g (head n) = h n
says h f g (leaf l) = f l
says h f g (opens o) = g o
says h f g closes = []
says h f g left = []
says h f g right = []
says h f g slash = []
says h f g (before p) = []
says h f g (after s) = []
says h f g bad = []

abbrev pub nothing : {A B : Type 0} → A → List B
nothing x = []

-- The table that an opener defines, the one that it closes round, and its condition.
abbrev pub defined_by : Opener → List Name
defined_by (def t) = t ∷ []
defined_by (block t) = []
defined_by (local t) = []
defined_by (on c w) = []

abbrev pub asked_by : Opener → List Name
asked_by (def t) = []
asked_by (block t) = t ∷ []
asked_by (local t) = t ∷ []
asked_by (on c w) = []

abbrev pub condition_by : Opener → List Name
condition_by (def t) = []
condition_by (block t) = []
condition_by (local t) = []
condition_by (on c w) = c ∷ []

abbrev pub text_of : Leaf → List (List ℕ)
text_of any = []
text_of (quoted s) = s ∷ []
text_of (class p ps) = []
text_of (call n) = []
text_of (query q t) = []
text_of (if c w) = []

-- What a token names: the production that begins, the name called, the table defined, the table asked about or closed round, the condition; and the
-- quoted text.
abbrev pub head_of : Token → List Name
head_of = says (λ n. n ∷ []) nothing nothing

abbrev pub call_of : Token → List Name
call_of = says nothing called_by nothing

abbrev pub def_of : Token → List Name
def_of = says nothing nothing defined_by

abbrev pub ask_of : Token → List Name
ask_of = says nothing table_of asked_by

abbrev pub switch_of : Token → List Name
switch_of = says nothing condition_of condition_by

abbrev pub quoted_in : Token → List (List ℕ)
quoted_in = says nothing text_of nothing

-- The same of tokens, in order.
unfoldable pub per_token : {A : Type 0} → (Token → List A) → List Token → List A
per_token f [] = []
per_token f (t ∷ ts) = f t ++ per_token f ts

abbrev pub heads_in : List Token → List Name
heads_in = per_token head_of

abbrev pub calls_in : List Token → List Name
calls_in = per_token call_of

abbrev pub defs_in : List Token → List Name
defs_in = per_token def_of

abbrev pub asks_in : List Token → List Name
asks_in = per_token ask_of

abbrev pub conditions_in : List Token → List Name
conditions_in = per_token switch_of

abbrev pub texts_in : List Token → List (List ℕ)
texts_in = per_token quoted_in

-- A quoted text within 24's limit.
abbrev pub is_short : List ℕ → Bool
is_short s = leb (length s) 64
