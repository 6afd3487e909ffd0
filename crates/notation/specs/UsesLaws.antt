-- What tokens say one by one is what the naming rules, the limits and `compile` go by, of the reading that these tokens derive.
use Rattle.std.specs.Prelude.{◌≡◌, refl, Bool, true, false}
use Rattle.std.proofs.Math.Path.{ap, sym}
use Rattle.std.proofs.Common.{ap₂, ◌∙◌}
use mathlib.Core.List.{List, [], ◌∷◌, ◌++◌, map, map-append, append_assoc, append-nil}
use Rattle.format.specs.Reading.{pick}
use Rattle.notation.specs.Tree.{Name, Leaf, any, quoted, class, call, query, if, Opener, def, block, local, on, Tree, leaf, prefix, suffix, binary, within, Production}
use Rattle.notation.specs.Token.{Token, closes, right, slash, after}
use Rattle.notation.specs.Notation.{Level, Reads, alternatives, one_alternative, items, one_item, prefixed, no_prefix, suffixed, no_suffix, itself, brackets, operator, Productions, last, more}
use Rattle.notation.specs.LexicalText.{no_way}
use Rattle.notation.specs.Naming.{per_leaf, per_operator, everywhere, called_by, table_of, condition_of, table_in, condition_in, definition_in, names, calls, tables, conditions, definitions, member, all, distinct, all_defined, once_named}
use Rattle.notation.specs.Compile.{sorted}
use Rattle.notation.specs.Limits.{short}
use Rattle.notation.specs.MemberLaws.{either, member-append, all_of, all_from, all_members, SameMembers, all_append, all_map}
use Rattle.notation.specs.OrderLaws.{sorted_members}
use Rattle.notation.specs.Uses.{says, per_token, nothing, defined_by, asked_by, condition_by, text_of, heads_in, calls_in, defs_in, asks_in, conditions_in, texts_in, is_short}

-- ## Tokens say what their reading says

per_append : {A : Type 0} (f : Token → List A) (ts us : List Token) → per_token f (ts ++ us) ≡ per_token f ts ++ per_token f us
unfolding per_token
per_append f [] us = refl
per_append f (t ∷ ts) us = ap (λ l. f t ++ l) (per_append f ts us) ∙ sym (append_assoc (f t) (per_token f ts) (per_token f us))

-- What an expression says, in the order of its text, and what productions say.
module _ {A : Type 0} (f : Leaf → List A) (g : Opener → List A) where
  abbrev in_order : Tree → List A
  in_order (leaf l) = f l
  in_order (prefix p a) = in_order a
  in_order (suffix s a) = in_order a
  in_order (binary b x y) = in_order x ++ in_order y
  in_order (within o a) = g o ++ in_order a

module _ {A : Type 0} (h : Name → List A) (f : Leaf → List A) (g : Opener → List A) where
  abbrev all_in_order : List Production → List A
  all_in_order [] = []
  all_in_order (p ∷ ps) = h p.name ++ (in_order f g p.body ++ all_in_order ps)

  reads_say : {ℓ : Level} {ts : List Token} {a : Tree} → Reads ℓ ts a → per_token (says h f g) ts ≡ in_order f g a
  unfolding per_token
  reads_say (alternatives {ts = ts} {us = us} D E) = rw (per_append (says h f g) ts (slash ∷ us), reads_say D, reads_say E)
  reads_say (one_alternative D) = reads_say D
  reads_say (items {ts = ts} {us = us} D E) = rw (per_append (says h f g) ts us, reads_say D, reads_say E)
  reads_say (one_item D) = reads_say D
  reads_say (prefixed D) = reads_say D
  reads_say (no_prefix D) = reads_say D
  reads_say (suffixed {s = s} {ts = ts} {a = a} D) = rw (per_append (says h f g) ts (after s ∷ []), reads_say D) (append-nil (in_order f g a))
  reads_say (no_suffix D) = reads_say D
  reads_say (itself {l = l}) = append-nil (f l)
  reads_say (brackets {ts = ts} {a = a} D) = rw (per_append (says h f g) ts (right ∷ []), reads_say D) (append-nil (in_order f g a))
  reads_say (operator {o = o} {ts = ts} {a = a} D) =
      ap (λ l. g o ++ l) (rw (per_append (says h f g) ts (closes ∷ []), reads_say D) (append-nil (in_order f g a)))

  all_say : {ts : List Token} {ps : List Production} → Productions ts ps → per_token (says h f g) ts ≡ all_in_order ps
  unfolding per_token
  all_say (last {n = n} {a = a} D) = ap (λ l. h n ++ l) (reads_say D ∙ sym (append-nil (in_order f g a)))
  all_say (more {n = n} {ts = ts} {us = us} D P) =
      ap (λ l. h n ++ l) (rw (per_append (says h f g) ts us, reads_say D, all_say P))

-- ## What only leaves say, and only heads

module _ {A : Type 0} (f : Leaf → List A) where
  leaves_of : (a : Tree) → in_order f nothing a ≡ per_leaf f a
  leaves_of (leaf l) = refl
  leaves_of (prefix p a) = leaves_of a
  leaves_of (suffix s a) = leaves_of a
  leaves_of (binary b x y) = ap₂ (λ l r. l ++ r) (leaves_of x) (leaves_of y)
  leaves_of (within o a) = leaves_of a

  all_leaves : (ps : List Production) → all_in_order nothing f nothing ps ≡ everywhere (per_leaf f) ps
  all_leaves [] = refl
  all_leaves (p ∷ ps) = ap₂ (λ l r. l ++ r) (leaves_of p.body) (all_leaves ps)

module _ {A : Type 0} where
  silent : (a : Tree) → ◌≡◌ {A = List A} (in_order nothing nothing a) []
  silent (leaf l) = refl
  silent (prefix p a) = silent a
  silent (suffix s a) = silent a
  silent (binary b x y) = ap₂ (λ l r. l ++ r) (silent x) (silent y)
  silent (within o a) = silent a

  all_silent : (ps : List Production) → ◌≡◌ {A = List A} (all_in_order nothing nothing nothing ps) []
  all_silent [] = refl
  all_silent (p ∷ ps) = ap₂ (λ l r. l ++ r) (silent p.body) (all_silent ps)

heads_named : (ps : List Production) → all_in_order (λ n. n ∷ []) nothing nothing ps ≡ names ps
heads_named [] = refl
heads_named (p ∷ ps) = ap₂ (λ l r. p.name ∷ (l ++ r)) (silent p.body) (heads_named ps)

-- An expression has no head.
pub no_heads : {ℓ : Level} {ts : List Token} {a : Tree} → Reads ℓ ts a → heads_in ts ≡ []
no_heads {a = a} D = reads_say (λ n. n ∷ []) nothing nothing D ∙ silent a

module _ {ts : List Token} {ps : List Production} (P : Productions ts ps) where
  pub heads_are : heads_in ts ≡ names ps
  heads_are = all_say (λ n. n ∷ []) nothing nothing P ∙ heads_named ps

  pub calls_are : calls_in ts ≡ calls ps
  calls_are = all_say nothing called_by nothing P ∙ all_leaves called_by ps

-- ## Tables that are defined

defs_of_lem : (a : Tree) → in_order nothing defined_by a ≡ map (λ d. d.table) (per_operator definition_in a)
defs_of_lem (leaf l) = refl
defs_of_lem (prefix p a) = defs_of_lem a
defs_of_lem (suffix s a) = defs_of_lem a
defs_of_lem (binary b x y) =
    ap₂ (λ l r. l ++ r) (defs_of_lem x) (defs_of_lem y) ∙ sym (map-append (λ d. d.table) (per_operator definition_in x) (per_operator definition_in y))
defs_of_lem (within (def t) a) = ap (λ l. t ∷ l) (defs_of_lem a)
defs_of_lem (within (block t) a) = defs_of_lem a
defs_of_lem (within (local t) a) = defs_of_lem a
defs_of_lem (within (on c w) a) = defs_of_lem a

all_defs : (ps : List Production) → all_in_order nothing nothing defined_by ps ≡ map (λ d. d.table) (definitions ps)
all_defs [] = refl
all_defs (p ∷ ps) =
    ap₂ (λ l r. l ++ r) (defs_of_lem p.body) (all_defs ps) ∙ sym (map-append (λ d. d.table) (per_operator definition_in p.body) (definitions ps))

module _ {ts : List Token} {ps : List Production} (P : Productions ts ps) where
  pub defs_are : defs_in ts ≡ map (λ d. d.table) (definitions ps)
  defs_are = all_say nothing nothing defined_by P ∙ all_defs ps

-- ## Members: what leaves and openers say, in whatever order

-- Of two lists and two others the members are the same, taken crosswise.
crossed :
    (x₁ y₁ x₂ y₂ l₁ l₂ o₁ o₂ : List Name) → SameMembers (x₁ ++ x₂) (l₁ ++ o₁) → SameMembers (y₁ ++ y₂) (l₂ ++ o₂)
    → SameMembers ((x₁ ++ y₁) ++ (x₂ ++ y₂)) ((l₁ ++ l₂) ++ (o₁ ++ o₂))
crossed x₁ y₁ x₂ y₂ l₁ l₂ o₁ o₂ f g n =
    four x₁ y₁ x₂ y₂ ∙ ap₂ either (f n) (g n) ∙ sym (four l₁ l₂ o₁ o₂)
  where
    shuffled : (a b c d : Bool) → either (either a b) (either c d) ≡ either (either a c) (either b d)
    shuffled true b c d = refl
    shuffled false true true d = refl
    shuffled false true false d = refl
    shuffled false false c d = refl

    four : (a b c d : List Name) → member n ((a ++ b) ++ (c ++ d)) ≡ either (member n (a ++ c)) (member n (b ++ d))
    four a b c d =
        rw (member-append n (a ++ b) (c ++ d), member-append n a b, member-append n c d, member-append n a c, member-append n b d)
        (shuffled (member n a) (member n b) (member n c) (member n d))

module _ (f : Leaf → List Name) (g₁ g₂ : Opener → List Name) (g : Opener → Tree → List Name)
    (e : (o : Opener) (a : Tree) → SameMembers (g₁ o ++ g₂ o) (g o a)) where
  members_of : (a : Tree) → SameMembers (in_order f g₁ a ++ in_order nothing g₂ a) (per_leaf f a ++ per_operator g a)
  members_of (leaf l) n = refl
  members_of (prefix p a) n = members_of a n
  members_of (suffix s a) n = members_of a n
  members_of (binary b x y) n =
      crossed (in_order f g₁ x) (in_order f g₁ y) (in_order nothing g₂ x) (in_order nothing g₂ y) (per_leaf f x) (per_leaf f y) (per_operator g x)
      (per_operator g y) (members_of x) (members_of y) n
  members_of (within o a) n =
      crossed (g₁ o) (in_order f g₁ a) (g₂ o) (in_order nothing g₂ a) [] (per_leaf f a) (g o a) (per_operator g a) (e o a) (members_of a) n

  all_members_of :
      (ps : List Production)
      → SameMembers (all_in_order nothing f g₁ ps ++ all_in_order nothing nothing g₂ ps) (everywhere (per_leaf f) ps ++ everywhere (per_operator g) ps)
  all_members_of [] n = refl
  all_members_of (p ∷ ps) n =
      let a = p.body in
      crossed (in_order f g₁ a) (all_in_order nothing f g₁ ps) (in_order nothing g₂ a) (all_in_order nothing nothing g₂ ps) (per_leaf f a)
      (everywhere (per_leaf f) ps) (per_operator g a) (everywhere (per_operator g) ps) (members_of a) (all_members_of ps) n

module _ {ts : List Token} {ps : List Production} (P : Productions ts ps) where
  pub tables_are : (n : Name) → member n (asks_in ts ++ defs_in ts) ≡ member n (tables ps)
  tables_are n =
      ap₂ (λ l r. member n (l ++ r)) (all_say nothing table_of asked_by P) (all_say nothing nothing defined_by P)
      ∙ all_members_of table_of asked_by defined_by table_in each ps n
    where
      each : (o : Opener) (a : Tree) → SameMembers (asked_by o ++ defined_by o) (table_in o a)
      each (def t) a m = refl
      each (block t) a m = refl
      each (local t) a m = refl
      each (on c w) a m = refl

  pub conditions_are : (n : Name) → member n (conditions_in ts) ≡ member n (conditions ps)
  conditions_are n =
      ap (λ l. member n l) (sym (append-nil (conditions_in ts)))
      ∙ ap₂ (λ l r. member n (l ++ r)) (all_say nothing condition_of condition_by P) (sym (all_silent ps))
      ∙ all_members_of condition_of condition_by nothing condition_in each ps n
    where
      each : (o : Opener) (a : Tree) → SameMembers (condition_by o ++ []) (condition_in o a)
      each (def t) a m = refl
      each (block t) a m = refl
      each (local t) a m = refl
      each (on c w) a m = refl

  -- ## The rules

  -- 22 and 21, over tokens.
  pub once_are : once_named ps ≡ distinct (heads_in ts)
  once_are = ap distinct (sym (heads_are P))

  pub defined_are :
      all_defined ps ≡ pick (all (λ n. member n (heads_in ts)) (calls_in ts)) (all (λ t. member t (defs_in ts)) (asks_in ts)) false
  defined_are =
      rw (heads_are P, calls_are P, ← defs_are P)
      (ap (λ b. pick (all (λ n. member n (names ps)) (calls ps)) b false)
      (all_members known (tables ps) (asks_in ts ++ defs_in ts) (λ n. sym (tables_are n)) ∙ all_append known (asks_in ts) (defs_in ts)
      ∙ ap (λ b. pick (all known (asks_in ts)) b false) (all_from known (defs_in ts) (λ n m. m)) ∙ kept (all known (asks_in ts))))
    where
      known : Name → Bool
      known t = member t (defs_in ts)

      kept : (b : Bool) → pick b true false ≡ b
      kept true = refl
      kept false = refl

  -- If 21 holds, the tables are those that are defined.
  pub tables_sorted : all_defined ps ≡ true → sorted (tables ps) ≡ sorted (defs_in ts)
  tables_sorted e = sorted_members (tables ps) (defs_in ts) (λ n. sym (tables_are n) ∙ member-append n (asks_in ts) (defs_in ts) ∙ one n)
    where
      asked : (a b : Bool) → pick a b false ≡ true → b ≡ true
      asked true b q = q
      asked false b q = no_way (cc)

      absorbed : (a b : Bool) → (a ≡ true → b ≡ true) → either a b ≡ b
      absorbed true b f = sym (f refl)
      absorbed false b f = refl

      one : (n : Name) → either (member n (asks_in ts)) (member n (defs_in ts)) ≡ member n (defs_in ts)
      one n =
          absorbed (member n (asks_in ts)) (member n (defs_in ts))
          (all_of (λ t. member t (defs_in ts)) n (asks_in ts)
          (asked (all (λ n. member n (heads_in ts)) (calls_in ts)) (all (λ t. member t (defs_in ts)) (asks_in ts)) (sym defined_are ∙ e)))

  pub conditions_sorted : sorted (conditions ps) ≡ sorted (conditions_in ts)
  conditions_sorted = sorted_members (conditions ps) (conditions_in ts) (λ n. sym (conditions_are n))

-- ## Quoted texts

shorts_of : (a : Tree) → per_leaf short a ≡ map is_short (in_order text_of nothing a)
shorts_of (leaf any) = refl
shorts_of (leaf (quoted s)) = refl
shorts_of (leaf (class p ps)) = refl
shorts_of (leaf (call n)) = refl
shorts_of (leaf (query q t)) = refl
shorts_of (leaf (if c w)) = refl
shorts_of (prefix p a) = shorts_of a
shorts_of (suffix s a) = shorts_of a
shorts_of (binary b x y) =
    ap₂ (λ l r. l ++ r) (shorts_of x) (shorts_of y) ∙ sym (map-append is_short (in_order text_of nothing x) (in_order text_of nothing y))
shorts_of (within o a) = shorts_of a

all_shorts : (ps : List Production) → everywhere (per_leaf short) ps ≡ map is_short (all_in_order nothing text_of nothing ps)
all_shorts [] = refl
all_shorts (p ∷ ps) =
    ap₂ (λ l r. l ++ r) (shorts_of p.body) (all_shorts ps)
    ∙ sym (map-append is_short (in_order text_of nothing p.body) (all_in_order nothing text_of nothing ps))

-- 24's limit on them, over tokens.
pub texts_are : {ts : List Token} {ps : List Production} → Productions ts ps → all (λ b. b) (everywhere (per_leaf short) ps) ≡ all is_short (texts_in ts)
texts_are {ts} {ps} P =
    ap (all (λ b. b)) (all_shorts ps ∙ ap (map is_short) (sym (all_say nothing text_of nothing P))) ∙ all_map (λ b. b) is_short (texts_in ts)
