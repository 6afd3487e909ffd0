-- The bodies of a text's defs are read as its definitions, one by one; so two definitions are alike if two walks put out the same.
use Prim.Native.Nat.{ℕ, zero, suc, ◌+◌, ◌<◌}
use mathlib.Core.Path.{◌≡◌, refl, ap, ap₂, sym, ◌∙◌, subst}
use mathlib.Core.Bool.{false}
use mathlib.Core.List.{List, [], ◌∷◌, ◌++◌, map, append_assoc, append-nil}
use native.Mathlib.Omega.{arith}
use lib.ListN.{length, get_or, length-append}
use Rattle.format.specs.Reading.{pick}
use Rattle.notation.specs.Tree.{Opener, def, block, local, on, Tree, leaf, prefix, suffix, binary, within, Production}
use Rattle.notation.specs.Token.{Token, closes, right, slash, after}
use Rattle.notation.specs.Notation.{Level, Reads, alternatives, one_alternative, items, one_item, prefixed, no_prefix, suffixed, no_suffix, itself, brackets, operator, Productions, last, more}
use Rattle.notation.specs.Stream.{Symbol, leaves, front, back, joins, post, Stream, ◌▸◌, broken, ◌▸▸◌, close, in_angle, want, stream}
use Rattle.notation.specs.StreamLaws.{on_on, complete}
use Rattle.notation.specs.Naming.{per_operator, Definition, definition_in, definitions, alike}
use Rattle.notation.specs.Symbols.{same_symbol, same_symbols}
use Rattle.notation.specs.AlikeLaws.{alike_symbols}
use Rattle.notation.specs.Uses.{defined_by}
use Rattle.notation.specs.OnePattern.{no_definition}
use Rattle.patterns.specs.Bodies.{Body, bodies_in, no_body, same_streams, defs_on}

-- A body is that of a definition: of the same table, and a walk from it puts out the pattern.
pub record Of (b : Body) (d : Definition) : Type 0 where
  pub of_table_lem : b.table ≡ d.table
  pub walked : stream b.ahead want [] ≡ (post d.pattern ▸▸ broken)

-- One by one.
pub data Beside : List Body → List Definition → Type 0 where
  no_more : Beside [] []
  one_more : {b : Body} {d : Definition} {bs : List Body} {ds : List Definition} → Of b d → Beside bs ds → Beside (b ∷ bs) (d ∷ ds)

reads_beside :
    {ℓ : Level} {ts : List Token} {a : Tree} → Reads ℓ ts a → (us : List Token) {ds : List Definition} → Beside (bodies_in us) ds
    → Beside (bodies_in (ts ++ us)) (per_operator definition_in a ++ ds)
unfolding bodies_in stream close in_angle
reads_beside (alternatives {ts = ts} {us = vs} D E) us B =
    rw (append_assoc ts (slash ∷ vs) us, append_assoc) (reads_beside D (slash ∷ (vs ++ us)) (reads_beside E us B))
reads_beside (one_alternative D) us B = reads_beside D us B
reads_beside (items {ts = ts} {us = vs} D E) us B = rw (append_assoc ts vs us, append_assoc) (reads_beside D (vs ++ us) (reads_beside E us B))
reads_beside (one_item D) us B = reads_beside D us B
reads_beside (prefixed D) us B = reads_beside D us B
reads_beside (no_prefix D) us B = reads_beside D us B
reads_beside (suffixed {s = s} D) us B = rw append_assoc (reads_beside D (after s ∷ us) B)
reads_beside (no_suffix D) us B = reads_beside D us B
reads_beside itself us B = B
reads_beside (brackets {ts = ts} D) us B = rw (append_assoc ts (right ∷ []) us) (reads_beside D (right ∷ us) B)
reads_beside (operator {o = def t} {ts = ts} {a = a} D) us B =
    rw (append_assoc ts (closes ∷ []) us)
    (one_more (record { of_table_lem = refl; walked = complete D (closes ∷ us) [] (omega arith) (omega arith) }) (reads_beside D (closes ∷ us) B))
reads_beside (operator {o = block t} {ts = ts} D) us B = rw (append_assoc ts (closes ∷ []) us) (reads_beside D (closes ∷ us) B)
reads_beside (operator {o = local t} {ts = ts} D) us B = rw (append_assoc ts (closes ∷ []) us) (reads_beside D (closes ∷ us) B)
reads_beside (operator {o = on c w} {ts = ts} D) us B = rw (append_assoc ts (closes ∷ []) us) (reads_beside D (closes ∷ us) B)

-- THE BODIES OF A TEXT'S DEFS, one by one.
pub bodies_are : {ts : List Token} {ps : List Production} → Productions ts ps → Beside (bodies_in ts) (definitions ps)
unfolding bodies_in
bodies_are (last {ts = ts} {a = a} D) =
    subst (λ l. Beside (bodies_in l) (per_operator definition_in a ++ [])) (append-nil ts) (reads_beside D [] no_more)
bodies_are (more {us = us} D P) = reads_beside D us (bodies_are P)

-- ## By their numbers

pub beside_length : {bs : List Body} {ds : List Definition} → Beside bs ds → length bs ≡ length ds
beside_length no_more = refl
beside_length (one_more h B) = ap suc (beside_length B)

pub beside_tables : {bs : List Body} {ds : List Definition} → Beside bs ds → map (λ b. b.table) bs ≡ map (λ d. d.table) ds
beside_tables no_more = refl
beside_tables (one_more h B) = ap₂ (λ t l. t ∷ l) h.of_table_lem (beside_tables B)

pub beside_at : {bs : List Body} {ds : List Definition} → Beside bs ds → (i : ℕ) → i < length ds → Of (get_or bs i no_body) (get_or ds i no_definition)
beside_at no_more i h = absurd (omega arith)
beside_at (one_more k B) zero h = k
beside_at (one_more k B) (suc i) h = beside_at B i (omega arith)

-- ## Alike

streams_same : (xs ys : List Symbol) → same_streams (xs ▸▸ broken) (ys ▸▸ broken) ≡ same_symbols xs ys
unfolding same_streams same_symbols ◌▸▸◌
streams_same [] [] = refl
streams_same [] (y ∷ ys) = refl
streams_same (x ∷ xs) [] = refl
streams_same (x ∷ xs) (y ∷ ys) = ap (λ b. pick (same_symbol x y) b false) (streams_same xs ys)

pub streams_alike : (a b : Tree) → same_streams (post a ▸▸ broken) (post b ▸▸ broken) ≡ alike a b
streams_alike a b = streams_same (post a) (post b) ∙ sym (alike_symbols a b)

-- So two bodies that put out the same are of definitions that are alike.
pub bodies_alike :
    {b c : Body} {d e : Definition} → Of b d → Of c e
    → same_streams (stream b.ahead want []) (stream c.ahead want []) ≡ alike d.pattern e.pattern
bodies_alike {d = d} {e = e} h k = ap₂ same_streams h.walked k.walked ∙ streams_alike d.pattern e.pattern

-- ## The defs inside

defs_post : (a : Tree) (r : Stream) → defs_on (post a ▸▸ r) ≡ length (per_operator definition_in a) + defs_on r
unfolding defs_on post ◌▸▸◌
defs_post (leaf l) r = omega arith
defs_post (prefix p a) r = rw (on_on (post a) (front p ∷ []) r) (defs_post a (front p ▸ r) ∙ omega arith)
defs_post (suffix s a) r = rw (on_on (post a) (back s ∷ []) r) (defs_post a (back s ▸ r) ∙ omega arith)
defs_post (binary b x y) r =
    rw (on_on (post x) (post y ++ (joins b ∷ [])) r, on_on (post y) (joins b ∷ []) r)
    (omega (
      arith,
      defs_post x (post y ▸▸ (joins b ▸ r)),
      defs_post y (joins b ▸ r),
      length-append (per_operator definition_in x) (per_operator definition_in y),
    ))
defs_post (within o a) r =
    rw (on_on (post a) (leaves ∷ []) r)
    (omega (arith, defs_post a (leaves ▸ r), length-append (definition_in o a) (per_operator definition_in a), one o))
  where
    one : (o : Opener) → length (defined_by o) ≡ length (definition_in o a)
    one (def t) = refl
    one (block t) = refl
    one (local t) = refl
    one (on c w) = refl

pub defs_inside : (a : Tree) → defs_on (post a ▸▸ broken) ≡ length (per_operator definition_in a)
unfolding defs_on
defs_inside a = defs_post a broken ∙ omega arith
