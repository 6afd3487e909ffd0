-- What is counted over the tokens is what `compile` counts over their reading.
use Rattle.std.specs.Prelude.{ℕ, suc, ◌+◌, ◌-◌, ◌≡◌, Bool, true, false, length, get_or}
use Rattle.std.proofs.Math.Path.{refl, ap, ap₂, sym}
use Rattle.std.proofs.Common.{◌∙◌, ne_eqb}
use mathlib.Core.List.{List, [], ◌∷◌, ◌++◌, map, append_assoc, append-nil}
use native.Mathlib.Omega.{arith}
use Rattle.std.proofs.Math.ListN.{length-append}
use Rattle.grammar.specs.Grammar.{size}
use Rattle.notation.specs.Tree.{Name, Tree, Production}
use Rattle.notation.specs.Token.{Token, head, leaf as leaf', opens, closes, left, right, slash, before, after, bad}
use Rattle.notation.specs.Notation.{Level, Reads, alternatives, one_alternative, items, one_item, prefixed, no_prefix, suffixed, no_suffix, itself, brackets, operator, Productions, last, more}
use Rattle.notation.specs.Lexer.{same}
use Rattle.notation.specs.LexicalText.{no_way}
use Rattle.notation.specs.Naming.{names}
use Rattle.notation.specs.Compile.{place, Entry, entry, count, root, emit, emit_all, roots, first, compile}
use Rattle.notation.specs.CompileLaws.{production_number, table_number, condition_number}
use Rattle.notation.specs.MeansLaws.{emit_length}
use Rattle.notation.specs.Uses.{says, per_token, nothing, heads_in}
use Rattle.notation.specs.UsesLaws.{no_heads, heads_are}
use Rattle.notation.specs.Counts.{weight_of, weight_in, Counted, nothing_counted, closed, heavier, counted, counted_in}

-- ## An expression's tokens weigh one more than it has nodes

weight_append : (ts us : List Token) → weight_in (ts ++ us) ≡ weight_in ts + weight_in us
unfolding weight_in
weight_append [] us = omega arith
weight_append (t ∷ ts) us = let i = weight_append ts us in omega arith

pub weighs : {ℓ : Level} {ts : List Token} {a : Tree} → Reads ℓ ts a → weight_in ts ≡ suc (count a)
unfolding weight_in count
weighs (alternatives {ts = ts} {us = us} D E) = omega (arith, weight_append ts (slash ∷ us), weighs D, weighs E)
weighs (one_alternative D) = weighs D
weighs (items {ts = ts} {us = us} D E) = omega (arith, weight_append ts us, weighs D, weighs E)
weighs (one_item D) = weighs D
weighs (prefixed D) = omega (arith, weighs D)
weighs (no_prefix D) = weighs D
weighs (suffixed {s = s} {ts = ts} D) = omega (arith, weight_append ts (after s ∷ []), weighs D)
weighs (no_suffix D) = weighs D
weighs itself = omega arith
weighs (brackets {ts = ts} D) = omega (arith, weight_append ts (right ∷ []), weighs D)
weighs (operator {ts = ts} D) = omega (arith, weight_append ts (closes ∷ []), weighs D)

-- ## And add that, having no head among them

counted_other : (t : Token) (c : Counted) → says (λ n. n ∷ []) nothing nothing t ≡ [] → counted t c ≡ heavier (weight_of t) c
counted_other (head n) c e = no_way (cc)
counted_other (leaf' l) c e = refl
counted_other (opens o) c e = refl
counted_other closes c e = refl
counted_other left c e = refl
counted_other right c e = refl
counted_other slash c e = refl
counted_other (before p) c e = refl
counted_other (after s) c e = refl
counted_other bad c e = refl

both_empty : {A : Type 0} (xs ys : List A) → xs ++ ys ≡ [] → (xs ≡ []) × (ys ≡ [])
both_empty [] ys e = (refl, e)
both_empty (x ∷ xs) ys e = no_way (cc)

headless : (ts us : List Token) (c : Counted) → heads_in ts ≡ [] → counted_in (ts ++ us) c ≡ counted_in us (heavier (weight_in ts) c)
unfolding counted_in weight_in per_token
headless [] us c e = ap (λ w. counted_in us (record { nodes = c.nodes; weight = w; roots = c.roots })) (omega arith)
headless (t ∷ ts) us c e =
    let k = both_empty (says (λ n. n ∷ []) nothing nothing t) (heads_in ts) e in
    ap (counted_in (ts ++ us)) (counted_other t c k.0) ∙ headless ts us (heavier (weight_of t) c) k.1
    ∙ ap (λ w. counted_in us (record { nodes = c.nodes; weight = w; roots = c.roots })) (omega arith)

reads_counted :
    {ℓ : Level} {ts : List Token} {a : Tree} → Reads ℓ ts a → (us : List Token) (c : Counted)
    → counted_in (ts ++ us) c ≡ counted_in us (heavier (suc (count a)) c)
reads_counted {ts = ts} {a = a} D us c = headless ts us c (no_heads D) ∙ ap (λ n. counted_in us (heavier n c)) (weighs D)

-- ## Productions

-- An expression that ends has its nodes behind those before it.
closed_one :
    (a : Tree) (c : Counted) → c.weight ≡ 0
    → closed (heavier (suc (count a)) c) ≡ record { nodes = c.nodes + count a; weight = 0; roots = c.roots ++ (root c.nodes a ∷ []) }
closed_one a c e =
    let w : c.weight + suc (count a) ≡ suc (count a) = omega arith in
    let x : suc (count a) - 1 ≡ count a = omega arith in
    let y : c.nodes + suc (count a) - 2 ≡ root c.nodes a = omega arith in
    rw (w, ne_eqb (suc (count a)) 0 (λ z. omega arith), x, y)

module _ (pn tn cn : Name → ℕ) where
  -- What is known behind productions.
  abbrev behind : Counted → List Production → Counted
  behind c ps =
      record { nodes = c.nodes + length (emit_all pn tn cn c.nodes ps); weight = 0; roots = c.roots ++ map (λ e. e.number) (roots c.nodes ps) }

  behind_none : (c : Counted) → c.weight ≡ 0 → c ≡ behind c []
  unfolding emit_all roots
  behind_none c e = let z : c.nodes + 0 ≡ c.nodes = omega arith in rw (z, append-nil, e)

  behind_one : (p : Production) (ps : List Production) (c : Counted) → c.weight ≡ 0 → behind (closed (heavier (suc (count p.body)) c)) ps ≡ behind c (p ∷ ps)
  unfolding emit_all roots
  behind_one p ps c e =
      let a = p.body in
      let k = c.nodes in
      ap (λ d. behind d ps) (closed_one a c e)
      ∙ ap₂ (λ n l. record { nodes = n; weight = 0; roots = l })
      (omega (arith, length-append (emit pn tn cn k a) (emit_all pn tn cn (k + count a) ps), emit_length pn tn cn k a))
      (append_assoc c.roots (root k a ∷ []) (map (λ e. e.number) (roots (k + count a) ps)))

  all_counted : {ts : List Token} {ps : List Production} → Productions ts ps → (c : Counted) → counted_in ts c ≡ behind (closed c) ps
  unfolding counted_in
  all_counted (last {n = n} {ts = ts} {a = a} D) c =
      rw (← append-nil ts) (reads_counted D [] (closed c)) ∙ behind_none (closed (heavier (suc (count a)) (closed c))) refl
      ∙ behind_one (record { name = n; body = a }) [] (closed c) refl
  all_counted (more {n = n} {us = us} {a = a} {ps = ps} D P) c =
      reads_counted D us (closed c) ∙ all_counted P (heavier (suc (count a)) (closed c)) ∙ behind_one (record { name = n; body = a }) ps (closed c) refl

  -- WHAT IS COUNTED over a text's tokens: all nodes, and each production's own.
  pub counted_are :
      {ts : List Token} {ps : List Production} → Productions ts ps
      → counted_in ts nothing_counted ≡ record { nodes = length (emit_all pn tn cn 0 ps); weight = 0; roots = map (λ e. e.number) (roots 0 ps) }
  counted_are {ps = ps} P =
      all_counted P nothing_counted
      ∙ ap (λ n. record { nodes = n; weight = 0; roots = map (λ e. e.number) (roots 0 ps) }) (omega arith)

-- ## The numbers of productions

roots_named : (k : ℕ) (ps : List Production) → map (λ e. e.name) (roots k ps) ≡ names ps
unfolding roots
roots_named k [] = refl
roots_named k (p ∷ ps) = ap (λ ns. p.name ∷ ns) (roots_named (k + count p.body) ps)

-- What is said of a name stands at its place.
entry_placed : (n : Name) (es : List Entry) → entry n es ≡ get_or (map (λ e. e.number) es) (place n (map (λ e. e.name) es)) 0
unfolding entry place
entry_placed n [] = refl
entry_placed n (e ∷ es) = go (same n e.name) refl (entry_placed n es)
  where
    go : (b : Bool) → same n e.name ≡ b → entry n es ≡ get_or (map (λ e. e.number) es) (place n (map (λ e. e.name) es)) 0
        → entry n (e ∷ es) ≡ get_or (map (λ e. e.number) (e ∷ es)) (place n (map (λ e. e.name) (e ∷ es))) 0
    go true q i = rw q
    go false q i = rw q i

first_is : (es : List Entry) → first es ≡ get_or (map (λ e. e.number) es) 0 0
unfolding first
first_is [] = refl
first_is (e ∷ es) = refl

module _ {ts : List Token} {ps : List Production} (P : Productions ts ps) where
  roots_are : (counted_in ts nothing_counted).roots ≡ map (λ e. e.number) (roots 0 ps)
  roots_are = ap (λ c. c.roots) (counted_are (λ n. 0) (λ n. 0) (λ n. 0) P)

  -- A production's number, by the place of its head.
  pub numbered : (n : Name) → entry n (roots 0 ps) ≡ get_or (counted_in ts nothing_counted).roots (place n (heads_in ts)) 0
  numbered n = rw (roots_are, heads_are P, ← roots_named 0 ps) (entry_placed n (roots 0 ps))

  pub starts : first (roots 0 ps) ≡ get_or (counted_in ts nothing_counted).roots 0 0
  starts = rw roots_are (first_is (roots 0 ps))

  pub sized : size (compile ps) ≡ (counted_in ts nothing_counted).nodes
  unfolding compile
  sized = sym (ap (λ c. c.nodes) (counted_are (production_number ps) (table_number ps) (condition_number ps) P))
