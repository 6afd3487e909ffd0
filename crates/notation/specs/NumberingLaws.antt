-- THE NUMBERS OF NAMES, AND HOW MANY THERE ARE. 02, L2: "Tables and conditions are numbered in byte order of their names." So no two tables are taken for one.
use Rattle.std.specs.Prelude.{suc, ◌<◌, ◌≡◌, Bool, true, false, List, [], ◌∷◌, length}
use Rattle.std.proofs.Math.Path.{refl}
use Rattle.std.proofs.Common.{sym, ap, ◌∙◌, arith}
use Rattle.std.proofs.Math.ListN.{length-map}
use Rattle.grammar.specs.Grammar as G
use Rattle.notation.specs.Tree.{Name, Production}
use Rattle.notation.specs.Lexer.{same}
use Rattle.notation.specs.LexicalText.{no_way}
use Rattle.notation.specs.LexicalToken.{same_true}
use Rattle.notation.specs.Naming.{member, tables, conditions}
use Rattle.notation.specs.Compile.{order, lower, equal, place, sorted, entry, patterns_all, compile}
use Rattle.notation.specs.CompileLaws.{member-sorted, table_number, condition_number}
use Rattle.notation.specs.OrderLaws.{order_same, lower_lower, Below, Ascending, sorted_ascending}

-- ## Names of a list

-- Two names have two numbers.
pub one_number : (t u : Name) (ns : List Name) → member t ns ≡ true → member u ns ≡ true → place t ns ≡ place u ns → t ≡ u
unfolding place member
one_number t u [] m k e = no_way (cc)
one_number t u (n ∷ ns) m k e = go (same t n) (same u n) refl refl (λ i j h. one_number t u ns i j h)
  where
    go : (a b : Bool) → same t n ≡ a → same u n ≡ b → (member t ns ≡ true → member u ns ≡ true → place t ns ≡ place u ns → t ≡ u) → t ≡ u
    go true true p q r = same_true t n p ∙ sym (same_true u n q)
    go true false p q r = let z : 0 ≡ suc (place u ns) = rw (p, q) at e in absurd (omega arith)
    go false true p q r = let z : suc (place t ns) ≡ 0 = rw (p, q) at e in absurd (omega arith)
    go false false p q r = let z : suc (place t ns) ≡ suc (place u ns) = rw (p, q) at e in r (rw p at m) (rw q at k) (omega arith)

-- A name below all of a list is lower than each of them.
below_each : (n t : Name) (ns : List Name) → Below n ns → member t ns ≡ true → order n t ≡ lower
unfolding member
below_each n t [] b m = no_way (cc)
below_each n t (k ∷ ks) b m = go (same t k) refl (λ h. below_each n t ks b.1 h)
  where
    go : (e : Bool) → same t k ≡ e → (member t ks ≡ true → order n t ≡ lower) → order n t ≡ lower
    go true q r = rw (same_true t k q) b.0
    go false q r = r (rw q at m)

-- In a list that goes up the lower name has the lower number.
pub lower_first :
    (t u : Name) (ns : List Name) → Ascending ns → member t ns ≡ true → member u ns ≡ true → order t u ≡ lower → place t ns < place u ns
unfolding place member
lower_first t u [] a m k o = no_way (cc)
lower_first t u (n ∷ ns) a m k o = go (same t n) (same u n) refl refl (λ i j. lower_first t u ns a.1 i j o)
  where
    go : (b c : Bool) → same t n ≡ b → same u n ≡ c → (member t ns ≡ true → member u ns ≡ true → place t ns < place u ns)
        → place t (n ∷ ns) < place u (n ∷ ns)
    go true true p q r =
        let z : equal ≡ lower = sym (order_same n) ∙ ap (λ x. order x n) (sym (same_true t n p)) ∙ ap (order t) (sym (same_true u n q)) ∙ o in no_way (cc)
    go true false p q r = rw (p, q) (omega arith)
    go false true p q r =
        let later : order n t ≡ lower = below_each n t ns a.0 (rw p at m) in
        let z : equal ≡ lower = sym (order_same t) ∙ lower_lower t n t (ap (order t) (sym (same_true u n q)) ∙ o) later in
        no_way (cc)
    go false false p q r = let z = r (rw p at m) (rw q at k) in rw (p, q) (omega arith)

-- ## Names of a text

module _ (ps : List Production) where
  -- Two tables have two numbers, and two conditions have; the lower name has the lower one.
  pub tables_apart : (t u : Name) → member t (tables ps) ≡ true → member u (tables ps) ≡ true → table_number ps t ≡ table_number ps u → t ≡ u
  tables_apart t u m k e = one_number t u (sorted (tables ps)) (member-sorted t (tables ps) m) (member-sorted u (tables ps) k) e

  pub tables_ordered :
      (t u : Name) → member t (tables ps) ≡ true → member u (tables ps) ≡ true → order t u ≡ lower → table_number ps t < table_number ps u
  tables_ordered t u m k o =
      lower_first t u (sorted (tables ps)) (sorted_ascending (tables ps)) (member-sorted t (tables ps) m) (member-sorted u (tables ps) k) o

  pub conditions_apart :
      (c d : Name) → member c (conditions ps) ≡ true → member d (conditions ps) ≡ true → condition_number ps c ≡ condition_number ps d → c ≡ d
  conditions_apart c d m k e = one_number c d (sorted (conditions ps)) (member-sorted c (conditions ps) m) (member-sorted d (conditions ps) k) e

  pub conditions_ordered :
      (c d : Name) → member c (conditions ps) ≡ true → member d (conditions ps) ≡ true → order c d ≡ lower → condition_number ps c < condition_number ps d
  conditions_ordered c d m k o =
      lower_first c d (sorted (conditions ps)) (sorted_ascending (conditions ps)) (member-sorted c (conditions ps) m) (member-sorted d (conditions ps) k) o

  -- As many tables and conditions as there are names: `sorted` has each once (`sorted_distinct`, `sorted_member`).
  pub tables_counted : G.tables (compile ps) ≡ length (sorted (tables ps))
  unfolding compile
  tables_counted = length-map (sorted (tables ps)) (λ t. entry t (patterns_all 0 ps))

  pub conditions_counted : (compile ps).conditions ≡ length (sorted (conditions ps))
  unfolding compile
  conditions_counted = refl
