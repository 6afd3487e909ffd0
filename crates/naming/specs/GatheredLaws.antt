-- What is gathered is what the naming rules and `compile` go by.
use Rattle.std.specs.Prelude.{ℕ, suc, ◌*◌, ◌≤◌, ◌≡◌, refl, true, List, [], ◌∷◌, ◌++◌, map, length}
use Rattle.std.proofs.Common.{ap, sym, ◌∙◌, append_assoc, append-nil, arith}
use Rattle.notation.specs.Tree.{Name, Production}
use Rattle.notation.specs.Token.{Token, Lexeme, bare}
use Rattle.notation.specs.Notation.{Productions}
use Rattle.notation.specs.Text.{ReadsAs}
use Rattle.notation.specs.TextLaws.{lexes_once}
use Rattle.notation.specs.Lexer.{lexemes, tokens}
use Rattle.notation.specs.Naming.{names, tables, conditions, definitions, all_defined}
use Rattle.notation.specs.Uses.{per_token, head_of, def_of, switch_of}
use Rattle.notation.specs.UsesLaws.{heads_are, defs_are, tables_sorted, conditions_sorted}
use Rattle.notation.specs.Compile.{Order, lower, equal, higher, order, insert, sorted}
use Rattle.index.specs.Listed.{Ascending}
use Rattle.notation.specs.OrderLaws.{sorted_ascending, sorted_added}
use Rattle.index.specs.ListedLaws.{sorted_shorter}
use Rattle.naming.specs.BoundLaws.{defines, names_bound}
use Rattle.naming.specs.Gathered.{sort_of, inserted, gathered}
use Rattle.naming.specs.declared.gather.Sort as Sort
use Rattle.naming.specs.declared.gather.Sort.TheVariants as Variants

-- ## No name is lost

insert_grows : (n : Name) (ns : List Name) → length ns ≤ length (insert n ns)
unfolding insert
insert_grows n [] = omega arith
insert_grows n (m ∷ ms) = go (order n m) refl (insert_grows n ms)
  where
    go : (o : Order) → order n m ≡ o → length ms ≤ length (insert n ms) → suc (length ms) ≤ length (insert n (m ∷ ms))
    go lower q i = rw (q, insert) (omega arith)
    go equal q i = rw (q, insert) (omega arith)
    go higher q i = rw (q, insert) (omega arith)

inserted_grows : (ns before : List Name) → length before ≤ length (inserted ns before)
unfolding inserted
inserted_grows [] before = omega arith
inserted_grows (n ∷ ns) before = omega (arith, insert_grows n before, inserted_grows ns (insert n before))

pub gathered_grows : (f : Token → List Name) (before : List Name) (ls : List Lexeme) → length before ≤ length (gathered f before ls)
unfolding gathered
gathered_grows f before [] = omega arith
gathered_grows f before (l ∷ ls) =
    let next = inserted (f l.token) before in omega (arith, inserted_grows (f l.token) before, gathered_grows f next ls)

-- ## WHAT IS GATHERED is what the tokens name, in byte order, each once

inserted_sorted : (ns before : List Name) → inserted ns (sorted before) ≡ sorted (before ++ ns)
unfolding inserted
inserted_sorted [] before = ap sorted (sym (append-nil before))
inserted_sorted (n ∷ ns) before =
    ap (inserted ns) (sym (sorted_added n before)) ∙ inserted_sorted ns (before ++ n ∷ []) ∙ ap sorted (append_assoc before (n ∷ []) ns)

gathered_from : (f : Token → List Name) (before : List Name) (ls : List Lexeme) → gathered f (sorted before) ls ≡ sorted (before ++ per_token f (bare ls))
unfolding gathered per_token
gathered_from f before [] = ap sorted (sym (append-nil before))
gathered_from f before (l ∷ ls) =
    let ns = f l.token in
    ap (λ b. gathered f b ls) (inserted_sorted ns before) ∙ gathered_from f (before ++ ns) ls
    ∙ ap sorted (append_assoc before ns (per_token f (bare ls)))

pub gathered_sorted : (f : Token → List Name) (ls : List Lexeme) → gathered f [] ls ≡ sorted (per_token f (bare ls))
unfolding sorted
gathered_sorted f ls = gathered_from f [] ls

pub gathered_ascending : (f : Token → List Name) (ls : List Lexeme) → Ascending (gathered f [] ls)
gathered_ascending f ls = rw (gathered_sorted f ls) (sorted_ascending (per_token f (bare ls)))

-- Of a text that reads as productions.
module _ {text : List ℕ} {ps : List Production} (r : ReadsAs text ps) where
  pub reading : Productions (tokens text) ps
  reading = rw (lexes_once r.lexes) r.derives

  pub heads_gathered : gathered head_of [] (lexemes text) ≡ sorted (names ps)
  heads_gathered = gathered_sorted head_of (lexemes text) ∙ ap sorted (heads_are reading)

  pub defs_gathered : gathered def_of [] (lexemes text) ≡ sorted (map (λ d. d.table) (definitions ps))
  defs_gathered = gathered_sorted def_of (lexemes text) ∙ ap sorted (defs_are reading)

  pub tables_gathered : all_defined ps ≡ true → gathered def_of [] (lexemes text) ≡ sorted (tables ps)
  tables_gathered e = gathered_sorted def_of (lexemes text) ∙ sym (tables_sorted reading e)

  pub conditions_gathered : gathered switch_of [] (lexemes text) ≡ sorted (conditions ps)
  conditions_gathered = gathered_sorted switch_of (lexemes text) ∙ sym (conditions_sorted reading)

-- ## HOW MANY: at most half as many as the text has bytes

sort_small : (sort : Sort.Sort) (t : Token) → length (sort_of sort t) ≤ defines t
sort_small Variants.Productions t = omega arith
sort_small Variants.Tables t = omega arith
sort_small Variants.Conditions t = omega arith

pub gathered_bound : (sort : Sort.Sort) (text : List ℕ) → 2 * length (gathered (sort_of sort) [] (lexemes text)) ≤ length text
gathered_bound sort text =
    let f = sort_of sort in
    rw (gathered_sorted f (lexemes text))
    (omega (arith, names_bound f (sort_small sort) text, sorted_shorter (per_token f (tokens text))))
