-- WHAT IS ASKED OF A TEXT, AND WHAT IS WRITTEN OF IT.
use Rattle.std.specs.Prelude.{ℕ, ◌+◌, ◌≤◌, ◌<◌, ◌≡◌, true, List, [], ◌∷◌, length, take, get_or}
use Rattle.format.specs.Written.{written, encode_node}
use Rattle.grammar.specs.Grammar.{size}
use Rattle.notation.specs.Tree.{Name, Production}
use Rattle.notation.specs.Text.{ReadsAs}
use Rattle.notation.specs.Naming.{per_leaf, everywhere, names, conditions, all, all_defined}
use Rattle.notation.specs.Naming as Naming
use Rattle.notation.specs.Limits.{short}
use Rattle.notation.specs.Compile.{sorted, entry, count, compile}
use Rattle.notation.specs.Compile as Compile
use Rattle.writer.specs.declared.node.Made.{Made}
use Rattle.writer.specs.Named.{names_of, production_by}
use Rattle.emitter.specs.Stage.{bytes_of}

-- The text reads as productions that have passed the tests, and the slices stand for their names: the productions' in byte order with their nodes, those of the
-- tables, and those of the conditions.
pub record Ready (text heads roots tables switches : List ℕ) : Type 0 where
  pub productions : List Production
  pub reading : ReadsAs text productions
  pub few_bytes : length text ≤ 65535
  pub few_nodes : size (compile productions) ≤ 512
  pub few_tables : length tables ≤ 8
  pub few_switches : length switches ≤ 8
  pub short_texts : all (λ b. b) (everywhere (per_leaf short) productions) ≡ true
  pub names_defined : all_defined productions ≡ true
  pub heads_are : names_of text heads ≡ sorted (names productions)
  pub roots_are : (n : Name) → production_by text heads roots n ≡ entry n (Compile.roots 0 productions)
  pub tables_are : names_of text tables ≡ sorted (Naming.tables productions)
  pub switches_are : names_of text switches ≡ sorted (conditions productions)

-- How many nodes there are up to the end of each production, k being before the first.
unfoldable pub nodes_up_to : (k : ℕ) → List Production → List ℕ
nodes_up_to k [] = []
nodes_up_to k (p ∷ ps) = (k + count p.body) ∷ nodes_up_to (k + count p.body) ps

-- The nodes of the grammar are in the front of the buffer, the patterns in their slice, and of each production where in the buffer its nodes end.
pub record Emits (ps : List Production) (out patterns ends : List ℕ) (r : Made) : Type 0 where
  pub nodes_written : take r.length out ≡ written encode_node (compile ps).nodes
  pub length-written : r.length ≡ bytes_of (compile ps).nodes
  pub nodes_many : r.nodes ≡ size (compile ps)
  pub patterns_are : patterns ≡ (compile ps).patterns
  pub ends_are : (i : ℕ) → i < length ps → get_or ends i 0 ≡ bytes_of (take (get_or (nodes_up_to 0 ps) i 0) (compile ps).nodes)
