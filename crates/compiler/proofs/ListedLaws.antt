-- Names that were gathered, as the slice of their places.
use Prim.Native.Nat.{ℕ, ◌≤◌, ◌<◌}
use mathlib.Core.Path.{◌≡◌, ap, ◌∙◌}
use mathlib.Core.List.{List, [], map}
use native.Mathlib.Omega.{arith}
use lib.ListN.{length, take}
use lib.Seq.{take-length}
use Rattle.notation.specs.Tree.{Name}
use Rattle.notation.specs.Token.{Token}
use Rattle.notation.specs.At.{name_at}
use Rattle.notation.specs.Lexer.{lexemes}
use Rattle.index.specs.Listed.{Ascending}
use Rattle.naming.specs.Gathered.{sort_of, gathered, Gathers}
use Rattle.naming.specs.GatheredLaws.{gathered_bound, gathered_ascending}
use Rattle.naming.specs.declared.gather.Gathered.{Gathered}
use Rattle.naming.specs.declared.gather.Sort.{Sort}
use Rattle.writer.specs.Named.{names_of}

-- An array of 32,768 places is enough for any sort.
pub enough : (sort : Sort) (text : List ℕ) → length text ≤ 65535 → length (gathered (sort_of sort) [] (lexemes text)) < 32768
enough sort text h = omega (arith, gathered_bound sort text)

module _ {f : Token → List Name} {text at : List ℕ} {r : Gathered} (G : Gathers f text at r) where
  pub gathers_listed : names_of text (take r.count at) ≡ gathered f [] (lexemes text)
  gathers_listed = ap (map (name_at text)) (take-length (take r.count at)) ∙ G.listed

  pub gathers_ascending : Ascending (names_of text (take r.count at))
  gathers_ascending = rw gathers_listed (gathered_ascending f (lexemes text))
