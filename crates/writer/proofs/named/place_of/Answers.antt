-- `place_of` meets its promise. Assumes nothing.
use Rattle.std.proofs.Common.{ℕ, ◌≤◌, ◌≡◌, sym, ◌∙◌, List, length, arith, Result, Ok, Err}
use Rattle.std.specs.Result.{result_unwrap_or}
use Rattle.notation.specs.Tree.{Name}
use Rattle.notation.specs.At.{name_at}
use Rattle.notation.specs.Compile.{place}
use Rattle.index.specs.Listed.{Ascending, Seeks}
use Rattle.index.specs.ListedLaws.{stands_place, belongs_member}
use Rattle.index.specs.PlaceLaws.{names_length}
use Rattle.writer.specs.Named.{names_of}
use Rattle.writer.specs.NamedLaws.{place_none}
use Rattle.writer.proofs.named.place_of.Goals as goal

-- Where it stands, or behind all.
placed : (n : Name) (ns : List Name) (r : Result ℕ ℕ) (k : ℕ) → Ascending ns → length ns ≡ k → Seeks n ns r
    → (result_unwrap_or r k ≡ place n ns) × (result_unwrap_or r k ≤ k)
placed n ns (Ok i) k a e S = (sym (stands_place n ns i S a), omega (arith, S.inside))
placed n ns (Err i) k a e B = (sym (place_none n ns (belongs_member n ns i B) ∙ e), omega arith)

pub returns : goal.returns
returns c =
    let a = c.args in
    rw c.unwrap_or.ensures
    (placed (name_at a.text.now a.p) (names_of a.text.now a.at.now) c.seek.result (length a.at.now) c.requires
    (names_length a.text.now a.at.now (length a.at.now) (omega arith)) c.seek.ensures)
