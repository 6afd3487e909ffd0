-- A text that has passed can be written, and what is written of it is of its image.
use Prim.Native.Nat.{ℕ, zero, suc, ◌+◌, ◌≤◌, ◌<◌}
use mathlib.Core.Path.{◌≡◌}
use mathlib.Core.List.{List, [], ◌∷◌, ◌++◌}
use native.Mathlib.Omega.{arith}
use lib.ListN.{length, take, drop, get_or}
use Rattle.notation.specs.Tree.{Production}
use Rattle.notation.specs.Text.{ReadsAs}
use Rattle.notation.specs.Compile.{count, compile}
use Rattle.naming.specs.Sized.{nodes_of}
use Rattle.emitter.specs.Emitted.{Ready, nodes_up_to, Emits}
use Rattle.writer.specs.declared.node.Made.{Made}
use Rattle.compiler.specs.Images.{Numbers, Makes}
use Rattle.compiler.proofs.FewLaws.{listed_length, listed_tables, listed_switches}
use Rattle.compiler.proofs.PartLaws.{part_front}
use Rattle.compiler.proofs.RuledLaws.{held}

-- The nodes up to a production's end are those of the productions up to it.
pub up_to : (k i : ℕ) (ps : List Production) → i < length ps → get_or (nodes_up_to k ps) i 0 ≡ k + nodes_of (take (suc i) ps)
unfolding nodes_up_to
up_to k i [] h = absurd (omega arith)
up_to k zero (p ∷ ps) h = omega arith
up_to k (suc i) (p ∷ ps) h = omega (arith, up_to (k + count p.body) i ps (omega arith))

module _ {text heads roots tables switches : List ℕ} {start : ℕ} (n : Numbers text heads roots tables switches start) where
  pub ready : length text ≤ 65535 → Ready text heads roots tables switches
  ready short =
      let l = n.lists in
      let h = held l.passes in
      record {
        productions = l.productions;
        reading = l.passes.reading;
        few_bytes = short;
        few_nodes = h.few_nodes;
        few_tables = listed_tables l;
        few_switches = listed_switches l;
        short_texts = h.short_texts;
        names_defined = h.names_defined;
        heads_are = l.heads_are;
        roots_are = n.each;
        tables_are = l.tables_are;
        switches_are = l.switches_are;
      }

  -- The patterns came back in the front of an array.
  pub makes :
      {out patterns ends : List ℕ} {r : Made} (whole : List ℕ) → length patterns ≡ length tables → length ends ≡ 512
      → ((ps : List Production) → ReadsAs text ps → Emits ps out patterns ends r)
      → Makes text (length switches) start out (take (length tables) (patterns ++ drop (length tables) whole)) ends r
  unfolding compile
  makes {patterns = patterns} whole h l e =
      rw (part_front patterns whole h)
      (record {
        productions = n.lists.productions;
        passes = n.lists.passes;
        switches_are = listed_length text switches n.lists.switches_are;
        start_is = n.first;
        ends_long = l;
        emits = e n.lists.productions n.lists.passes.reading;
      })
