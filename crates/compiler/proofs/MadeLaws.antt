-- The parts of an image, put together.
use Prim.Native.Nat.{ℕ, suc, ◌+◌, ◌≤◌}
use mathlib.Core.Path.{◌≡◌, ap, ap₂, ◌∙◌, subst}
use mathlib.Core.List.{List, [], ◌∷◌, ◌++◌}
use native.Mathlib.Omega.{arith}
use lib.ListN.{length, take, get_or, length-append}
use Rattle.format.specs.Written.{numbers, heading, encode}
use Rattle.grammar.specs.Grammar.{Grammar}
use Rattle.notation.specs.Tree.{Production}
use Rattle.notation.specs.Lexer.{lexemes}
use Rattle.notation.specs.Text.{ReadsAs}
use Rattle.notation.specs.Compile.{compile}
use Rattle.notation.specs.Places.{name_place, first_over, image_up_to, is_head, only}
use Rattle.notation.specs.Judged.{refused}
use Rattle.notation.specs.Said.{Says}
use Rattle.naming.specs.Found.{found}
use Rattle.naming.specs.Sized.{nodes_of, Sized}
use Rattle.std.specs.declared.option.Option as Std
use Rattle.std.specs.declared.option.Option.TheVariants.{Some, None}
use Rattle.writer.specs.Put.{Wrote, AllSmall}
use Rattle.emitter.specs.Stage.{bytes_of}
use Rattle.emitter.specs.Emitted.{nodes_up_to}
use Rattle.writer.specs.declared.node.Made.{Made}
use Rattle.compiler.specs.Compiles.{Compiled, Compiles}
use Rattle.compiler.specs.Images.{Lends, Makes}
use Rattle.compiler.proofs.RuledLaws.{over_image, held}
use Rattle.compiler.proofs.FewLaws.{few_productions}
use Rattle.compiler.proofs.EmitLaws.{up_to}
use Rattle.compiler.proofs.AnswerLaws.{over_said, image_short, image_lent}
use Rattle.compiler.proofs.NumberLaws.{start_small, patterns_small}

module _ {text out patterns ends : List ℕ} {switches start : ℕ} {made : Made} (m : Makes text switches start out patterns ends made) where
  abbrev grammar : Grammar
  grammar = compile m.productions

  -- The heading is small.
  pub head_few : length patterns ≤ 8
  head_few = rw m.emits.patterns_are (held m.passes).few_tables

  pub head_small : AllSmall (switches ∷ made.nodes ∷ start ∷ patterns)
  head_small =
      let h = held m.passes in
      rw (m.emits.patterns_are, m.emits.nodes_many, m.switches_are, m.start_is) (
        omega (arith, h.few_conditions),
        (omega (arith, h.few_nodes), (start_small m.productions h.few_nodes, patterns_small m.productions h.few_nodes)),
      )

  abbrev headed : List ℕ
  headed = numbers (1 ∷ length patterns ∷ switches ∷ made.nodes ∷ start ∷ []) ++ numbers patterns

  headed_is : headed ≡ numbers (heading grammar) ++ numbers grammar.patterns
  headed_is = rw (m.emits.patterns_are, m.emits.nodes_many, m.switches_are, m.start_is)

  module _ {was now : List ℕ} {base : ℕ} (w : Wrote was 0 now base headed) where
    -- Where each production ends in the image.
    sized : Sized grammar base ends m.productions
    unfolding image_up_to
    sized =
        record {
          many = omega (arith, m.ends_long, few_productions m.passes);
          each = λ i h.
              let z : get_or (nodes_up_to 0 m.productions) i 0 ≡ nodes_of (take (suc i) m.productions) = omega (arith, up_to 0 i m.productions h) in
              omega (
                arith,
                w.place,
                ap length headed_is,
                length-append (numbers (heading grammar)) (numbers grammar.patterns),
                m.emits.ends_are i h,
                ap (λ n. bytes_of (take n grammar.nodes)) z,
              );
        }

    -- By what `over_image` finds.
    module _ {f : Std.Option ℕ} (o : (ps : List Production) (g : Grammar) → ReadsAs text ps → Sized g base ends ps → f ≡ found (name_place text) (first_over 16384 (image_up_to g) 0 ps (only is_head (lexemes text)))) where
      over_is : f ≡ found (name_place text) (over_image text m.productions)
      over_is = o m.productions grammar m.passes.reading sized

      whole_is : take base now ++ take made.length out ≡ encode grammar
      whole_is = ap₂ ◌++◌ (w.front ∙ headed_is) m.emits.nodes_written

      module _ (short : length text ≤ 65535) where
        pub said_over : {q : ℕ} → f ≡ Some q → (room : ℕ) → Says text room (refused 24 q)
        said_over = over_said short m.passes over_is

        module _ (h : f ≡ None) where
          pub whole_short : length (take base now) + length (take made.length out) ≤ 65535
          whole_short =
              omega (
                arith,
                image_short short m.passes over_is h,
                ap length whole_is,
                length-append (take base now) (take made.length out),
              )

          pub whole_lent :
              (before after : List ℕ) (r : Compiled) → Lends (take base now ++ take made.length out) before after r → Compiles text before after r
          whole_lent before after r l =
              image_lent short m.passes over_is h before after r (subst (λ b. Lends b before after r) whole_is l)
