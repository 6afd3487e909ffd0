-- What a symbol asks for.
use Rattle.std.specs.Prelude.{ℕ, ◌-◌, ◌≤◌, ◌≡◌, true, List, ◌∷◌, length}
use Rattle.std.proofs.Common.{ap, sym, ◌∙◌, subst, arith}
use Rattle.std.proofs.Math.ListN.{length-map}
use Rattle.std.proofs.Math.Option.{some}
use Rattle.notation.specs.Tree.{Name}
use Rattle.notation.specs.At.{name_at}
use Rattle.notation.specs.Naming.{member}
use Rattle.notation.specs.Patterns.{Known}
use Rattle.index.specs.PlaceLaws.{names_length}
use Rattle.lexer.specs.Meant.{suffix_of}
use Rattle.writer.specs.declared.operator.Unary.{Unary}
use Rattle.writer.specs.declared.operator.Unary.TheVariants.{And, Not, After}
use Rattle.writer.specs.declared.operator.Binary.{Binary}
use Rattle.writer.specs.declared.operator.Binary.TheVariants.{Sequence, Choice}
use Rattle.writer.specs.Put.{Room}
use Rattle.writer.specs.Named.{names_of}
use Rattle.writer.specs.Operator.{unary_nodes}
use Rattle.emitter.specs.declared.state.State.{State}
use Rattle.emitter.specs.declared.state.Opened.{Opened}
use Rattle.emitter.specs.Known.{known_of, Tells}
use Rattle.emitter.specs.Stage.{Stage}
use Rattle.emitter.specs.Shown.{opened_at, brought_of, brought_in, brought_at, Shown, Brought, Apt}
use Rattle.emitter.specs.StepLaws.{room_for, row_first, unary_symbol, binary_symbol, suffix_length}

-- ## What is shown

-- There is one number for each table.
pub tells_length : (patterns : List ℕ) (text tables : List ℕ) (f : Name → Known) → Tells patterns (names_of text tables) f → length patterns ≡ length tables
tells_length patterns text tables f T =
    sym (length-map patterns known_of) ∙ ap length T ∙ length-map (names_of text tables) f ∙ names_length text tables (length tables) (omega arith)

module _ {text : List ℕ} {ts : List Name} {out patterns ends done : List ℕ} {opened : List Opened} {s : State} {st : Stage} (S : Shown text ts out patterns ends done opened s st) where
  -- The table that the latest operator brings a pattern of is a table.
  pub latest_tabled :
      1 ≤ s.openers → Brought ts st.brought → (opened_at opened (s.openers - 1)).brings ≡ true → member (name_at text (opened_at opened (s.openers - 1)).name) ts ≡ true
  latest_tabled h b e =
      let o = opened_at opened (s.openers - 1) in
      let q : st.brought ≡ some (name_at text o.name) ∷ brought_at text opened (s.openers - 1) =
      sym S.brought_shown ∙ row_first (brought_in text opened) s.openers h
      ∙ ap (λ b. brought_of b (name_at text o.name) ∷ brought_at text opened (s.openers - 1)) e in
      (subst (Brought ts) q b).0

  -- What a prefix or a suffix asks for.
  pub unary_asks : (u : Unary) → Apt ts (unary_symbol u) s → (1 ≤ s.complete) × ((a : ℕ) → Room out s.made (length (unary_nodes u a s.made.nodes)))
  unfolding unary_nodes
  unary_asks And h = (h.0, λ a. room_for 2 S.holds h.1)
  unary_asks Not h = (h.0, λ a. room_for 1 S.holds h.1)
  unary_asks (After q) h =
      (h.0, λ a. room_for (length (unary_nodes (After q) a s.made.nodes)) S.holds (omega (arith, suffix_length (suffix_of q) a s.made.nodes, h.1)))

  pub join_asks : (x : Binary) → Apt ts (binary_symbol x) s → (2 ≤ s.complete) × Room out s.made 1
  join_asks Sequence h = (h.0, room_for 1 S.holds (omega arith))
  join_asks Choice h = (h.0, room_for 1 S.holds (omega arith))
