-- What the rules say of a text is what is said of it, where they refuse; and where they let pass, what is left to be said is a matter of the image.
use Prim.Native.Nat.{ℕ, ◌≤◌}
use mathlib.Core.Path.{◌≡◌, refl, ap, sym, ◌∙◌, subst}
use mathlib.Core.Bool.{true}
use mathlib.Core.List.{List}
use mathlib.Core.Option.{Option, some, none}
use lib.Dec.{leb}
use lib.ListN.{length}
use borrow.Author.Tests.{leb-true}
use Rattle.format.specs.Reading.{pick}
use Rattle.format.specs.Written.{encode}
use Rattle.grammar.specs.Grammar.{size}
use Rattle.grammar.specs.Grammar as G
use Rattle.notation.specs.Tree.{Production}
use Rattle.notation.specs.Token.{Lexeme, bare}
use Rattle.notation.specs.Notation.{Productions}
use Rattle.notation.specs.Limits.{short}
use Rattle.notation.specs.Lexer.{lexemes, tokens}
use Rattle.notation.specs.Stream.{streamed}
use Rattle.notation.specs.Reader.{trees, parsed}
use Rattle.notation.specs.Text.{ReadsAs}
use Rattle.notation.specs.TextLaws.{derived, lexes_once}
use Rattle.notation.specs.Naming.{per_leaf, everywhere, all, all_defined, once_named, one_pattern}
use Rattle.notation.specs.Compile.{compile}
use Rattle.notation.specs.Places.{token_place, name_place, first_over, image_up_to, is_head, only}
use Rattle.notation.specs.PlacesLaws.{is_none, defined_place, once_place, pattern_place, tables_place, conditions_place, texts_place, nodes_place}
use Rattle.notation.specs.Judged.{Answer, good, refused, or_else, judged}
use Rattle.notation.specs.Said.{Says, unread, read}
use Rattle.naming.specs.Found.{found}
use Rattle.naming.specs.GatheredLaws.{reading}
use Rattle.walker.specs.Tells.{Tells}
use Rattle.walker.specs.declared.walk.Unread.{Unread}
use Rattle.std.specs.Prelude.{Ok, Err}
use Rattle.compiler.specs.declared.refusal.Slip.TheVariants.{Undefined, Twice, Unlike, OverLimit}
use Rattle.compiler.specs.Refusals.{number_of}
use Rattle.compiler.specs.Judges.{Judgement, cleared, ◌then◌, lacks, twice, differs, ninth_table, ninth_switch, long_text, over_nodes, ruled, Passes, Judges}

-- ## Judgements as answers

-- A refusal, or what is said where the judgement lets pass.
abbrev answered : Judgement → Answer → Answer
answered (Ok _) later = later
answered (Err r) later = refused (number_of r.slip) r.place

-- Seven searches, one after the other: as the rules go by them, and as an answer does.
module _ (name token : Lexeme → ℕ) where
  abbrev searched : (a b c d e f g : Option Lexeme) → Judgement
  searched a b c d e f g =
      (cleared Undefined (found name a) then cleared Twice (found name b))
      then cleared Unlike (found token c)
      then cleared OverLimit (found name d) then cleared OverLimit (found name e) then cleared OverLimit (found token f) then cleared OverLimit (found name g)

  abbrev answers : (a b c d e f g : Option Lexeme) → Answer → Answer
  answers a b c d e f g later =
      or_else a (λ l. refused 21 (name l))
      (or_else b (λ l. refused 22 (name l))
      (or_else c (λ l. refused 23 (token l))
      (or_else d (λ l. refused 24 (name l))
      (or_else e (λ l. refused 24 (name l)) (or_else f (λ l. refused 24 (token l)) (or_else g (λ l. refused 24 (name l)) later))))))

  searched_answers : (a b c d e f g : Option Lexeme) (later : Answer) → answers a b c d e f g later ≡ answered (searched a b c d e f g) later
  searched_answers (some l) b c d e f g later = refl
  searched_answers none (some l) c d e f g later = refl
  searched_answers none none (some l) d e f g later = refl
  searched_answers none none none (some l) e f g later = refl
  searched_answers none none none none (some l) f g later = refl
  searched_answers none none none none none (some l) g later = refl
  searched_answers none none none none none none (some l) later = refl
  searched_answers none none none none none none none later = refl

  -- Where all pass, nothing was found.
  searched_none :
      (a b c d e f g : Option Lexeme) → searched a b c d e f g ≡ Ok tt
      → (is_none a ≡ true) × (is_none b ≡ true) × (is_none c ≡ true) × (is_none d ≡ true) × (is_none e ≡ true) × (is_none f ≡ true) × (is_none g ≡ true)
  searched_none (some l) b c d e f g q = absurd (cc)
  searched_none none (some l) c d e f g q = absurd (cc)
  searched_none none none (some l) d e f g q = absurd (cc)
  searched_none none none none (some l) e f g q = absurd (cc)
  searched_none none none none none (some l) f g q = absurd (cc)
  searched_none none none none none none (some l) g q = absurd (cc)
  searched_none none none none none none none (some l) q = absurd (cc)
  searched_none none none none none none none none q = (refl, refl, refl, refl, refl, refl, refl)

-- ## All that is said of a reading

-- The production with which the image is too long.
abbrev pub over_image : List ℕ → List Production → Option Lexeme
over_image text ps = first_over 16384 (image_up_to (compile ps)) 0 ps (only is_head (lexemes text))

module _ (text : List ℕ) (ps : List Production) (room : ℕ) where
  -- What is left to be said where every rule before holds.
  abbrev pub imaged : Answer
  imaged =
      or_else (over_image text ps) (λ l. refused 24 (name_place text l))
      (pick (leb (length (encode (compile ps))) room) (good (compile ps)) (refused 25 0))

  judged_ruled : judged text room ps (lexemes text) ≡ answered (ruled text ps) imaged
  unfolding judged ruled
  judged_ruled =
      searched_answers (name_place text) (token_place text) (lacks text ps) (twice text ps) (differs text ps) (ninth_table text ps) (ninth_switch text ps)
      (long_text text ps) (over_nodes text ps) imaged

-- ## What holds where the rules let pass

pub record Held (ps : List Production) : Type 0 where
  pub names_defined : all_defined ps ≡ true
  pub names_once : once_named ps ≡ true
  pub patterns_one : one_pattern ps ≡ true
  pub few_tables : G.tables (compile ps) ≤ 8
  pub few_conditions : (compile ps).conditions ≤ 8
  pub short_texts : all (λ b. b) (everywhere (per_leaf short) ps) ≡ true
  pub few_nodes : size (compile ps) ≤ 512

pub held : {text : List ℕ} {ps : List Production} → Passes text ps → Held ps
unfolding ruled
held {text} {ps} p =
    let n =
    searched_none (name_place text) (token_place text) (lacks text ps) (twice text ps) (differs text ps) (ninth_table text ps) (ninth_switch text ps)
    (long_text text ps) (over_nodes text ps) p.passes in
    let ls = lexemes text in
    let P : Productions (bare ls) ps = reading p.reading in
    let a : all_defined ps ≡ true = sym (defined_place ls P) ∙ n.0 in
    record {
      names_defined = a;
      names_once = sym (once_place ls P) ∙ n.1;
      patterns_one = sym (pattern_place ls P) ∙ n.2;
      few_tables = leb-true (G.tables (compile ps)) 8 (sym (tables_place ls P a) ∙ n.3);
      few_conditions = leb-true (compile ps).conditions 8 (sym (conditions_place ls P) ∙ n.4);
      short_texts = sym (texts_place ls P) ∙ n.5;
      few_nodes = leb-true (size (compile ps)) 512 (sym (nodes_place ls P) ∙ n.6);
    }

-- ## What is said

module _ {text : List ℕ} (short : length text ≤ 65535) where
  said_ruled : {ps : List Production} (r : ReadsAs text ps) (room : ℕ) → Says text room (answered (ruled text ps) (imaged text ps room))
  said_ruled {ps} r room =
      subst (Says text room) (ap (judged text room ps) (sym (lexes_once r.lexes)) ∙ judged_ruled text ps room) (read short r)

  pub said_passed : {ps : List Production} → Passes text ps → (room : ℕ) → Says text room (imaged text ps room)
  said_passed {ps} p room = rw p.passes at (said_ruled p.reading room)

  pub stopped_said : {u : Unread} → Tells text (Err u) → (room : ℕ) → Says text room (refused 20 u.at)
  stopped_said t room = unread short t.1

  pub whole_said : (j : Judgement) {v : Unit {0}} → Tells text (Ok v) → ((ps : List Production) → ReadsAs text ps → j ≡ ruled text ps) → Judges text j
  unfolding parsed
  whole_said j t f = go j refl
    where
      ps : List Production
      ps = trees (streamed (tokens text))

      reading : ReadsAs text ps
      reading = derived text ps (rw t)

      go : (i : Judgement) → j ≡ i → Judges text i
      go (Ok tt) q = (ps, record { reading = reading; passes = sym (f ps reading) ∙ q })
      go (Err r) q = λ room. rw (sym (f ps reading) ∙ q) at (said_ruled reading room)
