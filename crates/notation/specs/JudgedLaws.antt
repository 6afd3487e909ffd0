-- What is said of a reading, by its rules: the number of the first that is not kept, at some place, or its grammar.
use Rattle.std.specs.Prelude.{ℕ, ◌≤◌, ◌<◌, ◌≡◌, refl, Bool, List, [], map, leb, length}
use Rattle.std.proofs.Math.Path.{sym}
use Rattle.std.proofs.Common.{◌∙◌, arith, le-leb}
use Rattle.std.proofs.Math.Bool.{true, false}
use Rattle.std.proofs.Math.Option.{Option, some, none}
use Rattle.std.proofs.lemmas.Bool.{lt-leb}
use Rattle.format.specs.Reading.{pick}
use Rattle.format.specs.Written.{encode}
use Rattle.grammar.specs.Grammar.{size}
use Rattle.grammar.specs.Grammar as G
use Rattle.notation.specs.Tree.{Production}
use Rattle.notation.specs.Token.{Lexeme, bare}
use Rattle.notation.specs.Notation.{Productions}
use Rattle.notation.specs.LexicalText.{no_way}
use Rattle.notation.specs.Naming.{names, definitions, all_defined, once_named, one_pattern}
use Rattle.notation.specs.Limits.{fits}
use Rattle.notation.specs.Compile.{compile}
use Rattle.notation.specs.Uses.{head_of, def_of, switch_of}
use Rattle.notation.specs.Places.{token_place, name_place, first_where, first_name, undefined, again, ninth, long, first_over, image_up_to, is_head, only, unlike}
use Rattle.notation.specs.PlacesLaws.{is_none, defined_place, once_place, pattern_place, tables_place, conditions_place, texts_place, nodes_place, image_place}
use Rattle.notation.specs.SoundLaws.{within_limits}
use Rattle.notation.specs.Judged.{Answer, good, refused, or_else, at_name, at_token, judged}

-- ## What a search says

-- What is found is refused; where nothing is, what comes after it is said.
or_found :
    {A : Type 0} (o : Option A) (number : ℕ) (at : A → ℕ) (rest : Answer) → is_none o ≡ false
    → (p : ℕ) × (or_else o (λ x. refused number (at x)) rest ≡ refused number p)
or_found (some x) number at rest e = (at x, refl)
or_found none number at rest e = no_way (cc)

or_none : {A : Type 0} (o : Option A) (found : A → Answer) (rest : Answer) → is_none o ≡ true → or_else o found rest ≡ rest
or_none (some x) found rest e = no_way (cc)
or_none none found rest e = refl

-- Refused, as long as something is found before the end.
or_more :
    {A : Type 0} (o : Option A) (number : ℕ) (at : A → ℕ) (rest : Answer) → (is_none o ≡ true → (p : ℕ) × (rest ≡ refused number p))
    → (p : ℕ) × (or_else o (λ x. refused number (at x)) rest ≡ refused number p)
or_more (some x) number at rest f = (at x, refl)
or_more none number at rest f = f refl

-- ## What is said of a reading

-- This is refused, at some place.
abbrev pub Refused : ℕ → Answer → Type 0
Refused n a = (p : ℕ) × (a ≡ refused n p)

module _ (text : List ℕ) (room : ℕ) (ls : List Lexeme) {ps : List Production} (P : Productions (bare ls) ps) where
  -- The searches, and what is said from each on.
  abbrev name_lacks : Option Lexeme
  name_lacks = first_where (undefined (names ps) (map (λ d. d.table) (definitions ps))) ls

  abbrev name_again : Option Lexeme
  name_again = first_name head_of again [] ls

  abbrev pattern_differs : Option Lexeme
  pattern_differs = unlike (definitions ps) ls

  abbrev table_ninth : Option Lexeme
  table_ninth = first_name def_of ninth [] ls

  abbrev condition_ninth : Option Lexeme
  condition_ninth = first_name switch_of ninth [] ls

  abbrev text_long : Option Lexeme
  text_long = first_where long ls

  abbrev nodes_over : Option Lexeme
  nodes_over = first_over 512 (λ n. n) 0 ps (only is_head ls)

  abbrev image_over : Option Lexeme
  image_over = first_over 16384 (image_up_to (compile ps)) 0 ps (only is_head ls)

  abbrev at_end : Answer
  at_end = pick (leb (length (encode (compile ps))) room) (good (compile ps)) (refused 25 0)

  abbrev from_image : Answer
  from_image = or_else image_over (at_name text room ps ls 24) at_end

  abbrev from_nodes : Answer
  from_nodes = or_else nodes_over (at_name text room ps ls 24) from_image

  abbrev from_texts : Answer
  from_texts = or_else text_long (at_token text room ps ls 24) from_nodes

  abbrev from_conditions : Answer
  from_conditions = or_else condition_ninth (at_name text room ps ls 24) from_texts

  abbrev from_tables : Answer
  from_tables = or_else table_ninth (at_name text room ps ls 24) from_conditions

  abbrev from_patterns : Answer
  from_patterns = or_else pattern_differs (at_token text room ps ls 23) from_tables

  abbrev from_names : Answer
  from_names = or_else name_again (at_name text room ps ls 22) from_patterns

  pub judged_undefined : all_defined ps ≡ false → Refused 21 (judged text room ps ls)
  unfolding judged
  judged_undefined a = or_found name_lacks 21 (name_place text) from_names (defined_place ls P ∙ a)

  module _ (a : all_defined ps ≡ true) where
    judged_defined : judged text room ps ls ≡ from_names
    unfolding judged
    judged_defined = or_none name_lacks (at_name text room ps ls 21) from_names (defined_place ls P ∙ a)

    pub judged_twice : once_named ps ≡ false → Refused 22 (judged text room ps ls)
    judged_twice b = rw judged_defined (or_found name_again 22 (name_place text) from_patterns (once_place ls P ∙ b))

    module _ (b : once_named ps ≡ true) where
      judged_once : judged text room ps ls ≡ from_patterns
      judged_once = judged_defined ∙ or_none name_again (at_name text room ps ls 22) from_patterns (once_place ls P ∙ b)

      pub judged_differs : one_pattern ps ≡ false → Refused 23 (judged text room ps ls)
      judged_differs c = rw judged_once (or_found pattern_differs 23 (token_place text) from_tables (pattern_place ls P ∙ c))

      module _ (c : one_pattern ps ≡ true) where
        judged_one : judged text room ps ls ≡ from_tables
        judged_one = judged_once ∙ or_none pattern_differs (at_token text room ps ls 23) from_tables (pattern_place ls P ∙ c)

        -- If nothing is found, every limit is kept.
        pub judged_past : fits ps (compile ps) ≡ false → Refused 24 (judged text room ps ls)
        unfolding fits
        judged_past d =
            rw judged_one
            (or_more table_ninth 24 (name_place text) from_conditions (λ t.
            or_more condition_ninth 24 (name_place text) from_texts (λ u.
            or_more text_long 24 (token_place text) from_nodes (λ v.
            or_more nodes_over 24 (name_place text) from_image (λ w.
            or_more image_over 24 (name_place text) at_end (λ x.
            let z : true ≡ false =
            rw (
              sym (tables_place ls P a) ∙ t,
              sym (conditions_place ls P) ∙ u,
              sym (nodes_place ls P) ∙ w,
              sym (texts_place ls P) ∙ v,
              sym (image_place ls P) ∙ x,
            ) at d in
            no_way (cc)))))))

        module _ (d : fits ps (compile ps) ≡ true) where
          judged_within : judged text room ps ls ≡ at_end
          judged_within =
              let l = within_limits ps (compile ps) d in
              judged_one
              ∙ or_none table_ninth (at_name text room ps ls 24) from_conditions (tables_place ls P a ∙ le-leb (G.tables (compile ps)) 8 l.few_tables)
              ∙ or_none condition_ninth (at_name text room ps ls 24) from_texts
              (conditions_place ls P ∙ le-leb (compile ps).conditions 8 l.few_conditions)
              ∙ or_none text_long (at_token text room ps ls 24) from_nodes (texts_place ls P ∙ l.short_texts)
              ∙ or_none nodes_over (at_name text room ps ls 24) from_image (nodes_place ls P ∙ le-leb (size (compile ps)) 512 l.few_nodes)
              ∙ or_none image_over (at_name text room ps ls 24) at_end
              (image_place ls P ∙ le-leb (length (encode (compile ps))) 16384 l.small_image)

          pub judged_no_room : room < length (encode (compile ps)) → judged text room ps ls ≡ refused 25 0
          judged_no_room h = judged_within ∙ rw (lt-leb (length (encode (compile ps))) room h)

          pub judged_good : length (encode (compile ps)) ≤ room → judged text room ps ls ≡ good (compile ps)
          judged_good h = judged_within ∙ rw (le-leb (length (encode (compile ps))) room h)

  -- ## Every place is in the text

  abbrev Inside : Answer → Type 0
  Inside (good g) = Unit {0}
  Inside (refused n p) = p ≤ length text

  or_inside : (o : Option Lexeme) (found : Lexeme → Answer) (rest : Answer) → ((l : Lexeme) → Inside (found l)) → Inside rest → Inside (or_else o found rest)
  or_inside (some l) found rest f h = f l
  or_inside none found rest f h = h

  by_name : (n : ℕ) (l : Lexeme) → Inside (at_name text room ps ls n l)
  by_name n l = omega arith

  by_token : (n : ℕ) (l : Lexeme) → Inside (at_token text room ps ls n l)
  by_token n l = omega arith

  end_inside : Inside at_end
  end_inside = go (leb (length (encode (compile ps))) room) refl
    where
      go : (b : Bool) → leb (length (encode (compile ps))) room ≡ b → Inside at_end
      go true e = rw e tt
      go false e = rw e (omega arith)

  pub judged_inside : (n p : ℕ) → judged text room ps ls ≡ refused n p → p ≤ length text
  unfolding judged
  judged_inside n p e =
      rw e at
      (or_inside name_lacks (at_name text room ps ls 21) from_names (by_name 21)
      (or_inside name_again (at_name text room ps ls 22) from_patterns (by_name 22)
      (or_inside pattern_differs (at_token text room ps ls 23) from_tables (by_token 23)
      (or_inside table_ninth (at_name text room ps ls 24) from_conditions (by_name 24)
      (or_inside condition_ninth (at_name text room ps ls 24) from_texts (by_name 24)
      (or_inside text_long (at_token text room ps ls 24) from_nodes (by_token 24)
      (or_inside nodes_over (at_name text room ps ls 24) from_image (by_name 24) (or_inside image_over (at_name text room ps ls 24) at_end (by_name 24) end_inside))))))))
