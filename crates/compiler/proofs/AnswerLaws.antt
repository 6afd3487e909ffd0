-- What is given, by what is said.
use Prim.Native.Nat.{ℕ, ◌≤◌}
use mathlib.Core.Path.{◌≡◌, refl, ap, sym, ◌∙◌, subst}
use mathlib.Core.List.{List}
use mathlib.Core.Option.{Option, some, none}
use lib.Dec.{leb}
use lib.ListN.{length}
use borrow.Author.Tests.{leb-true, le-leb, lt-leb}
use Rattle.format.specs.Reading.{pick}
use Rattle.format.specs.Written.{encode}
use Rattle.grammar.specs.Grammar.{Grammar}
use Rattle.notation.specs.Tree.{Production}
use Rattle.notation.specs.Token.{Lexeme}
use Rattle.notation.specs.LexicalText.{no_way}
use Rattle.notation.specs.Compile.{compile}
use Rattle.notation.specs.Lexer.{lexemes}
use Rattle.notation.specs.Places.{name_place}
use Rattle.notation.specs.PlacesLaws.{is_none, image_place}
use Rattle.notation.specs.Judged.{Answer, good, refused, or_else}
use Rattle.notation.specs.Said.{Says}
use Rattle.naming.specs.Found.{found}
use Rattle.naming.specs.GatheredLaws.{reading}
use Rattle.std.specs.declared.option.Option as Std
use Rattle.std.specs.declared.option.Option.TheVariants.{Some, None}
use Rattle.std.specs.Prelude.{Ok, Err}
use Rattle.compiler.specs.declared.refusal.Refusal.{Refusal}
use Rattle.compiler.specs.Refusals.{number_of}
use Rattle.compiler.specs.Compiles.{Compiled, Compiles}
use Rattle.compiler.specs.Images.{Lends}
use Rattle.compiler.specs.Judges.{Passes}
use Rattle.compiler.proofs.RuledLaws.{over_image, said_passed}

-- A refusal leaves the buffer as it is.
pub refuses : {text before : List ℕ} (r : Refusal) → Says text (length before) (refused (number_of r.slip) r.place) → Compiles text before before (Err r)
refuses r s = record { says = (refused (number_of r.slip) r.place, s, (refl, refl, refl)) }

-- ## What is given where the rules let pass

-- By what was found.
module _ (name : Lexeme → ℕ) where
  by_found :
      (o : Option Lexeme) {f : Std.Option ℕ} {q : ℕ} (later : Answer) → f ≡ found name o → f ≡ Some q → or_else o (λ l. refused 24 (name l)) later ≡ refused 24 q
  by_found none later e h = no_way (cc)
  by_found (some l) {f} {q} later e h = let z : name l ≡ q = cc in ap (refused 24) z

  by_nothing : (o : Option Lexeme) {f : Std.Option ℕ} → f ≡ found name o → f ≡ None → o ≡ none
  by_nothing none e h = refl
  by_nothing (some l) e h = no_way (cc)

module _ {text : List ℕ} (short : length text ≤ 65535) {ps : List Production} (p : Passes text ps) {f : Std.Option ℕ} (e : f ≡ found (name_place text) (over_image text ps)) where
  -- The image is too long with a production.
  pub over_said : {q : ℕ} → f ≡ Some q → (room : ℕ) → Says text room (refused 24 q)
  over_said h room = subst (Says text room) (by_found (name_place text) (over_image text ps) _ e h) (said_passed short p room)

  -- It is not too long.
  module _ (h : f ≡ None) where
    nothing_over : over_image text ps ≡ none
    nothing_over = by_nothing (name_place text) (over_image text ps) e h

    pub image_short : length (encode (compile ps)) ≤ 16384
    image_short =
        leb-true (length (encode (compile ps))) 16384 (sym (image_place (lexemes text) (reading p.reading)) ∙ ap is_none nothing_over)

    -- So it is lent, or there is no room for it.
    pub image_lent : (before after : List ℕ) (r : Compiled) → Lends (encode (compile ps)) before after r → Compiles text before after r
    image_lent before after r l = go r l
      where
        g : Grammar
        g = compile ps

        said : Says text (length before) (pick (leb (length (encode g)) (length before)) (good g) (refused 25 0))
        said = rw nothing_over at (said_passed short p (length before))

        go : (r : Compiled) → Lends (encode g) before after r → Compiles text before after r
        go (Ok n) l = record { says = (good g, rw (le-leb (length (encode g)) (length before) l.0) at said, (l.1, l.2)) }
        go (Err r) l =
            record { says = (refused 25 0, rw (lt-leb (length (encode g)) (length before) l.0) at said, (ap number_of l.1, l.2, l.3)) }
