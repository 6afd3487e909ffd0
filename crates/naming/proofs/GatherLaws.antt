-- Gathering names, one token after the other.
use Prim.Native.Nat.{ℕ, ◌≤◌}
use mathlib.Core.Path.{◌≡◌, refl, ap, sym, ◌∙◌}
use mathlib.Core.Bool.{Bool, true, false}
use mathlib.Core.List.{List, [], ◌∷◌}
use native.Mathlib.Omega.{arith}
use lib.ListN.{length}
use mathlib.Core.Option.{Option, some}
use Rattle.format.specs.Reading.{pick}
use Rattle.notation.specs.Tree.{Name}
use Rattle.notation.specs.Token.{Token, bad, Lexeme}
use Rattle.notation.specs.At.{name_at}
use Rattle.notation.specs.Lexer.{lexemes}
use Rattle.notation.specs.Compile.{insert}
use Rattle.notation.specs.Places.{first_name, again, ninth, name_place}
use Rattle.index.specs.Listed.{names_at, Ascending}
use Rattle.notation.specs.OrderLaws.{insert_ascending}
use Rattle.index.specs.PlaceLaws.{names_length}
use Rattle.naming.specs.Found.{found}
use Rattle.naming.specs.Gathered.{sort_of, inserted, gathered, Gathers, Adds}
use Rattle.naming.specs.GatheredLaws.{gathered_grows}
use Rattle.std.specs.declared.option.Option as Std
use Rattle.std.specs.declared.option.Option.TheVariants.{Some, None}
use Rattle.naming.specs.declared.gather.Gathered.{Gathered}
use Rattle.naming.specs.declared.gather.Sort.{Sort}
use Rattle.naming.specs.declared.gather.Sort.TheVariants.{Productions, Tables, Conditions}
use Rattle.std.specs.Option.{option_or}
use Rattle.std.specs.Bool.{then_some}

-- What is no token names nothing.
pub sort_bad : (sort : Sort) → sort_of sort bad ≡ []
sort_bad Productions = refl
sort_bad Tables = refl
sort_bad Conditions = refl

-- ## A place that is found, with what is still to come

nowhere_else : (a : Std.Option ℕ) → option_or a None ≡ a
nowhere_else (Some p) = refl
nowhere_else None = refl

-- A place that a test picks, with what comes behind it.
found_here :
    (place : Lexeme → ℕ) (a : Std.Option ℕ) (b : Bool) (p : ℕ) (l : Lexeme) (later : Option Lexeme) → place l ≡ p
    → option_or (option_or a (then_some b p)) (found place later) ≡ option_or a (found place (pick b (some l) later))
found_here place (Some q) b p l later e = refl
found_here place None true p l later e = ap Some (sym e)
found_here place None false p l later e = refl

module _ (f : Token → List Name) (test : List Name → Name → Bool) (before : List Name) (l : Lexeme) (ls : List Lexeme) where
  name_none : f l.token ≡ [] → first_name f test before (l ∷ ls) ≡ first_name f test before ls
  unfolding first_name
  name_none e = rw (e, first_name)

  name_one : (n : Name) → f l.token ≡ n ∷ [] → first_name f test before (l ∷ ls) ≡ pick (test before n) (some l) (first_name f test (insert n before) ls)
  unfolding first_name
  name_one n e = rw (e, first_name)

-- ## What is gathered, with what is still to come, is what the whole gives

module _ (f : Token → List Name) (text : List ℕ) (whole : List Lexeme) where
  -- The first name that a test does not let pass.
  abbrev First : (List Name → Name → Bool) → Std.Option ℕ → List Name → List Lexeme → Type 0
  First test a before ls = option_or a (found (name_place text) (first_name f test before ls)) ≡ found (name_place text) (first_name f test [] whole)

  pub record Gathering (at : List ℕ) (g : Gathered) (ls : List Lexeme) : Type 0 where
    pub within : g.count ≤ length at
    pub ordered : Ascending (names_at text at g.count)
    pub listed : gathered f (names_at text at g.count) ls ≡ gathered f [] whole
    pub again : First again g.again (names_at text at g.count) ls
    pub ninth : First ninth g.ninth (names_at text at g.count) ls

  -- There is room for one more name that is still to come.
  pub gathering_room : {at : List ℕ} {g : Gathered} {ls : List Lexeme} → Gathering at g ls → g.count ≤ length (gathered f [] whole)
  gathering_room {at} {g} {ls} G =
      let ns = names_at text at g.count in
      omega (arith, names_length text at g.count G.within, gathered_grows f ns ls, ap length G.listed)

  -- A token that names nothing of the sort; and one that names one thing, which is added.
  pub gathering_past : {at : List ℕ} {g : Gathered} {l : Lexeme} {ls : List Lexeme} → f l.token ≡ [] → Gathering at g (l ∷ ls) → Gathering at g ls
  unfolding gathered inserted
  gathering_past {at} {g} {l} {ls} e G =
      let ns = names_at text at g.count in
      record {
        within = G.within;
        ordered = G.ordered;
        listed = rw e at G.listed;
        again = rw (name_none f again ns l ls e) at G.again;
        ninth = rw (name_none f ninth ns l ls e) at G.ninth;
      }

  pub gathering_on :
      {at now : List ℕ} {g r : Gathered} {l : Lexeme} {ls : List Lexeme} {p : ℕ} → name_place text l ≡ p → f l.token ≡ name_at text p ∷ []
      → Adds text at g p now r → Gathering at g (l ∷ ls) → Gathering now r ls
  unfolding gathered inserted
  gathering_on {at} {now} {g} {r} {l} {ls} {p} h e A G =
      let ns = names_at text at g.count in
      let n = name_at text p in
      let first : (test : List Name → Name → Bool) (a b : Std.Option ℕ) → b ≡ option_or a (then_some (test ns n) p) → First test a ns (l ∷ ls)
      → First test b (names_at text now r.count) ls = λ test a b q F.
      rw (A.listed, q)
      (found_here (name_place text) a (test ns n) p l (first_name f test (insert n ns) ls) h ∙ rw (name_one f test ns l ls n e) at F)
      in
      record {
        within = A.within;
        ordered = rw A.listed (insert_ascending n ns G.ordered);
        listed = rw A.listed (rw e at G.listed);
        again = first again g.again r.again A.again G.again;
        ninth = first ninth g.ninth r.ninth A.ninth G.ninth;
      }

pub gathering_all : (f : Token → List Name) (text : List ℕ) {at : List ℕ} {g : Gathered} → Gathering f text (lexemes text) at g [] → Gathers f text at g
unfolding gathered first_name
gathering_all f text {at} {g} G =
    record {
      listed = G.listed;
      many = sym (names_length text at g.count G.within) ∙ ap length G.listed;
      again = sym (nowhere_else g.again) ∙ G.again;
      ninth = sym (nowhere_else g.ninth) ∙ G.ninth;
    }
