-- The first production with which the nodes are past a limit, as a pass that weighs tokens looks for it.
use Prim.Native.Nat.{ℕ, ◌+◌, ◌-◌, ◌≤◌, ◌<◌}
use mathlib.Core.Path.{◌≡◌, refl, ap, sym, ◌∙◌}
use mathlib.Core.Bool.{Bool, true, false}
use mathlib.Core.List.{List, [], ◌∷◌, ◌++◌, append-nil}
use mathlib.Core.Option.{Option, some}
use native.Mathlib.Omega.{arith}
use lib.Dec.{eqb, ltb}
use lib.ListN.{length}
use borrow.Author.Tests.{eqb-true, lt-ltb, le-ltb}
use Rattle.format.specs.Reading.{pick}
use Rattle.notation.specs.Tree.{Production}
use Rattle.notation.specs.Token.{bad, Lexeme}
use Rattle.notation.specs.Lexer.{lexemes}
use Rattle.notation.specs.Text.{ReadsAs}
use Rattle.notation.specs.Compile.{count}
use Rattle.notation.specs.Counts.{weight_of}
use Rattle.notation.specs.Places.{first_over, is_head, only}
use Rattle.naming.specs.Found.{found}
use Rattle.naming.specs.GatheredLaws.{reading}
use Rattle.std.specs.declared.option.Option as Std
use Rattle.std.specs.declared.option.Option.TheVariants.{Some, None}
use Rattle.naming.proofs.WeightLaws.{Light, light_all, light_token, light_head}
use Rattle.naming.proofs.EndLaws.{Ended, ends, endings, headed, endings_are}
use Rattle.std.specs.Bool.{then_some}

-- The first that ends past a limit.
unfoldable pub first_past : ℕ → List (Ended ℕ) → Std.Option ℕ
first_past limit [] = None
first_past limit (e ∷ es) = pick (ltb limit e.nodes) (Some e.head) (first_past limit es)

picked : (b : Bool) (x : ℕ) → then_some b x ≡ pick b (Some x) None
picked true x = refl
picked false x = refl

found_pick : (place : Lexeme → ℕ) (b : Bool) (l : Lexeme) (later : Option Lexeme) → found place (pick b (some l) later) ≡ pick b (Some (place l)) (found place later)
found_pick place true l later = refl
found_pick place false l later = refl

module _ (limit : ℕ) (place : Lexeme → ℕ) where
  headed_past : (k : ℕ) (ps : List Production) (hs : List Lexeme) → first_past limit (headed place k ps hs) ≡ found place (first_over limit (λ n. n) k ps hs)
  unfolding first_past headed first_over
  headed_past k [] hs = refl
  headed_past k (p ∷ ps) [] = refl
  headed_past k (p ∷ ps) (h ∷ hs) =
      let later = k + count p.body in
      ap (λ r. pick (ltb limit later) (Some (place h)) r) (headed_past later ps hs)
      ∙ sym (found_pick place (ltb limit later) h (first_over limit (λ n. n) later ps hs))

  -- What is open ends: where the nodes before it are within the limit, it is past the limit or nothing is open.
  ends_past :
      (x k w : ℕ) (es : List (Ended ℕ)) → k ≤ limit
      → first_past limit (ends x k w ++ es) ≡ pick (ltb limit (k + (w - 1))) (Some x) (first_past limit es)
  unfolding first_past
  ends_past x k w es h = go (eqb w 0) refl
    where
      go : (b : Bool) → eqb w 0 ≡ b → first_past limit (ends x k w ++ es) ≡ pick (ltb limit (k + (w - 1))) (Some x) (first_past limit es)
      go true q =
          let z : k + (w - 1) ≤ limit = omega (arith, eqb-true w 0 q) in rw (q, le-ltb limit (k + (w - 1)) z)
      go false q = rw q

  -- ## While nothing is past the limit, what is still to come, with what is open, has the first that is

  module _ (whole : List Lexeme) where
    abbrev result : Std.Option ℕ
    result = first_past limit (endings place 0 0 0 whole)

    pub record Weighing (name nodes weight : ℕ) (ls : List Lexeme) : Type 0 where
      pub low : nodes ≤ limit
      pub light : Light nodes weight ls
      pub within : first_past limit (endings place name nodes weight ls) ≡ result

    pub weighing_end : {name nodes weight : ℕ} → Weighing name nodes weight [] → then_some (ltb limit (nodes + (weight - 1))) name ≡ result
    unfolding endings first_past
    weighing_end {name} {nodes} {weight} W =
        picked (ltb limit (nodes + (weight - 1))) name ∙ sym (rw append-nil at (ends_past name nodes weight [] W.low)) ∙ W.within

    module _ {name nodes weight : ℕ} {l : Lexeme} {ls : List Lexeme} (W : Weighing name nodes weight (l ∷ ls)) where
      pub weighing_token : is_head l.token ≡ false → {w : ℕ} → w ≡ weight_of l.token → Weighing name nodes (weight + w) ls
      unfolding endings
      weighing_token e h =
          rw h (record { low = W.low; light = light_token nodes weight l ls W.light; within = rw e at W.within })

      -- A head ends what is open: with it the nodes are k.
      module _ (e : is_head l.token ≡ true) {k : ℕ} (h : k ≡ nodes + (weight - 1)) where
        closes : pick (ltb limit k) (Some name) (first_past limit (endings place (place l) k 0 ls)) ≡ result
        unfolding endings
        closes = rw h (sym (ends_past name nodes weight (endings place (place l) (nodes + (weight - 1)) 0 ls) W.low) ∙ rw e at W.within)

        pub weighing_head : k ≤ limit → {p : ℕ} → place l ≡ p → Weighing p k 0 ls
        weighing_head f q = record {
          low = f;
          light = rw h (light_head nodes weight l ls W.light);
          within = rw (← q) (rw (le-ltb limit k f) at closes);
        }

        pub weighing_here : limit < k → Some name ≡ result
        weighing_here f = rw (lt-ltb limit k f) at closes

    -- What is no token weighs nothing.
    pub weighing_bad : {name nodes weight : ℕ} (l : Lexeme) → l.token ≡ bad → Weighing name nodes weight (l ∷ []) → Weighing name nodes weight []
    weighing_bad {name} {nodes} {weight} l e W =
        let z : weight + 0 ≡ weight = omega arith in
        rw z at (weighing_token W (ap is_head e) {w = 0} (sym (ap weight_of e)))

pub weighing_all :
    (limit : ℕ) (text : List ℕ) (place : Lexeme → ℕ) → length text ≤ 65535 → Weighing limit place (lexemes text) 0 0 0 (lexemes text)
weighing_all limit text place h = record { low = omega arith; light = light_all text h; within = refl }

-- Of a text that reads as productions it is what the rules say.
pub past_is :
    {text : List ℕ} {ps : List Production} → ReadsAs text ps → (limit : ℕ) (place : Lexeme → ℕ)
    → first_past limit (endings place 0 0 0 (lexemes text)) ≡ found place (first_over limit (λ n. n) 0 ps (only is_head (lexemes text)))
past_is {text} {ps} r limit place =
    ap (first_past limit) (endings_are place (reading r) (lexemes text) refl 0 0 0) ∙ headed_past limit place 0 ps (only is_head (lexemes text))
