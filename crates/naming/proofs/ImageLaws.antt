-- The first production that ends past a limit, its ends being given by number, as a pass that counts heads looks for it.
use Prim.Native.Nat.{ℕ, suc, ◌+◌, ◌≤◌, ◌<◌}
use mathlib.Core.Path.{◌≡◌, refl, ap, ap₂, sym, ◌∙◌}
use mathlib.Core.Bool.{true, false}
use mathlib.Core.List.{List, [], ◌∷◌}
use mathlib.Core.Option.{Option, some, none}
use native.Mathlib.Omega.{arith}
use lib.Dec.{ltb}
use lib.ListN.{length, take, get_or}
use Rattle.format.specs.Reading.{pick}
use Rattle.grammar.specs.Grammar.{Grammar}
use Rattle.notation.specs.Tree.{Production}
use Rattle.notation.specs.Token.{bad, Lexeme}
use Rattle.notation.specs.Lexer.{lexemes}
use Rattle.notation.specs.Text.{ReadsAs}
use Rattle.notation.specs.Compile.{count}
use Rattle.notation.specs.Places.{first_over, image_up_to, is_head, only}
use Rattle.naming.specs.Found.{found}
use Rattle.naming.specs.Sized.{nodes_of, Sized}
use Rattle.naming.specs.GatheredLaws.{reading}
use Rattle.std.specs.declared.option.Option as Std
use Rattle.std.specs.declared.option.Option.TheVariants.{Some, None}
use Rattle.naming.proofs.HeadLaws.{heads_length}

-- The first head whose end, counted from the base, is past a limit.
unfoldable pub first_above : (limit base : ℕ) → List ℕ → List Lexeme → Option Lexeme
first_above limit base [] heads = none
first_above limit base (e ∷ ends) [] = none
first_above limit base (e ∷ ends) (h ∷ heads) = pick (ltb limit (base + e)) (some h) (first_above limit base ends heads)

-- ## While no end is past the limit, what is still to come has the first that is

module _ (limit base : ℕ) (ends : List ℕ) (place : Lexeme → ℕ) (whole : List Lexeme) where
  abbrev result : Std.Option ℕ
  result = found place (first_above limit base ends (only is_head whole))

  pub record Ending (rest : List ℕ) (ls : List Lexeme) : Type 0 where
    pub still : found place (first_above limit base rest (only is_head ls)) ≡ result

  -- No head is left; or no end.
  pub ending_over : (rest : List ℕ) → Ending rest [] → None ≡ result
  unfolding first_above only
  ending_over [] E = E.still
  ending_over (e ∷ rest) E = E.still

  pub ending_out : {ls : List Lexeme} (rest : List ℕ) → length rest ≡ 0 → Ending rest ls → None ≡ result
  unfolding first_above
  ending_out [] h E = E.still
  ending_out (e ∷ rest) h E = absurd (omega arith)

  module _ {l : Lexeme} {ls : List Lexeme} where
    pub ending_token : {rest : List ℕ} → Ending rest (l ∷ ls) → is_head l.token ≡ false → Ending rest ls
    unfolding only
    ending_token E e = record { still = rw e at E.still }

    module _ {end : ℕ} {rest : List ℕ} (E : Ending (end ∷ rest) (l ∷ ls)) (e : is_head l.token ≡ true) where
      here : found place (pick (ltb limit (base + end)) (some l) (first_above limit base rest (only is_head ls))) ≡ result
      unfolding first_above only
      here = rw e at E.still

      pub ending_head : ltb limit (base + end) ≡ false → Ending rest ls
      ending_head f = record { still = rw f at here }

      pub ending_here : ltb limit (base + end) ≡ true → {p : ℕ} → place l ≡ p → Some p ≡ result
      ending_here f q = ap Some (sym q) ∙ rw f at here

  pub ending_bad : {rest : List ℕ} (l : Lexeme) → l.token ≡ bad → Ending rest (l ∷ []) → Ending rest []
  ending_bad l e E = ending_token E (ap is_head e)

-- ## It is what the rules say, where the ends are those of the image

agrees :
    (limit base : ℕ) (size : ℕ → ℕ) (k : ℕ) (ps : List Production) (ends : List ℕ) (heads : List Lexeme) → length heads ≤ length ps
    → length ps ≤ length ends → ((i : ℕ) → i < length ps → base + get_or ends i 0 ≡ size (k + nodes_of (take (suc i) ps)))
    → first_above limit base ends heads ≡ first_over limit size k ps heads
unfolding first_above first_over
agrees limit base size k [] [] heads h m f = refl
agrees limit base size k [] (e ∷ ends) [] h m f = refl
agrees limit base size k [] (e ∷ ends) (l ∷ heads) h m f = absurd (omega arith)
agrees limit base size k (p ∷ ps) [] heads h m f = absurd (omega arith)
agrees limit base size k (p ∷ ps) (e ∷ ends) [] h m f = refl
agrees limit base size k (p ∷ ps) (e ∷ ends) (l ∷ heads) h m f =
    let later = k + count p.body in
    let first : base + e ≡ size later = f 0 (omega arith) ∙ ap size (omega arith) in
    ap₂ (λ n o. pick (ltb limit n) (some l) o) first
    (agrees limit base size later ps ends heads (omega arith) (omega arith) (λ i d. f (suc i) (omega arith) ∙ ap size (omega arith)))

pub above_is :
    {text : List ℕ} {ps : List Production} → ReadsAs text ps → (g : Grammar) (base : ℕ) (ends : List ℕ) → Sized g base ends ps → (limit : ℕ)
    → first_above limit base ends (only is_head (lexemes text)) ≡ first_over limit (image_up_to g) 0 ps (only is_head (lexemes text))
above_is {text} {ps} r g base ends S limit =
    agrees limit base (image_up_to g) 0 ps ends (only is_head (lexemes text)) (omega (arith, heads_length (lexemes text) (reading r))) S.many
    (λ i h. S.each i h ∙ ap (image_up_to g) (omega arith))
