-- Bytes at the front of what is left of the input.
use Rattle.std.specs.Prelude.{ℕ, ◌≡◌, refl, Bool, true, false, List, [], ◌∷◌, ◌-◌, eqb, length, take, drop}
use Rattle.std.specs.List.{starts_with}
use Rattle.std.specs.Str.{bytes_eq}
use Rattle.std.proofs.Common.{ap, sym, ap₂, ◌∙◌, arith, take_all, length-drop, eq-eqb, ne_eqb, eqb-true}
use Rattle.std.proofs.lemmas.Bool.{eqb-false}
use Rattle.meaning.specs.Outcome.{◌and◌, same, begins}

either_way : (a b : ℕ) → eqb b a ≡ eqb a b
either_way a b = go (eqb a b) refl
  where
    go : (t : Bool) → eqb a b ≡ t → eqb b a ≡ t
    go true h = eq-eqb b a (sym (eqb-true a b h))
    go false h = ne_eqb b a (λ e. eqb-false a b h (sym e))

turned : (a b : List ℕ) → bytes_eq b a ≡ same a b
turned [] [] = refl
turned [] (y ∷ b) = refl
turned (x ∷ a) [] = refl
turned (x ∷ a) (y ∷ b) = ap₂ ◌and◌ (either_way x y) (turned a b)

-- `starts_with` of std, on what is left of the input, is the definition's test.
pub starts_begins : (bytes input : List ℕ) (at : ℕ) → starts_with eqb (take (length input - at) (drop at input)) bytes ≡ begins bytes (drop at input)
starts_begins bytes input at =
    ap (λ rest. starts_with eqb rest bytes) (take_all (length input - at) (drop at input) (omega (arith, length-drop at input)))
    ∙ turned (take (length bytes) (drop at input)) bytes
