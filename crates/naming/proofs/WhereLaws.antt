-- The first token of which a test holds, as a pass looks for it.
use Rattle.std.proofs.Common.{ℕ, ◌≡◌, refl, ap, sym, ◌∙◌, Bool, true, false, List}
use Rattle.std.specs.declared.option.Option as Std
use Rattle.std.specs.declared.option.Option.TheVariants.{Some, None}
use Rattle.std.specs.Option.{option_map}
use Rattle.std.proofs.Math.Option.{Option, some, none}
use Rattle.notation.specs.Token.{Token, bad, Lexeme}
use Rattle.notation.specs.Places.{first_where, token_place, name_place}
use Rattle.lexer.specs.declared.tokens.Tokens.{Tokens}
use Rattle.lexer.specs.Meant.{meant, placed}
use Rattle.lexer.specs.Stream.{left, Takes, Ends}
use Rattle.lexer.proofs.StreamLaws.{ended}
use Rattle.lexer.specs.declared.token.Token as lexer
use Rattle.naming.specs.Found.{found, Met, IsOf}
use Rattle.naming.proofs.StepLaws.{steps, begins, name_is}

module _ (holds : Token → Bool) where
  module _ {s : Tokens} {t : lexer.Token} {later : Tokens} (T : Takes s t later) {text : List ℕ} (k : s.text.now ≡ text) where
    pub where_past : holds (meant text t) ≡ false → first_where holds (left s) ≡ first_where holds (left later)
    unfolding first_where
    where_past e = ap (first_where holds) (steps T k) ∙ rw e refl

    pub where_here : holds (meant text t) ≡ true → first_where holds (left s) ≡ some (placed text t)
    unfolding first_where
    where_here e = ap (first_where holds) (steps T k) ∙ rw e refl

  pub where_over : {s later : Tokens} → Ends s later → holds bad ≡ false → first_where holds (left s) ≡ none
  unfolding first_where
  where_over {s} E b =
      sym (ended E (λ ls. first_where holds ls ≡ first_where holds (left s)) (λ l e p. rw (ap holds e ∙ b) at p) refl)

-- The place of what was found.
found_at :
    (text : List ℕ) (place : Lexeme → ℕ) (field : lexer.Token → ℕ) → ((t : lexer.Token) → Met text t → place (placed text t) ≡ field t)
    → (o : Option Lexeme) (r : Std.Option lexer.Token) → IsOf text o r → option_map field r ≡ found place o
found_at text place field h none None f = refl
found_at text place field h none (Some t) f = elim f [ ]
found_at text place field h (some l) None f = elim f [ ]
found_at text place field h (some l) (Some t) f = ap Some (sym (h t f.1) ∙ ap place f.0)

module _ (text : List ℕ) (o : Option Lexeme) (r : Std.Option lexer.Token) (f : IsOf text o r) where
  pub found_start : option_map (λ t. t.start) r ≡ found (token_place text) o
  found_start = found_at text (token_place text) (λ t. t.start) (λ t m. begins m) o r f

  pub found_name : option_map (λ t. t.name) r ≡ found (name_place text) o
  found_name = found_at text (name_place text) (λ t. t.name) (λ t m. name_is m) o r f
