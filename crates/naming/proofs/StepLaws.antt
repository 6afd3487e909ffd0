-- A step of a pass: the token that was taken stands in front of what is still to come.
use Rattle.std.proofs.Common.{ℕ, ◌≡◌, refl, ap, ◌∙◌, List, ◌∷◌, length, drop, length-drop, arith}
use Rattle.notation.specs.LexicalText.{no_way}
use Rattle.notation.specs.Token.{bad}
use Rattle.notation.specs.Lexer.{lexemes}
use Rattle.notation.specs.Lexical.{Spelled}
use Rattle.notation.specs.Places.{token_place, name_place}
use Rattle.lexer.specs.declared.token.Token.{Token}
use Rattle.lexer.specs.declared.token.Kind.{Kind}
use Rattle.lexer.specs.declared.tokens.Tokens.{Tokens}
use Rattle.lexer.specs.Meant.{meant_by, meant, placed, IsToken}
use Rattle.lexer.specs.Stream.{left, Takes}
use Rattle.lexer.proofs.KindLaws.{ahead_on}
use Rattle.lexer.proofs.LeafLaws.{first_spelled}
use Rattle.lexer.proofs.StreamLaws.{taken}
use Rattle.naming.specs.Found.{Met}

module _ {s : Tokens} {t : Token} {later : Tokens} (T : Takes s t later) {text : List ℕ} (k : s.text.now ≡ text) where
  pub met : Met text t
  met = record { from = s.at; lexed = rw k at T.lexed; one = T.one }

  pub steps : left s ≡ placed text t ∷ left later
  steps = taken T ∙ ap (λ x. placed x t ∷ left later) k

-- At first all lexemes are to come.
pub whole : (s : Tokens) (text : List ℕ) → s.text.now ≡ text → s.at ≡ 0 → left s ≡ lexemes text
whole s text k z = rw (k, z) refl

module _ {text : List ℕ} {t : Token} (M : Met text t) where
  pub begins : token_place text (placed text t) ≡ t.start
  begins = omega (arith, length-drop t.start text, M.lexed.inside)

  pub name_is : name_place text (placed text t) ≡ t.name
  name_is = omega (arith, ap length (M.lexed.named M.one), length-drop t.name text, M.lexed.name_inside M.one)

  proper : (k : Kind) → IsToken k → meant_by text t k ≡ bad → ⊥
  unfolding meant_by
  proper Kind.End i e = no_way (cc)
  proper Kind.Bad i e = no_way (cc)
  proper k i e = no_way (cc)

  -- It is spelled where it begins.
  pub spelled : (r : List ℕ) × Spelled (meant text t) (drop t.start text) r
  spelled =
      first_spelled (drop M.from text) (placed text t) (lexemes (drop t.next text)) (M.lexed.goes ∙ ahead_on text t t.kind M.one) (proper t.kind M.one)
