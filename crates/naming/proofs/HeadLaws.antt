-- Which tokens are heads, and what they are heads of.
use Rattle.std.proofs.Common.{ℕ, ◌≡◌, refl, ap, sym, ◌∙◌, true, false, List, [], ◌∷◌, map, length}
use Rattle.std.proofs.Math.ListN.{length-map}
use Rattle.notation.specs.Tree.{Name, Production}
use Rattle.notation.specs.Token.{Token, head, leaf, opens, closes, left, right, slash, before, after, bad, Lexeme, bare}
use Rattle.notation.specs.Notation.{Productions}
use Rattle.notation.specs.At.{name_at}
use Rattle.notation.specs.Naming.{names}
use Rattle.notation.specs.Uses.{per_token, heads_in, head_of}
use Rattle.notation.specs.UsesLaws.{heads_are}
use Rattle.notation.specs.Places.{is_head, only}
use Rattle.lexer.specs.declared.token.Kind.{Kind}
use Rattle.lexer.specs.Meant.{meant_by, meant, placed}
use Rattle.lexer.specs.declared.token.Token as lexer

-- The name of a head; of any other token none.
abbrev pub name_of : Lexeme → Name
name_of l = elim (head_of l.token) [ [] ↦ [] | n ∷ more ↦ n ]

module _ (text : List ℕ) (t : lexer.Token) where
  pub is_head_lem : t.kind ≡ Kind.Head → meant text t ≡ head (name_at text t.name)
  unfolding meant_by
  is_head_lem e = rw e refl

  pub head_is : t.kind ≡ Kind.Head → is_head (meant text t) ≡ true
  head_is e = rw (is_head_lem e)

  pub head_name : t.kind ≡ Kind.Head → name_of (placed text t) ≡ name_at text t.name
  head_name e = rw (is_head_lem e)

  others : (k : Kind) → (k ≡ Kind.Head → ⊥) → is_head (meant_by text t k) ≡ false
  unfolding meant_by
  others Kind.Head f = absurd (f refl)
  others k f = refl

  pub no_head : (t.kind ≡ Kind.Head → ⊥) → is_head (meant text t) ≡ false
  no_head = others t.kind

-- The heads of a text are named as its productions are.
module _ (h : List ℕ) where
  abbrev at : Token → Lexeme
  at t = record { here = h; token = t }

  heads_on : (t : Token) (ls : List Lexeme) → map name_of (only is_head ls) ≡ heads_in (bare ls) → map name_of (only is_head (at t ∷ ls)) ≡ heads_in (t ∷ bare ls)
  unfolding only per_token
  heads_on (head n) ls e = ap (λ r. n ∷ r) e
  heads_on (leaf l) ls e = e
  heads_on (opens o) ls e = e
  heads_on closes ls e = e
  heads_on left ls e = e
  heads_on right ls e = e
  heads_on slash ls e = e
  heads_on (before p) ls e = e
  heads_on (after s) ls e = e
  heads_on bad ls e = e

heads_named : (ls : List Lexeme) → map name_of (only is_head ls) ≡ heads_in (bare ls)
unfolding only per_token
heads_named [] = refl
heads_named (l ∷ ls) = heads_on l.here l.token ls (heads_named ls)

pub named_heads : (ls : List Lexeme) {ps : List Production} → Productions (bare ls) ps → map name_of (only is_head ls) ≡ names ps
named_heads ls P = heads_named ls ∙ heads_are P

pub heads_length : (ls : List Lexeme) {ps : List Production} → Productions (bare ls) ps → length (only is_head ls) ≡ length ps
heads_length ls {ps} P =
    sym (length-map (only is_head ls) name_of) ∙ ap length (named_heads ls P) ∙ length-map ps (λ p. p.name)
