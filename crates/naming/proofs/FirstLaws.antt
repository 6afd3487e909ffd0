-- The name that a text's first token says is its first production's.
use Rattle.std.proofs.Common.{ℕ, ◌≡◌, refl, ap, sym, subst, ◌∙◌, true, false, List, [], ◌∷◌, drop}
use Rattle.notation.specs.Tree.{Name, Tree, Production}
use Rattle.notation.specs.Token.{Token, head, bare}
use Rattle.notation.specs.Notation.{Productions, last, more}
use Rattle.notation.specs.At.{name_at}
use Rattle.notation.specs.Lexer.{lexemes}
use Rattle.notation.specs.LexicalText.{no_way}
use Rattle.notation.specs.SymbolsLaws.{same_refl}
use Rattle.notation.specs.Naming.{names, member}
use Rattle.notation.specs.Compile.{entry, roots, first}
use Rattle.notation.specs.CompileLaws.{member-here}
use Rattle.notation.specs.Places.{is_head}
use Rattle.lexer.specs.declared.token.Kind.{Kind}
use Rattle.lexer.specs.Meant.{ahead_by, ahead}
use Rattle.lexer.specs.declared.token.Token as lexer
use Rattle.naming.proofs.HeadLaws.{is_head_lem, no_head}

-- A name is the first production's.
pub record First (n : Name) (ps : List Production) : Type 0 where
  pub listed : member n (names ps) ≡ true
  pub said : entry n (roots 0 ps) ≡ first (roots 0 ps)

first_here : (n : Name) (a : Tree) (ps : List Production) → First n (record { name = n; body = a } ∷ ps)
unfolding roots entry first
first_here n a ps = record { listed = member-here n (names ps); said = rw (same_refl n) }

-- The tokens of productions begin with a head, of this name.
not_empty : {ts : List Token} {ps : List Production} → Productions ts ps → ts ≡ [] → ⊥
not_empty (last D) e = no_way (cc)
not_empty (more D P) e = no_way (cc)

head_front : {ts : List Token} {ps : List Production} {t : Token} {rest : List Token} → Productions ts ps → ts ≡ t ∷ rest → is_head t ≡ true
head_front {t = t} (last {n = n} D) e = let k : t ≡ head n = cc in ap is_head k
head_front {t = t} (more {n = n} D P) e = let k : t ≡ head n = cc in ap is_head k

first_name_lem : {ts : List Token} {ps : List Production} {n : Name} {rest : List Token} → Productions ts ps → ts ≡ head n ∷ rest → First n ps
first_name_lem {n = n} (last {n = m} {a = a} D) e =
    let k : m ≡ n = cc in subst (λ n. First n (record { name = m; body = a } ∷ [])) k (first_here m a [])
first_name_lem {n = n} (more {n = m} {a = a} {ps = qs} D P) e =
    let k : m ≡ n = cc in subst (λ n. First n (record { name = m; body = a } ∷ qs)) k (first_here m a qs)

-- The code's first token says that name.
pub first_of : {ts : List Token} {ps : List Production} → Productions ts ps → (text : List ℕ) (t : lexer.Token) → bare (ahead text t) ≡ ts → First (name_at text t.name) ps
unfolding ahead_by
first_of {ts} {ps} P text t e = go t.kind refl e
  where
    go : (k : Kind) → t.kind ≡ k → bare (ahead_by text t k) ≡ ts → First (name_at text t.name) ps
    go Kind.End q f = absurd (not_empty P (sym f))
    go Kind.Head q f = first_name_lem P (sym f ∙ ap (λ x. x ∷ bare (lexemes (drop t.next text))) (is_head_lem text t q))
    go k q f =
        let n : t.kind ≡ Kind.Head → ⊥ = λ z. no_way (cc) in
        let z : true ≡ false = sym (head_front P (sym f)) ∙ no_head text t n in no_way (cc)
