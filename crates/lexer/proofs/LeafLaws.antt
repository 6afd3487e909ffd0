-- Quoted texts and classes stand where their tokens begin.
use Prim.Native.Nat.{ℕ, ◌+◌, ◌<◌}
use mathlib.Core.Path.{◌≡◌, refl, ap, ◌∙◌}
use mathlib.Core.Bool.{false, true}
use mathlib.Core.List.{List, [], ◌∷◌}
use lib.ListN.{length, drop, get_or}
use Rattle.notation.specs.Bytes.{one_of}
use Rattle.notation.specs.Tree.{Part, quoted, class}
use Rattle.notation.specs.Token.{leaf, bad, Lexeme}
use Rattle.notation.specs.Token as N
use Rattle.notation.specs.Lexical.{Spelled, a_text, a_class}
use Rattle.notation.specs.LexicalText.{Yields, yields, no_way, quote_complete, parts_complete}
use Rattle.notation.specs.LexicalToken.{token_sound}
use Rattle.notation.specs.Lexer.{Piece, piece, no, Skipped, past, unclosed, gap, token, lexemes}
use Rattle.notation.specs.At.{quoted_of, parts_of, class_of}
use Rattle.chars.specs.Meant.{QuotedAt, ClassAt}
use Rattle.lexer.specs.declared.token.Token.{Token}
use Rattle.lexer.specs.declared.token.Kind.TheVariants as Kind
use Rattle.lexer.specs.declared.token.Leaf.{Leaf}
use Rattle.lexer.specs.Meant.{leaf_at, meant_by, ahead_by, Lexed}
use Rattle.lexer.proofs.PlaceLaws.{at_place, in_text}
use Rattle.lexer.proofs.LexemeLaws.{lexemes_end, lexemes_open, lexemes_no, lexemes_token}

-- The first of some lexemes is spelled where it stands.
pub first_spelled : (s : List ℕ) (l : Lexeme) (ls : List Lexeme) → lexemes s ≡ l ∷ ls → (l.token ≡ bad → ⊥) → (r : List ℕ) × Spelled l.token l.here r
first_spelled s l ls e n = go (gap s) refl
  where
    on : (b : ℕ) (u : List ℕ) → gap s ≡ past (b ∷ u) → (p : Piece N.Token) → token b u ≡ p → Yields (λ t r. Spelled t (b ∷ u) r) p
        → (r : List ℕ) × Spelled l.token l.here r
    on b u g no f y = let z : l ≡ record { here = b ∷ u; token = bad } = cc (lexemes_no s g f) in absurd (n (ap (λ l. l.token) z))
    on b u g (piece t r) f (yields S) = let z : l ≡ record { here = b ∷ u; token = t } = cc (lexemes_token s g f) in (r, rw z S)

    go : (o : Skipped) → gap s ≡ o → (r : List ℕ) × Spelled l.token l.here r
    go (unclosed c) g = let z : l ≡ record { here = c; token = bad } = cc (lexemes_open s g) in absurd (n (ap (λ l. l.token) z))
    go (past []) g = no_way (cc (lexemes_end s g))
    go (past (b ∷ u)) g = on b u g (token b u) refl (token_sound b u)

-- Bytes that stand at a place begin with the byte there.
module _ (text : List ℕ) (p : ℕ) {b : ℕ} {s : List ℕ} (e : drop p text ≡ b ∷ s) where
  pub front_inside : p < length text
  front_inside = in_text text p (λ z. no_way (cc))

  pub front_byte : get_or text p 0 ≡ b
  front_byte = cc (at_place text p front_inside)

  pub front_rest : drop (p + 1) text ≡ s
  front_rest = cc (at_place text p front_inside)

-- A mark is no `\`.
real_mark : (mark : ℕ) → one_of "'\"" mark ≡ true → mark ≡ 92 → ⊥
real_mark mark e z = let y : false ≡ true = rw z at e in no_way (cc)

module _ (text : List ℕ) (p : ℕ) where
  pub quoted_spelled : {x s r : List ℕ} → Spelled (leaf (quoted x)) s r → drop p text ≡ s → QuotedAt text p
  quoted_spelled (a_text {mark = mark} {x = x} {r = r} m C) e = (
    front_inside text p e,
    record { what = x; rest = r; is = rw (front_byte text p e, front_rest text p e) (quote_complete mark (real_mark mark m) C) },
  )

  pub class_spelled : {q : Part} {qs : List Part} {s r : List ℕ} → Spelled (leaf (class q qs)) s r → drop p text ≡ s → ClassAt text p
  class_spelled (a_class {p = q} {ps = qs} {r = r} n D) e = (
    front_inside text p e,
    record { what = q ∷ qs; rest = r; is = rw (front_rest text p e) (parts_complete D) },
  )

module _ {text : List ℕ} {from : ℕ} {t : Token} (L : Lexed text from t) {l : Leaf} (e : t.kind ≡ Kind.Leaf l) where
  leaf_spelled : (r : List ℕ) × Spelled (leaf (leaf_at text t l)) (drop t.start text) r
  unfolding ahead_by meant_by
  leaf_spelled =
      let x : Lexeme = record { here = drop t.start text; token = leaf (leaf_at text t l) } in
      first_spelled (drop from text) x (lexemes (drop t.next text)) (L.goes ∙ rw e) (λ z. no_way (cc))

module _ {text : List ℕ} {from : ℕ} {t : Token} (L : Lexed text from t) where
  pub quoted_here : t.kind ≡ Kind.Leaf Leaf.Quoted → QuotedAt text t.start
  unfolding leaf_at
  quoted_here e = quoted_spelled text t.start {x = quoted_of (drop t.start text)} (leaf_spelled L e).1 refl

  pub class_here_lem : t.kind ≡ Kind.Leaf Leaf.Class → ClassAt text t.start
  unfolding leaf_at class_of
  class_here_lem e = go (parts_of (drop t.start text)) refl (leaf_spelled L e).1
    where
      go : (ps : List Part) → parts_of (drop t.start text) ≡ ps → Spelled (leaf (class_of ps)) (drop t.start text) (leaf_spelled L e).0 → ClassAt text t.start
      go [] q S = absurd (L.parted e q)
      go (p ∷ ps) q S = class_spelled text t.start S refl
