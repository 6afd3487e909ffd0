-- What a leaf's token tells of the text.
use Rattle.std.specs.Prelude.{ℕ, ◌≤◌, ◌≡◌, refl, Bool, true, false, List, [], ◌∷◌, leb, length, drop}
use Rattle.std.proofs.Common.{arith, leb-true}
use Rattle.format.specs.Reading.{pick}
use Rattle.format.specs.Written.{bit}
use Rattle.notation.specs.Tree.{Part, quoted}
use Rattle.notation.specs.LexicalText.{no_way}
use Rattle.notation.specs.At.{parts_of}
use Rattle.notation.specs.Naming.{all}
use Rattle.notation.specs.Limits.{short}
use Rattle.lexer.specs.declared.token.Token.{Token}
use Rattle.lexer.specs.declared.token.Leaf.TheVariants as Leaf
use Rattle.lexer.proofs.LeafLaws.{quoted_here, class_here_lem}
use Rattle.chars.specs.Meant.{QuotedAt, ClassAt}
use Rattle.writer.specs.Leaf.{LeafTaken}
use mir.Val.{bool_byte}

-- A truth as the code writes it.
pub bit_byte : (b : Bool) → bit b ≡ bool_byte b
bit_byte true = refl
bit_byte false = refl

module _ (text : List ℕ) (t : Token) where
  pub taken_quoted : LeafTaken text t Leaf.Quoted → QuotedAt text t.start
  taken_quoted k = quoted_here k.lexed k.kind

  -- The parts of a class are one at least.
  pub taken_class : LeafTaken text t Leaf.Class → ClassAt text t.start × (1 ≤ length (parts_of (drop t.start text)))
  taken_class k = (class_here_lem k.lexed k.kind, some (parts_of (drop t.start text)) (k.lexed.parted k.kind))
    where
      some : (ps : List Part) → (ps ≡ [] → ⊥) → 1 ≤ length ps
      some [] n = absurd (n refl)
      some (p ∷ ps) n = omega arith

pub short_quoted : (s : List ℕ) → all (λ b. b) (short (quoted s)) ≡ true → length s ≤ 64
unfolding all
short_quoted s h = go (leb (length s) 64) refl h
  where
    go : (b : Bool) → leb (length s) 64 ≡ b → pick b true false ≡ true → length s ≤ 64
    go true q z = leb-true (length s) 64 q
    go false q z = no_way (cc)
