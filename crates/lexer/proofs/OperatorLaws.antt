-- An operator in angle brackets, by its parts.
use Prim.Native.Nat.{ℕ, ◌+◌, ◌≤◌, ◌<◌}
use Prim.Native.Char.{code}
use mathlib.Core.Path.{◌≡◌, refl, ap, sym, ◌∙◌}
use mathlib.Core.Bool.{Bool, true, false}
use mathlib.Core.Logic.{◌⊎◌, inl, inr}
use mathlib.Core.List.{List, ◌∷◌}
use native.Mathlib.Omega.{arith}
use lib.ListN.{drop, length, get_or}
use borrow.Author.Tests.{eq-eqb, ne_eqb}
use Rattle.std.specs.Prelude.{Option, Some, None}
use Rattle.notation.specs.Bytes.{blank, letter}
use Rattle.notation.specs.Tree.{Name, query, match, is, isa, exists, if, def, block, local, on}
use Rattle.notation.specs.Token as N
use Rattle.notation.specs.Token.{leaf, opens, bad}
use Rattle.notation.specs.Lexer as W
use Rattle.notation.specs.Lexer.{Piece, piece, no, ◌then◌, operator, past, skip, gap, name, sign, truth, truth_here, word, token}
use Rattle.notation.specs.LexicalText.{no_way}
use Rattle.notation.specs.LexicalToken.{token_of}
use Rattle.notation.specs.At.{name_at}
use Rattle.notation.specs.Places.{behind_truth, name_in}
use Rattle.lexer.specs.declared.token.Token.{Token}
use Rattle.lexer.specs.declared.token.Kind.{Kind}
use Rattle.lexer.specs.declared.token.Kind.TheVariants.{Leaf, Opens}
use Rattle.lexer.specs.declared.token.Leaf as L
use Rattle.lexer.specs.declared.token.Opener as O
use Rattle.lexer.specs.declared.token.Leaf.TheVariants as Leaf
use Rattle.lexer.specs.declared.token.Opener.TheVariants as Opener
use Rattle.lexer.specs.declared.word.Word.{Word}
use Rattle.lexer.specs.Words.{Worded, is_match, is_is, is_isa, is_exists, is_if, is_def, is_block, is_local, is_on, is_unknown}
use Rattle.lexer.specs.Meant.{leaf_at, opener_at, meant_by, IsToken}
use Rattle.lexer.specs.Names.{Stands}
use Rattle.lexer.specs.Operators.{asked, OperatorAt}
use Rattle.lexer.specs.Operators.{Stands as Shows}
use Rattle.lexer.specs.Tokens.{Begins}
use Rattle.lexer.proofs.PlaceLaws.{at_place}
use Rattle.lexer.proofs.GapLaws.{begins_solid}
use Rattle.lexer.proofs.NameLaws.{letter_high}
use Rattle.lexer.proofs.TokenLaws.{byte_here}

-- ## One way for all words

-- What the operator of a kind is with a name.
abbrev with_name : Kind → Name → N.Token
with_name (Leaf Leaf.Match) n = leaf (query match n)
with_name (Leaf Leaf.Is) n = leaf (query is n)
with_name (Leaf Leaf.Isa) n = leaf (query isa n)
with_name (Leaf Leaf.Exists) n = leaf (query exists n)
with_name (Leaf (Leaf.If w)) n = leaf (if n w)
with_name (Opens Opener.Def) n = opens (def n)
with_name (Opens Opener.Block) n = opens (block n)
with_name (Opens Opener.Local) n = opens (local n)
with_name (Opens (Opener.On w)) n = opens (on n w)
with_name k n = bad

-- A kind is an operator's.
record Named (k : Kind) : Type 0 where
  one : IsToken k
  no_class : k ≡ Leaf Leaf.Class → ⊥
  means : (text : List ℕ) (t : Token) → meant_by text t k ≡ with_name k (name_at text t.name)

-- What an operator's word and what may stand before its name make of it.
data Asks (s : List ℕ) : Piece Kind → Type 0 where
  plain : {k : Kind} → Named k → Asks s (piece k s)
  turned : (f : Bool → Kind) → ((w : Bool) → Named (f w)) → Asks s (truth s then λ w u. piece (f w) u)

asks : {v : W.Word} {k : Word} → Worded v (Some k) → (s : List ℕ) → Asks s (asked k s)
unfolding asked meant_by leaf_at opener_at
asks is_match s = plain (record { one = refl; no_class = λ z. no_way (cc); means = λ _ _. refl })
asks is_is s = plain (record { one = refl; no_class = λ z. no_way (cc); means = λ _ _. refl })
asks is_isa s = plain (record { one = refl; no_class = λ z. no_way (cc); means = λ _ _. refl })
asks is_exists s = plain (record { one = refl; no_class = λ z. no_way (cc); means = λ _ _. refl })
asks is_if s = turned (λ w. Leaf (Leaf.If w)) (λ w. record { one = refl; no_class = λ z. no_way (cc); means = λ _ _. refl })
asks is_def s = plain (record { one = refl; no_class = λ z. no_way (cc); means = λ _ _. refl })
asks is_block s = plain (record { one = refl; no_class = λ z. no_way (cc); means = λ _ _. refl })
asks is_local s = plain (record { one = refl; no_class = λ z. no_way (cc); means = λ _ _. refl })
asks is_on s = turned (λ w. Opens (Opener.On w)) (λ w. record { one = refl; no_class = λ z. no_way (cc); means = λ _ _. refl })

asks_named : {s u : List ℕ} {p : Piece Kind} {k : Kind} → Asks s p → p ≡ piece k u → Named k
unfolding ◌then◌
asks_named {k = k} (plain {k = j} n) e = let z : j ≡ k = cc in rw z at n
asks_named {s} {u} {k = k} (turned f n) e = go (truth s) e
  where
    go : (q : Piece Bool) → (q then λ w u. piece (f w) u) ≡ piece k u → Named k
    go no e = no_way (cc)
    go (piece w r) e = let z : f w ≡ k = cc in rw z at (n w)

-- Behind the name: `>`, where no expression follows.
abbrev finished : Word → Kind → Name → List ℕ → Piece N.Token
finished (Word.Asks l) k n s = sign (code ">") s then λ _ s. piece (with_name k n) s
finished Word.Ifs k n s = sign (code ">") s then λ _ s. piece (with_name k n) s
finished (Word.Opens o) k n s = piece (with_name k n) s
finished Word.Ons k n s = piece (with_name k n) s

steps : {v : W.Word} {k : Word} → Worded v (Some k) → (s : List ℕ) → operator v s ≡ (asked k s then λ x s. name s then λ n s. finished k x n s)
unfolding operator asked ◌then◌
steps is_match s = refl
steps is_is s = refl
steps is_isa s = refl
steps is_exists s = refl
steps is_def s = refl
steps is_block s = refl
steps is_local s = refl
steps is_if s = go (truth s)
  where
    go : (p : Piece Bool) → (p then λ w s. name s then λ c s. sign (code ">") s then λ _ s. piece (leaf (if c w)) s)
        ≡ ((p then λ w s. piece (Leaf (Leaf.If w)) s) then λ x s. name s then λ n s. finished Word.Ifs x n s)
    go no = refl
    go (piece w u) = refl
steps is_on s = go (truth s)
  where
    go : (p : Piece Bool) → (p then λ w s. name s then λ c s. piece (opens (on c w)) s)
        ≡ ((p then λ w s. piece (Opens (Opener.On w)) s) then λ x s. name s then λ n s. finished Word.Ons x n s)
    go no = refl
    go (piece w u) = refl

module _ {v : W.Word} {k : Word} (o : Worded v (Some k)) (s : List ℕ) where
  no_kind : asked k s ≡ no → operator v s ≡ no
  unfolding ◌then◌
  no_kind e = steps o s ∙ rw e

  module _ {x : Kind} {u : List ℕ} (e : asked k s ≡ piece x u) where
    no_name : name u ≡ no → operator v s ≡ no
    unfolding ◌then◌
    no_name f = steps o s ∙ rw (e, f)

    finish : {n : Name} {y : List ℕ} → name u ≡ piece n y → operator v s ≡ finished k x n y
    unfolding ◌then◌
    finish f = steps o s ∙ rw (e, f)

-- ## Where the name begins

module _ {b : ℕ} {u : List ℕ} (f : letter b ≡ true) where
  -- A name is no gap.
  no_gap : gap (b ∷ u) ≡ past (b ∷ u)
  unfolding skip
  no_gap =
      let l = letter_high b f in
      let e : blank b ≡ false =
      rw (ne_eqb b 32 (λ z. omega arith), ne_eqb b 9 (λ z. omega arith), ne_eqb b 10 (λ z. omega arith), ne_eqb b 13 (λ z. omega arith)) in
      rw (begins_solid b u e (λ z. omega arith), skip)

  plain_truth : (s : List ℕ) → gap s ≡ past (b ∷ u) → behind_truth (truth s) ≡ b ∷ u
  unfolding truth_here behind_truth
  plain_truth s e = let l = letter_high b f in rw (e, ne_eqb b 33 (λ z. omega arith), no_gap, behind_truth)

  name_behind_lem : {s x : List ℕ} {p : Piece Kind} {k : Kind} → Asks s p → p ≡ piece k x → gap x ≡ past (b ∷ u) → behind_truth (truth s) ≡ b ∷ u
  unfolding ◌then◌ behind_truth
  name_behind_lem {s} {x} (plain n) e g = let z : s ≡ x = cc in plain_truth s (rw z g)
  name_behind_lem {s} {x} {k = k} (turned f n) e g = go (truth s) e
    where
      go : (q : Piece Bool) → (q then λ w u. piece (f w) u) ≡ piece k x → behind_truth q ≡ b ∷ u
      go no e = no_way (cc)
      go (piece w y) e = let z : y ≡ x = cc in rw (z, g, behind_truth)

-- ## At a place of a text

-- What an operator's word says of what stands behind its name: a `>`, or an expression.
abbrev pub Shut : Word → Type 0
Shut k = ((l : L.Leaf) × (k ≡ Word.Asks l)) ⊎ (k ≡ Word.Ifs)

abbrev pub Wide : Word → Type 0
Wide k = ((o : O.Opener) × (k ≡ Word.Opens o)) ⊎ (k ≡ Word.Ons)

module _ (t : List ℕ) {start : ℕ} {k : Word} {at : ℕ} (o : OperatorAt t start k at) where
  pub no_kind_begins : asked k (drop at t) ≡ no → token_of (drop start t) ≡ no
  no_kind_begins e = o.goes ∙ no_kind o.worded (drop at t) e

  module _ {x : Kind} (a : ℕ) (e : asked k (drop at t) ≡ piece x (drop a t)) where
    pub no_name_begins : name (drop a t) ≡ no → token_of (drop start t) ≡ no
    no_name_begins f = o.goes ∙ no_name o.worded (drop at t) e f

    module _ {p m : ℕ} (f : name (drop a t) ≡ piece (name_at t p) (drop m t)) (l : at ≤ a) (n : Stands t a p m) where
      whole : token_of (drop start t) ≡ finished k x (name_at t p) (drop m t)
      whole = o.goes ∙ finish o.worded (drop at t) e f

      pub no_close_begins : Shut k → sign (code ">") (drop m t) ≡ no → token_of (drop start t) ≡ no
      unfolding ◌then◌
      no_close_begins (inl z) g = whole ∙ rw (z.1, g)
      no_close_begins (inr z) g = whole ∙ rw (z, g)

      named : Named x
      named = asks_named (asks o.worded (drop at t)) e

      name_here_lem : drop p t ≡ name_in (drop start t)
      name_here_lem =
          let j : p < length t = omega (arith, n.longer, n.inside) in
          rw (at_place t p j) (sym (o.names ∙ name_behind_lem n.begins (asks o.worded (drop at t)) e (rw (at_place t p j) at n.behind)))

      begins : (q : ℕ) → finished k x (name_at t p) (drop m t) ≡ piece (with_name x (name_at t p)) (drop q t) → (m ≤ q) × (q ≤ length t)
          → Begins t start (record { kind = x; start = start; name = p; next = q })
      begins q g y =
          let r : Token = record { kind = x; start = start; name = p; next = q } in
          record {
            here = refl;
            one = named.one;
            rest = drop q t;
            goes = whole ∙ g ∙ rw (named.means t r);
            skips = refl;
            longer = omega (arith, o.onward, n.onward, n.longer);
            within = y.1;
            named = name_here_lem;
            name_inside = omega (arith, n.longer, n.inside);
            parted = λ z. absurd (named.no_class z);
          }

      pub open_begins : Wide k → Begins t start (record { kind = x; start = start; name = p; next = m })
      open_begins (inl z) = begins m (rw (z.1)) (omega (arith, n.inside))
      open_begins (inr z) = begins m (rw (z)) (omega (arith, n.inside))

      pub close_begins : Shut k → {q : ℕ} → Shows (sign (code ">") (drop m t)) tt t m q
          → Begins t start (record { kind = x; start = start; name = p; next = q })
      unfolding ◌then◌
      close_begins (inl z) {q} y = begins q (rw (z.1, y.is)) (y.onward, y.within)
      close_begins (inr z) {q} y = begins q (rw (z, y.is)) (y.onward, y.within)

module _ (t : List ℕ) (start : ℕ) (h : start < length t) (b : get_or t start 0 ≡ 60) where
  word_here : token_of (drop start t) ≡ (name (drop (start + 1) t) then λ n s. operator (word n) s)
  unfolding token
  word_here = byte_here t start h ∙ ap (λ b. token b (drop (start + 1) t)) b

  pub no_word_begins : name (drop (start + 1) t) ≡ no → token_of (drop start t) ≡ no
  unfolding ◌then◌
  no_word_begins f = word_here ∙ rw f

  module _ (w m : ℕ) (f : name (drop (start + 1) t) ≡ piece (name_at t w) (drop m t)) where
    pub unknown_begins : Worded (word (name_at t w)) None → token_of (drop start t) ≡ no
    unfolding ◌then◌ operator
    unknown_begins o = word_here ∙ rw f (go (word (name_at t w)) None o refl)
      where
        go : (v : W.Word) (k : Option Word) → Worded v k → k ≡ None → operator v (drop m t) ≡ no
        go v k is_unknown e = refl
        go v (Some k) o e = no_way (cc)

    pub operator_at : Stands t (start + 1) w m → {k : Word} → Worded (word (name_at t w)) (Some k) → OperatorAt t start k m
    unfolding ◌then◌ name_in
    operator_at n o = record {
      word = word (name_at t w);
      worded = o;
      goes = word_here ∙ rw f;
      names = rw (at_place t start h, eq-eqb (get_or t start 0) 60 b, f);
      onward = omega (arith, n.onward, n.longer);
      inside = n.inside;
    }
