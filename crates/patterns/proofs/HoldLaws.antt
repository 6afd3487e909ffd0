-- One def of the pass: it is passed over, it is the first of its table, it is alike to the one that is kept for its table, or it is at fault.
use Prim.Native.Nat.{ℕ, zero, suc, ◌+◌, ◌-◌, ◌≤◌, ◌<◌}
use mathlib.Core.Path.{◌≡◌, refl, ap, sym, ◌∙◌}
use mathlib.Core.Bool.{true, false}
use mathlib.Core.List.{List, [], ◌∷◌}
use mathlib.Core.Option.{some}
use native.Mathlib.Omega.{arith}
use lib.ListN.{length, get_or, set, drop, length-set}
use Rattle.notation.specs.Tree.{Production, def}
use Rattle.notation.specs.Token.{opens, Lexeme}
use Rattle.notation.specs.Lexer.{lexemes, tokens}
use Rattle.notation.specs.At.{name_at}
use Rattle.notation.specs.Notation.{Productions}
use Rattle.notation.specs.Naming.{definitions}
use Rattle.notation.specs.OrderLaws.{insert_ascending}
use Rattle.notation.specs.OnePattern.{fault}
use Rattle.notation.specs.Places.{name_in, numbered}
use Rattle.index.specs.declared.list.Kept.{Kept}
use Rattle.index.specs.Listed.{names_at, Ascending, Keeps}
use Rattle.lexer.specs.declared.token.Token.{Token}
use Rattle.lexer.specs.Meant.{opener_at, meant_by, meant, placed, ahead_by}
use Rattle.lexer.specs.Names.{NameEnds}
use Rattle.patterns.specs.Bodies.{same_streams, defs_on}
use Rattle.patterns.specs.Compared.{stream_at}
use Rattle.patterns.specs.Passed.{defs_of, no_lexeme, Known, Passes, Defines}
use Rattle.patterns.proofs.ListLaws.{front_left}
use Rattle.patterns.proofs.DefLaws.{body_of, body_front, few_defs}
use Rattle.patterns.proofs.KnownLaws.{instead_names, known_first, known_alike, known_fault}

-- The lexeme of a number that is one.
numbered_at : (ls : List Lexeme) (i : ℕ) → i < length ls → numbered (some i) ls ≡ some (get_or ls i no_lexeme)
unfolding numbered
numbered_at [] i h = absurd (omega arith)
numbered_at (l ∷ ls) zero h = refl
numbered_at (l ∷ ls) (suc i) h = numbered_at ls i (omega arith)

-- ## A def

module _ {text latest : List ℕ} {count over : ℕ} {t : Token} (h : length text ≤ 65535) (D : Defines text t)
    (S : Passes text latest count over (placed text t ∷ defs_of (drop t.next text))) where
  abbrev i : ℕ
  i = S.number

  inside : i < length (defs_of text)
  inside = (front_left no_lexeme (defs_of text) i S.behind).0

  this : get_or (defs_of text) i no_lexeme ≡ placed text t
  this = (front_left no_lexeme (defs_of text) i S.behind).1

  next_defs : drop (suc i) (defs_of text) ≡ defs_of (drop t.next text)
  next_defs = (front_left no_lexeme (defs_of text) i S.behind).2

  pub room : count < length latest
  room = omega (arith, inside, few_defs text, S.few, S.long)

  name_here_lem : drop t.name text ≡ name_in (get_or (defs_of text) i no_lexeme).here
  name_here_lem = D.lexed.named (rw D.def) ∙ ap (λ l. name_in l.here) (sym this)

  is_def : meant text t ≡ opens (def (name_at text t.name))
  unfolding meant_by opener_at
  is_def = rw D.def

  body_here : (body_of (get_or (defs_of text) i no_lexeme)).ahead ≡ tokens (drop t.next text)
  unfolding ahead_by
  body_here =
      ap (λ l. (body_of l).ahead) this ∙ ap (λ b. b.ahead) (body_front (drop D.from text) {l = placed text t} {ls = lexemes (drop t.next text)} (D.lexed.goes ∙ rw D.def) is_def)

  -- It is passed over.
  pub over_one : 0 < over → Passes text latest count (over - 1) (defs_of (drop t.next text))
  over_one o = record {
    number = suc i;
    behind = next_defs;
    few = omega (arith, S.few);
    ascending = S.ascending;
    long = S.long;
    known = λ ps P. let z : suc i + (over - 1) ≡ i + over = omega arith in rw z (S.known ps P);
  }

  -- Else its name is kept.
  module _ {now : List ℕ} {r : Kept} (o : over ≤ 0) (k : Keeps text latest count t.name now r) where
    before : (ps : List Production) → Productions (tokens text) ps → Known text ps latest count i
    before ps P = let z : i + over ≡ i = omega arith in rw z at (S.known ps P)

    ascends : Ascending (names_at text now r.count)
    ascends = rw k.names (insert_ascending (name_at text t.name) (names_at text latest count) S.ascending)

    -- It is the first of its table.
    pub first_one : r.fresh ≡ true → Passes text now r.count 0 (defs_of (drop t.next text))
    first_one f = record {
      number = suc i;
      behind = next_defs;
      few = omega (arith, S.few, k.most);
      ascending = ascends;
      long = k.long ∙ S.long;
      known = λ ps P.
          let z : suc i + 0 ≡ suc i = omega arith in rw z (known_first text P (before ps P) inside name_here_lem k room f);
    }

    -- It is held to the one whose name is kept.
    module _ (f : r.fresh ≡ false) {a : ℕ} (e : NameEnds text (get_or now r.index 0) a) where
      pub alike_one :
          (d : ℕ) → (same_streams (stream_at text a) (stream_at text t.next) ≡ true) × (d ≡ defs_on (stream_at text t.next))
          → Passes text (set now r.index t.name) count d (defs_of (drop t.next text))
      alike_one d q = record {
        number = suc i;
        behind = next_defs;
        few = omega (arith, S.few);
        ascending = rw (instead_names text k room f) S.ascending;
        long = length-set now r.index t.name ∙ k.long ∙ S.long;
        known = λ ps P. rw q.1 (known_alike text P (before ps P) inside name_here_lem k room f a t.next e.goes body_here q.0);
      }

      pub unlike_one :
          same_streams (stream_at text a) (stream_at text t.next) ≡ false → (ps : List Production) → Productions (tokens text) ps
          → numbered (fault (definitions ps)) (defs_of text) ≡ some (placed text t)
      unlike_one q ps P =
          ap (λ n. numbered n (defs_of text)) (known_fault text P (before ps P) inside name_here_lem k room f a t.next e.goes body_here q)
          ∙ numbered_at (defs_of text) i inside ∙ ap some this
