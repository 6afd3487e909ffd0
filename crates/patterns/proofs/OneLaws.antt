-- The pass from token to token, and what it comes to at its end.
use Prim.Native.Nat.{ℕ, ◌≤◌}
use mathlib.Core.Path.{◌≡◌, refl, ap, ◌∙◌}
use mathlib.Core.Bool.{true, false}
use mathlib.Core.List.{List, [], ◌∷◌}
use mathlib.Core.Option.{some}
use native.Mathlib.Omega.{arith}
use lib.ListN.{length, drop, length-drop}
use Rattle.notation.specs.Tree.{Production}
use Rattle.notation.specs.Token.{Lexeme}
use Rattle.notation.specs.Lexer.{lexemes, tokens}
use Rattle.notation.specs.LexicalText.{no_way}
use Rattle.notation.specs.Notation.{Productions}
use Rattle.notation.specs.Text.{ReadsAs}
use Rattle.notation.specs.TextLaws.{lexes_once}
use Rattle.notation.specs.Naming.{definitions}
use Rattle.notation.specs.OnePattern.{fault}
use Rattle.notation.specs.Places.{token_place, is_def, only, numbered, unlike}
use Rattle.lexer.specs.declared.token.Token.{Token}
use Rattle.lexer.specs.declared.token.Kind.{Kind}
use Rattle.lexer.specs.declared.token.Opener.TheVariants as Opener
use Rattle.lexer.specs.declared.tokens.Tokens.{Tokens}
use Rattle.lexer.specs.Meant.{opener_at, meant_by, placed}
use Rattle.lexer.specs.Stream.{left, Takes, Ends}
use Rattle.lexer.proofs.StreamLaws.{taken, ended}
use Rattle.std.specs.declared.option.Option.TheVariants.{Some, None}
use Rattle.naming.specs.Found.{found}
use Rattle.patterns.specs.Passed.{defs_of, defines, Passes}
use Rattle.patterns.proofs.ListLaws.{none_left}
use Rattle.patterns.proofs.DefLaws.{only_other}
use Rattle.patterns.proofs.KnownLaws.{known_start, known_end}

-- ## Whether a token is a def

told : (text : List ℕ) (t : Token) (k : Kind) → is_def (meant_by text t k) ≡ defines k
unfolding meant_by opener_at
told text t (Kind.Opens Opener.Def) = refl
told text t (Kind.Opens Opener.Block) = refl
told text t (Kind.Opens Opener.Local) = refl
told text t (Kind.Opens (Opener.On w)) = refl
told text t k = refl

pub its_kind : (k : Kind) → defines k ≡ true → k ≡ Kind.Opens Opener.Def
its_kind (Kind.Opens Opener.Def) e = refl
its_kind (Kind.Opens Opener.Block) e = no_way (cc)
its_kind (Kind.Opens Opener.Local) e = no_way (cc)
its_kind (Kind.Opens (Opener.On w)) e = no_way (cc)
its_kind k e = no_way (cc)

-- ## From token to token

-- The defs that are still to come.
abbrev pub defs_left : Tokens → List Lexeme
defs_left s = only is_def (left s)

module _ {text : List ℕ} {s u : Tokens} {t : Token} (T : Takes s t u) (e : s.text.now ≡ text) where
  pub def_left : defines t.kind ≡ true → defs_left s ≡ placed text t ∷ defs_left u
  unfolding only
  def_left d = ap (only is_def) (taken T) ∙ rw (e, told text t t.kind ∙ d)

  pub other_left : defines t.kind ≡ false → defs_left s ≡ defs_left u
  other_left d = ap (only is_def) (taken T) ∙ rw e (only_other (placed text t) (left u) (told text t t.kind ∙ d))

  -- What is to come behind it.
  pub left_behind : defs_left u ≡ defs_of (drop t.next text)
  left_behind = rw (T.on, e)

-- At the end none is left.
pub ended_left : {text latest : List ℕ} {count over : ℕ} {s u : Tokens} → Ends s u → Passes text latest count over (defs_left s) → Passes text latest count over []
unfolding only
ended_left {text} {latest} {count} {over} E S = ended E (λ ls. Passes text latest count over (only is_def ls)) (λ l e p. rw (only_other l [] (rw e refl)) at p) S

-- ## The pass

passes_start : (text latest : List ℕ) → length latest ≡ 32768 → Passes text latest 0 0 (defs_of text)
passes_start text latest h = record {
  number = 0;
  behind = refl;
  few = omega arith;
  ascending = tt;
  long = h;
  known = λ ps P. known_start text P latest;
}

pub starts : {text : List ℕ} (s : Tokens) → s.text.now ≡ text → s.at ≡ 0 → (latest : List ℕ) → length latest ≡ 32768 → Passes text latest 0 0 (defs_left s)
starts {text} s e z latest h = rw (e, z) (passes_start text latest h)

read_tokens : {text : List ℕ} {ps : List Production} → ReadsAs text ps → Productions (tokens text) ps
read_tokens r = rw (lexes_once r.lexes) r.derives

pub passes_end : {text latest : List ℕ} {count over : ℕ} → Passes text latest count over [] → (ps : List Production) → ReadsAs text ps
    → None ≡ found (token_place text) (unlike (definitions ps) (lexemes text))
unfolding numbered
passes_end {text} {over = over} S ps r =
    let P = read_tokens r in
    rw (known_end text P (S.known ps P) (omega (arith, none_left (defs_of text) S.number S.behind)))

pub at_fault :
    (text : List ℕ) (t : Token) → t.start ≤ length text
    → ((ps : List Production) → Productions (tokens text) ps → numbered (fault (definitions ps)) (defs_of text) ≡ some (placed text t))
    → (ps : List Production) → ReadsAs text ps → Some t.start ≡ found (token_place text) (unlike (definitions ps) (lexemes text))
at_fault text t h f ps r =
    rw (f ps (read_tokens r)) (ap Some (omega (arith, length-drop t.start text)))
