-- Laws of the walk over a text: the code's tokens, and what an act leaves to come.
use Prim.Native.Nat.{ℕ, ◌≤◌, ◌<◌}
use mathlib.Core.Path.{◌≡◌, refl, sym}
use mathlib.Core.Bool.{true}
use mathlib.Core.List.{List, [], ◌∷◌}
use lib.ListN.{drop}
use native.Mathlib.Omega.{arith}
use Rattle.std.specs.Prelude.{Option, Some, None}
use Rattle.notation.specs.Token.{bare, Lexeme}
use Rattle.notation.specs.Token as N
use Rattle.notation.specs.Lexer.{lexemes}
use Rattle.notation.specs.Stream.{Stream, ◌▸◌, ◌▸▸◌, ended, broken, Pending}
use Rattle.notation.specs.Stream as S
use Rattle.lexer.specs.declared.token.Token.{Token}
use Rattle.lexer.specs.declared.token.Kind.{Kind}
use Rattle.lexer.specs.Meant.{meant_by, meant, placed, ahead_by, ahead, stops, IsToken, Lexed}
use Rattle.lexer.proofs.KindLaws.{ahead_on}
use Rattle.walker.specs.declared.act.Mode.{Mode}
use Rattle.walker.specs.declared.act.Mode.TheVariants.{Start, Want, Behind}
use Rattle.walker.specs.declared.act.Open.{Open}
use Rattle.walker.specs.declared.walk.Symbol.{Symbol}
use Rattle.walker.specs.declared.walk.Symbol.TheVariants.{Head, Leaf, Opens, Closes, And, Not, After, Sequence, Choice}
use Rattle.walker.specs.declared.walk.Walk.{Walk}
use Rattle.walker.specs.Acts.{Is, is_none, is_head, is_closes, is_right, is_slash, is_leaf, is_opens, is_left, is_and, is_not, is_after, is_bad, mode_of, weight, pending, Waiting, opened, closing, puts, ComesTo}
use Rattle.walker.specs.Walks.{rest, Walks, to_go, symbol_at, Taken, BehindBy, Begins}
use Rattle.notation.specs.LexicalText.{no_way}
use Rattle.walker.specs.Steps.{closed_as, shown_as, Closing, Taking}

-- ## The code's tokens

pub is_some : (text : List ℕ) (t : Token) (us : List N.Token) → (k : Kind) → (k ≡ Kind.End → ⊥) → Is k (meant_by text t k ∷ us)
unfolding meant_by
is_some text t us Kind.End e = absurd (e refl)
is_some text t us Kind.Head e = is_head
is_some text t us Kind.Closes e = is_closes
is_some text t us Kind.Right e = is_right
is_some text t us Kind.Slash e = is_slash
is_some text t us (Kind.Leaf l) e = is_leaf
is_some text t us (Kind.Opens o) e = is_opens
is_some text t us Kind.Left e = is_left
is_some text t us Kind.And e = is_and
is_some text t us Kind.Not e = is_not
is_some text t us (Kind.After s) e = is_after
is_some text t us Kind.Bad e = is_bad

pub no_end : (k : Kind) → IsToken k → k ≡ Kind.End → ⊥
no_end k i e = let z : stops k ≡ true = rw e in no_way (cc)

pub is_meant : (text : List ℕ) (t : Token) (us : List N.Token) → (k : Kind) → IsToken k → Is k (meant_by text t k ∷ us)
is_meant text t us k i = is_some text t us k (no_end k i)

-- What a token puts out, if it does.
abbrev pub out : List ℕ → Token → Option Symbol → List S.Symbol
out text t None = []
out text t (Some s) = symbol_at text t s ∷ []

puts_meant : (text : List ℕ) (t : Token) (k : Kind) → IsToken k → puts (meant_by text t k) ≡ out text t (shown_as k)
unfolding puts meant_by
puts_meant text t Kind.End e = no_way (cc)
puts_meant text t Kind.Bad e = no_way (cc)
puts_meant text t k e = refl

-- The symbol tells the kind that it was taken from.
pub shows : {text : List ℕ} {t : Token} {at : ℕ} → Lexed text at t → {s : Symbol} (k : Kind) → t.kind ≡ k → shown_as k ≡ Some s → Taken text t s
shows L Kind.End q e = no_way (cc)
shows {at = at} L {s} Kind.Head q e = let z : s ≡ Head = cc in rw z (record { at = at; lexed = L; kind = q })
shows {at = at} L {s} Kind.Closes q e = let z : s ≡ Closes = cc in rw z (record { at = at; lexed = L; kind = q })
shows L Kind.Right q e = no_way (cc)
shows L Kind.Slash q e = no_way (cc)
shows {at = at} L {s} (Kind.Leaf l) q e = let z : s ≡ Leaf l = cc in rw z (record { at = at; lexed = L; kind = q })
shows {at = at} L {s} (Kind.Opens o) q e = let z : s ≡ Opens o = cc in rw z (record { at = at; lexed = L; kind = q })
shows L Kind.Left q e = no_way (cc)
shows L Kind.And q e = no_way (cc)
shows L Kind.Not q e = no_way (cc)
shows {at = at} L {s} (Kind.After x) q e = let z : s ≡ After x = cc in rw z (record { at = at; lexed = L; kind = q })
shows L Kind.Bad q e = no_way (cc)

-- The walk is behind the token, whatever the symbol; and where what waits is closed, none was taken.
pub goes_behind : (text : List ℕ) (t : Token) (v : Walk) → Lexed text t.next v.token → (s : Symbol) → BehindBy text t s v
goes_behind text t v L And = tt
goes_behind text t v L Not = tt
goes_behind text t v L Sequence = tt
goes_behind text t v L Choice = tt
goes_behind text t v L s = L

pub closed_free : (text : List ℕ) (t : Token) (v : Walk) (o : Open) → Waiting o → Taken text t (closed_as o) × BehindBy text t (closed_as o) v
closed_free text t v Open.Bracket w = absurd w
closed_free text t v Open.Angle w = absurd w
closed_free text t v o w = (tt, tt)

pub closed_symbol : (o : Open) → Waiting o → (text : List ℕ) (t : Token) → symbol_at text t (closed_as o) ≡ closing (pending o)
unfolding closing
closed_symbol Open.Bracket w text t = absurd w
closed_symbol Open.Angle w text t = absurd w
closed_symbol o w text t = refl

-- ## The lexemes from a token on

-- From what is not the end on, it and what comes behind it.
pub ahead_some : (text : List ℕ) (t : Token) (k : Kind) → (k ≡ Kind.End → ⊥) → (more : List Lexeme) × (ahead_by text t k ≡ placed text t ∷ more)
unfolding ahead_by
ahead_some text t Kind.End n = absurd (n refl)
ahead_some text t Kind.Bad n = ([], refl)
ahead_some text t k n = (lexemes (drop t.next text), refl)

-- What stands ahead is of the token's kind.
is_front : (text : List ℕ) (t : Token) (k : Kind) → t.kind ≡ k → Is k (bare (ahead_by text t k))
unfolding ahead_by meant_by
is_front text t Kind.End q = is_none
is_front text t Kind.Head q = rw q is_head
is_front text t Kind.Closes q = rw q is_closes
is_front text t Kind.Right q = rw q is_right
is_front text t Kind.Slash q = rw q is_slash
is_front text t (Kind.Leaf l) q = rw q is_leaf
is_front text t (Kind.Opens o) q = rw q is_opens
is_front text t Kind.Left q = rw q is_left
is_front text t Kind.And q = rw q is_and
is_front text t Kind.Not q = rw q is_not
is_front text t (Kind.After s) q = rw q is_after
is_front text t Kind.Bad q = rw q is_bad

pub is_ahead : (text : List ℕ) (t : Token) → Is t.kind (bare (ahead text t))
is_ahead text t = is_front text t t.kind refl

-- ## What an act leaves to come

weight_most : (m : Mode) → weight m ≤ 2
weight_most Start = omega arith
weight_most Want = omega arith
weight_most Behind = omega arith

pub rest_comes :
    {text : List ℕ} {w : Walk} (was : List Open) {r : Stream} → Walks text w → ComesTo w.mode w.height was w.token.kind r → rest text was w ≡ r
rest_comes {text} {w} was W c = c (bare (ahead text w.token)) (is_ahead text w.token)

pub begins :
    (text : List ℕ) (at : ℕ) (mode : Mode) (t : Token) → weight mode ≤ 1 → Lexed text at t
    → Begins text at (mode_of mode) (record { mode = mode; height = 0; token = t })
unfolding opened
begins text at mode t l L = record {
  mode = refl;
  none = refl;
  lexed = L;
  walks = record { at = at; lexed = L; low = omega arith };
  comes = λ stack. rw (← L.goes);
}

module _ {text : List ℕ} {was now : List Open} {w v : Walk} {s : Option Symbol} (W : Walks text w) where
  pub rest_takes : Taking text was now w s v → rest text was w ≡ (out text w.token s ▸▸ rest text now v)
  rest_takes T =
      let t = w.token in let h = T.shifts.taken in
      rw (ahead_on text t t.kind h, ← T.lexed.goes, T.symbol, ← puts_meant text t t.kind h)
      (T.shifts.goes (meant text t) (bare (lexemes (drop t.next text))) (is_meant text t _ t.kind h))

  pub rest_closes : (C : Closing text was now w s v) → rest text was w ≡ closing (pending C.latest) ▸ rest text now v
  rest_closes C =
      rw (C.walk, C.pops.follows, C.pops.same) (C.pops.goes (bare (ahead text w.token)) (is_ahead text w.token))

  -- A walk goes on, and has less to go.
  pub walks_takes : Taking text was now w s v → Walks text v
  walks_takes T =
      let t = w.token in let h = T.shifts.taken in
      record {
        at = t.next;
        lexed = T.lexed;
        low =
            omega (arith, T.shifts.low, W.low, W.lexed.longer h, T.lexed.onward (W.lexed.within h));
      }

  pub falls_takes : Taking text was now w s v → to_go text v < to_go text w
  falls_takes T =
      let h = T.shifts.taken in
      omega (
        arith,
        T.shifts.low,
        T.shifts.mode_next,
        weight_most w.mode,
        W.lexed.longer h,
        W.lexed.within h,
        T.lexed.onward (W.lexed.within h),
        T.lexed.inside,
      )

  pub walks_closes : Closing text was now w s v → Walks text v
  walks_closes C =
      rw C.walk (record { at = W.at; lexed = W.lexed; low = omega (arith, rw C.pops.follows at W.low, C.pops.some) })

  pub falls_closes : Closing text was now w s v → to_go text v < to_go text w
  falls_closes C = rw C.walk (omega (arith, C.pops.some))

pub takes_shows : {text : List ℕ} {was now : List Open} {w v : Walk} {s : Symbol} → Walks text w → Taking text was now w (Some s) v → Taken text w.token s
takes_shows {w = w} W T = shows W.lexed w.token.kind refl (sym T.symbol)
