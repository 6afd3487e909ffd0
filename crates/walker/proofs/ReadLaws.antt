-- Laws of `read_whole`: what was taken can be gone on with, and the rest of the walk comes to what the whole comes to.
use Prim.Native.Nat.{ℕ, ◌<◌}
use mathlib.Core.Path.{◌≡◌, refl, ap, ◌∙◌}
use mathlib.Core.List.{List, [], ◌∷◌, ◌++◌, map-append, append-nil}
use lib.ListN.{length, length-map}
use lib.Seq.{append_snoc, drop-length, drop-append_seam}
use Rattle.std.specs.Prelude.{Option, Ok, Err}
use Rattle.notation.specs.Token.{Lexeme, bare}
use Rattle.notation.specs.Token as N
use Rattle.notation.specs.Lexer.{lexemes, tokens}
use Rattle.notation.specs.Stream.{Stream, ended, broken, start, stream, streamed}
use Rattle.notation.specs.Reader.{came}
use Rattle.notation.specs.UnreadLaws.{lexes_to}
use Rattle.notation.specs.Stops.{GoesOn, StopsAt}
use Rattle.notation.specs.StopsLaws.{came_on, Leads, leads_on, leads_one, stops_token, stops_end}
use Rattle.lexer.specs.declared.token.Kind.{Kind}
use Rattle.lexer.specs.Meant.{meant, placed, ahead_by, ahead}
use Rattle.lexer.proofs.KindLaws.{ahead_on}
use Rattle.walker.specs.declared.act.Open.{Open}
use Rattle.notation.specs.LexicalText.{no_way}
use Rattle.walker.specs.declared.walk.Symbol.{Symbol}
use Rattle.walker.specs.declared.walk.Walk.{Walk}
use Rattle.walker.specs.declared.walk.Turn.TheVariants.{On}
use Rattle.walker.specs.Acts.{Is, mode_of, opened, puts, ComesTo}
use Rattle.walker.specs.Walks.{Walks, to_go, Begins}
use Rattle.walker.specs.Tells.{Tells}
use Rattle.walker.specs.Steps.{Closing, Taking, Goes, closes, takes, Steps}
use Rattle.walker.proofs.ActLaws.{opened_none}
use Rattle.walker.proofs.WalkLaws.{is_some, is_meant, ahead_some, is_ahead, walks_takes, falls_takes, walks_closes, falls_closes}

-- The walk stands behind these lexemes: they can be gone on with, and with what is of the present token's kind the whole comes to what that comes to
-- from here.
pub record Stands (text : List ℕ) (stack : List Open) (w : Walk) : Type 0 where
  pub passed : List Lexeme
  pub here : lexemes text ≡ passed ++ ahead text w.token
  pub alive : GoesOn (bare passed)
  pub same : (us : List N.Token) → Is w.token.kind us
      → came (streamed (bare passed ++ us)) ≡ came (stream us (mode_of w.mode) (opened w.height stack))
  pub walks : Walks text w

pub stands_first : (text : List ℕ) (stack : List Open) (w : Walk) → Begins text 0 start w → Stands text stack w
stands_first text stack w B = record {
  passed = [];
  here = B.lexed.goes;
  alive = leads_on [] start [] (λ us. refl);
  same = λ us e. rw (B.mode, opened_none w.height stack B.none);
  walks = B.walks;
}

bare_append : (xs ys : List Lexeme) → bare (xs ++ ys) ≡ bare xs ++ bare ys
bare_append xs ys = map-append (λ l. l.token) xs ys

-- The tokens of the text are those that were passed, and those from here on.
all_tokens : {text : List ℕ} {stack : List Open} {w : Walk} (S : Stands text stack w) → tokens text ≡ bare S.passed ++ bare (ahead text w.token)
all_tokens {text} {w = w} S = ap bare S.here ∙ bare_append S.passed (ahead text w.token)

module _ {text : List ℕ} {stack now : List Open} {w v : Walk} {s : Option Symbol} (S : Stands text stack w) where
  stands_closes : Closing text stack now w s v → Stands text now v
  unfolding came mode_of
  stands_closes C = record {
    passed = S.passed;
    here = rw C.walk S.here;
    alive = S.alive;
    same = rw (C.walk, C.pops.same) (λ us e. S.same us e ∙ rw C.pops.follows (ap came (C.pops.goes us e)));
    walks = walks_closes S.walks C;
  }

  leads_taken : Taking text stack now w s v → Leads (bare S.passed ++ meant text w.token ∷ []) (mode_of v.mode) (opened v.height now)
  leads_taken T =
      let t = w.token in let m = mode_of v.mode in let σ = opened v.height now in
      leads_one (bare S.passed) (meant text t) m σ
      (λ us. let q = is_meant text t us t.kind T.shifts.taken in S.same (meant text t ∷ us) q ∙ ap came (T.shifts.goes (meant text t) us q) ∙ came_on (puts (meant text t)) (stream us m σ))

  stands_takes : Taking text stack now w s v → Stands text now v
  stands_takes T =
      let t = w.token in let h = T.shifts.taken in let l = placed text t in
      let e : bare (S.passed ++ l ∷ []) ≡ bare S.passed ++ meant text t ∷ [] = bare_append S.passed (l ∷ []) in
      record {
        passed = S.passed ++ l ∷ [];
        here =
            S.here ∙ rw (append_snoc S.passed l (ahead text v.token), ahead_on text t t.kind h, T.lexed.goes);
        alive = rw e (leads_on (bare S.passed ++ meant text t ∷ []) (mode_of v.mode) (opened v.height now) (leads_taken T));
        same = λ us k. rw e (leads_taken T us);
        walks = walks_takes S.walks T;
      }

-- The walk goes on.
pub stands_on :
    {text : List ℕ} {stack now : List Open} {w v : Walk} {s : Option Symbol} → Stands text stack w → Steps text stack now w (On s v)
    → Stands text now v × (to_go text v < to_go text w)
stands_on {text} {stack} {now} {w} {v} {s} S A = go A.acted
  where
    go : Goes text stack now w s v → Stands text now v × (to_go text v < to_go text w)
    go (closes C) = (stands_closes S C, falls_closes S.walks C)
    go (takes T) = (stands_takes S T, falls_takes S.walks T)

module _ {text : List ℕ} {stack : List Open} {w : Walk} (S : Stands text stack w) where
  came_all : {r : Stream} → ComesTo w.mode w.height stack w.token.kind r → came (streamed (tokens text)) ≡ came r
  came_all c =
      let t = w.token in let q = is_ahead text t in
      rw (all_tokens S) (S.same (bare (ahead text t)) q ∙ ap came (c (bare (ahead text t)) q))

  -- It has come to its end.
  pub tells_whole : ComesTo w.mode w.height stack w.token.kind ended → Tells text (Ok tt)
  unfolding came
  tells_whole c = came_all c

  -- It stops here: at the text's end, or at the token.
  module _ (c : ComesTo w.mode w.height stack w.token.kind broken) where
    stops_last : w.token.kind ≡ Kind.End → StopsAt text w.token.start
    unfolding came ahead_by
    stops_last z =
        let all : lexemes text ≡ S.passed = S.here ∙ rw (z, append-nil) in
        record {
          lexemes = lexemes text;
          lexes = lexes_to text;
          number = length S.passed;
          stops = rw (all, ← length-map S.passed (λ l. l.token)) (stops_end (bare S.passed) S.alive (rw all at (came_all c)));
          inside = S.walks.lexed.inside;
          here = rw (all, S.walks.lexed.ends z, drop-length, drop-length);
        }

    stops_before : (w.token.kind ≡ Kind.End → ⊥) → StopsAt text w.token.start
    unfolding came
    stops_before n =
        let t = w.token in
        let a = ahead_some text t t.kind n in
        let more : List Lexeme = a.0 in
        let all : lexemes text ≡ S.passed ++ placed text t ∷ more = S.here ∙ ap (λ x. S.passed ++ x) a.1 in
        record {
          lexemes = lexemes text;
          lexes = lexes_to text;
          number = length S.passed;
          stops =
              rw (all, bare_append S.passed (placed text t ∷ more), ← length-map S.passed (λ l. l.token))
              (stops_token (bare S.passed) (meant text t) (bare more) S.alive
              (λ us. let q = is_some text t us t.kind n in S.same (meant text t ∷ us) q ∙ ap came (c (meant text t ∷ us) q)));
          inside = S.walks.lexed.inside;
          here = rw (all, drop-append_seam);
        }

    pub tells_stopped : Tells text (Err (record { at = w.token.start }))
    unfolding came
    tells_stopped = (came_all c, go w.token.kind refl)
      where
        go : (k : Kind) → w.token.kind ≡ k → StopsAt text w.token.start
        go Kind.End e = stops_last e
        go k e = stops_before (λ z. no_way (cc))
