-- Laws of `next`: acts that put out nothing are passed over, and the next one gives its symbol.
use Prim.Native.Nat.{ℕ, ◌+◌, ◌-◌, ◌≤◌, ◌<◌}
use mathlib.Core.Path.{◌≡◌, refl, sym, ◌∙◌}
use mathlib.Core.List.{List}
use lib.ListN.{length, set, length-set}
use native.Mathlib.Omega.{arith}
use Rattle.std.specs.Prelude.{Some, None}
use Rattle.notation.specs.LexicalText.{no_way}
use Rattle.notation.specs.Stream.{◌▸▸◌}
use Rattle.lexer.specs.declared.token.Token.{Token}
use Rattle.lexer.specs.declared.token.Kind.TheVariants as Kind
use Rattle.lexer.specs.Meant.{Lexed}
use Rattle.walker.specs.declared.act.Mode.{Mode}
use Rattle.walker.specs.declared.act.Mode.TheVariants.{Want, Behind}
use Rattle.walker.specs.declared.act.Open.{Open}
use Rattle.walker.specs.declared.act.Open.TheVariants.{Bracket}
use Rattle.walker.specs.declared.walk.Symbol.{Symbol}
use Rattle.walker.specs.declared.walk.Walk.{Walk}
use Rattle.walker.specs.declared.walk.Step.TheVariants as Step
use Rattle.walker.specs.declared.walk.Turn.TheVariants.{On, Ended, Broken}
use Rattle.walker.specs.Acts.{latest, Shifts}
use Rattle.walker.specs.Walks.{Walks, to_go, Passing, Gives, Nexts}
use Rattle.walker.specs.Steps.{closed_as, shown_as, Goes, closes, takes, Steps}
use Rattle.walker.proofs.ActLaws.{pushes, bracket_closed}
use Rattle.walker.proofs.WalkLaws.{goes_behind, closed_free, closed_symbol, rest_comes, rest_takes, rest_closes, takes_shows, walks_takes, falls_takes, walks_closes, falls_closes}

-- ## Passing over

-- No act at all.
pub stays : {text : List ℕ} (stack : List Open) {w : Walk} → Walks text w → Passing text stack stack w w
stays stack W = record { same = refl; walks = W; less = omega arith; long = refl }

module _ {text : List ℕ} {was stack now : List Open} {w₀ w : Walk} (P : Passing text was stack w₀ w) where
  -- Nothing was put out.
  pub passed : {v : Walk} → Steps text stack now w (On None v) → Passing text was now w₀ v × (to_go text v < to_go text w)
  unfolding ◌▸▸◌
  passed {v} S = go S.acted
    where
      go : Goes text stack now w None v → Passing text was now w₀ v × (to_go text v < to_go text w)
      go (closes C) = let z = C.symbol in no_way (cc)
      go (takes T) = (
        record {
          same = P.same ∙ rest_takes P.walks T;
          walks = walks_takes P.walks T;
          less = omega (arith, P.less, falls_takes P.walks T);
          long = S.long ∙ P.long;
        },
        falls_takes P.walks T,
      )

  -- A symbol was, or the walk is over.
  pub given : {s : Symbol} {v : Walk} → Steps text stack now w (On (Some s) v) → Nexts text was now w₀ (Step.Symbol s w.token v)
  unfolding ◌▸▸◌
  given {s} {v} S = record { nexts = go S.acted; long = S.long ∙ P.long }
    where
      go : Goes text stack now w (Some s) v → Gives text was now w₀ s w.token v
      go (closes C) =
          let o = C.latest in let e : s ≡ closed_as o = (let z = C.symbol in cc) in let f = closed_free text w.token v o C.pops.waiting in
          record {
            goes = P.same ∙ rest_closes P.walks C ∙ rw (e, closed_symbol o C.pops.waiting text w.token);
            taken = rw e f.0;
            behind = rw e f.1;
            walks = walks_closes P.walks C;
            falls = omega (arith, P.less, falls_closes P.walks C);
          }
      go (takes T) = record {
        goes = P.same ∙ rest_takes P.walks T;
        taken = takes_shows P.walks T;
        behind = goes_behind text w.token v T.lexed s;
        walks = walks_takes P.walks T;
        falls = omega (arith, P.less, falls_takes P.walks T);
      }

  pub at_end : Steps text stack now w Ended → Nexts text was now w₀ Step.Ended
  at_end S = record { nexts = P.same ∙ rest_comes stack P.walks S.acted; long = S.long ∙ P.long }

  pub at_break : Steps text stack now w Broken → Nexts text was now w₀ Step.Broken
  at_break S = record { nexts = P.same ∙ rest_comes stack P.walks S.acted; long = S.long ∙ P.long }

-- One way behind another.
pub along :
    {text : List ℕ} {was stack now : List Open} {w₀ w v : Walk} → Passing text was stack w₀ w → Passing text stack now w v → Passing text was now w₀ v
along P Q = record { same = P.same ∙ Q.same; walks = Q.walks; less = omega (arith, P.less, Q.less); long = Q.long ∙ P.long }

-- ## Brackets, many at once

-- A token is taken that puts out nothing; and such a token is a `(` where an item must begin, and a `)` behind a primary, where it closes a `(`.
module _ {text : List ℕ} {was stack now : List Open} {w₀ w : Walk} (P : Passing text was stack w₀ w) where
  over_token :
      (m : Mode) (g : ℕ) (u : Token) → Shifts w.mode w.height stack now w.token.kind m g → shown_as w.token.kind ≡ None
      → Lexed text w.token.next u → length now ≡ length stack
      → Passing text was now w₀ (record { mode = m; height = g; token = u }) × (to_go text (record { mode = m; height = g; token = u }) < to_go text w)
  over_token m g u S e L l = passed P (record { acted = takes (record { shifts = S; symbol = sym e; lexed = L }); long = l })

module _ {text : List ℕ} {was stack : List Open} {w₀ w : Walk} (P : Passing text was stack w₀ w) where
  pub over_open :
      (u : Token) → Lexed text w.token.next u → w.mode ≡ Want → w.token.kind ≡ Kind.Left → w.height < length stack
      → Passing text was (set stack w.height Bracket) w₀ (record { mode = w.mode; height = w.height + 1; token = u })
      × (to_go text (record { mode = w.mode; height = w.height + 1; token = u }) < to_go text w)
  over_open u L q e i =
      over_token P w.mode (w.height + 1) u (rw q (pushes {k = w.token.kind} w.height stack Bracket i (rw e)).acts) (rw e) L (length-set stack w.height Bracket)

  pub over_shut :
      (u : Token) → Lexed text w.token.next u → w.mode ≡ Behind → w.token.kind ≡ Kind.Right → 1 ≤ w.height → latest w.height stack ≡ Bracket
      → Passing text was stack w₀ (record { mode = w.mode; height = w.height - 1; token = u })
      × (to_go text (record { mode = w.mode; height = w.height - 1; token = u }) < to_go text w)
  over_shut u L q e i z =
      over_token P w.mode (w.height - 1) u (rw q (bracket_closed {k = w.token.kind} w.height stack (rw z tt) i (rw z e)).acts) (rw e) L refl
