-- Where the reading stops: at one place, and exactly in tokens that are not of the notation. And what the walk over the tokens has to do with it:
-- from wherever it stands, the tokens can be gone on with.
use Rattle.std.specs.Prelude.{ℕ, suc, ◌≤◌, ◌<◌, ◌≡◌, refl, Bool, true, false, ◌↔◌, ltb, length, take, drop}
use Rattle.std.proofs.Common.{ap, sym, ◌∙◌, arith, add-one, length-append, length-drop, take-append-drop, take-take, ltb-true, ltb-false}
use mathlib.Core.List.{List, [], ◌∷◌, ◌++◌, append_assoc, append-nil}
use Rattle.std.proofs.Math.Seq.{append_snoc, take-append_seam, take-append-add, take-length}
use Rattle.notation.specs.Tree.{Name, any, sequence, choice, Production}
use Rattle.notation.specs.Token.{Token, head, leaf, opens, closes, left, right, slash, before, after, bad}
use Rattle.notation.specs.Notation.{Productions}
use Rattle.notation.specs.Stream.{Symbol, Stream, ◌▸▸◌, Pending, bracket, angle, waits, half, Closing, item, alternative, end, close, whole, in_bracket, in_angle, Mode, start, want, behind, stream, streamed}
use Rattle.notation.specs.StreamLaws.{next, closes_prefix, closes_row, closes_choice}
use Rattle.notation.specs.Lexer.{lexemes, tokens}
use Rattle.notation.specs.UnreadLaws.{lexes_to, one_way, lexes_whole}
use Rattle.notation.specs.LexicalText.{no_way}
use Rattle.notation.specs.Reader.{came, trees, reads, unread, parsed}
use Rattle.notation.specs.ReaderLaws.{exact, parsed_derived}
use Rattle.notation.specs.Text.{ReadsAs}
use Rattle.notation.specs.TextLaws.{derived}
use Rattle.notation.specs.Places.{place_of}
use Rattle.notation.specs.EndsLaws.{ends_placed, lexemes_end}
use Rattle.notation.specs.Stops.{GoesOn, Stops, here_of, StopsAt}

-- ## One stop

-- What is gone on with further is gone on with before.
earlier : (ts : List Token) (i j : ℕ) → i ≤ j → GoesOn (take j ts) → GoesOn (take i ts)
earlier ts i j h g =
    let e : take i ts ++ drop i (take j ts) ≡ take j ts = ap (λ x. x ++ drop i (take j ts)) (sym (take-take i j ts h)) ∙ take-append-drop i (take j ts) in
    (drop i (take j ts) ++ g.0, g.1, rw (← append_assoc (take i ts) (drop i (take j ts)) g.0, e) g.2)

not_before : {ts : List Token} (i j : ℕ) → Stops ts i → Stops ts j → i < j → ⊥
not_before {ts} i j S T h = S.dead (omega (arith, T.inside)) (earlier ts (suc i) j h T.alive)

-- THE READING STOPS ONCE.
pub one_stop : {ts : List Token} (i j : ℕ) → Stops ts i → Stops ts j → i ≡ j
one_stop i j S T = go (ltb i j) (ltb j i) refl refl
  where
    go : (a b : Bool) → ltb i j ≡ a → ltb j i ≡ b → i ≡ j
    go true b p q = absurd (not_before i j S T (ltb-true i j p))
    go false true p q = absurd (not_before j i T S (ltb-true j i q))
    go false false p q = let h = ltb-false i j p in let k = ltb-false j i q in omega arith

-- AT ONE PLACE.
pub one_place : {text : List ℕ} (p q : ℕ) → StopsAt text p → StopsAt text q → p ≡ q
one_place {text} p q S T =
    let ls : S.lexemes ≡ T.lexemes = one_way S.lexes T.lexes in
    let i : S.number ≡ T.number = one_stop S.number T.number S.stops (rw ls T.stops) in
    let e : drop p text ≡ drop q text = S.here ∙ rw (ls, i) (sym T.here) in
    omega (arith, S.inside, T.inside, ap length e, length-drop p text, length-drop q text)

-- ## Whether the walk comes to the end, and whether the notation derives something

derived_came : {ts : List Token} {ps : List Production} → Productions ts ps → came (streamed ts) ≡ true
unfolding parsed
derived_came {ts} {ps} P = go (came (streamed ts)) refl
  where
    go : (b : Bool) → came (streamed ts) ≡ b → came (streamed ts) ≡ true
    go true e = e
    go false e = let z : unread ≡ reads ps = rw e at (parsed_derived P) in no_way (cc)

came_derived : (ts : List Token) → came (streamed ts) ≡ true → Productions ts (trees (streamed ts))
unfolding parsed
came_derived ts e = (exact ts (trees (streamed ts))).0 (rw e)

-- ## From wherever the walk stands the tokens can be gone on with

-- What closes all that is open.
endings : List Pending → List Token
endings [] = []
endings (bracket ∷ σ) = right ∷ endings σ
endings (angle ∷ σ) = closes ∷ endings σ
endings (waits p ∷ σ) = endings σ
endings (half b ∷ σ) = endings σ

next_endings : (σ : List Pending) → next (endings σ) ≤ 1
unfolding endings
next_endings [] = omega arith
next_endings (bracket ∷ σ) = omega arith
next_endings (angle ∷ σ) = omega arith
next_endings (waits p ∷ σ) = next_endings σ
next_endings (half b ∷ σ) = next_endings σ

closes_all : (σ : List Pending) → came (stream (endings σ) behind σ) ≡ true
unfolding endings stream close whole in_bracket in_angle came
closes_all [] = refl
closes_all (bracket ∷ σ) = closes_all σ
closes_all (angle ∷ σ) = closes_all σ
closes_all (waits p ∷ σ) = ap came (closes_prefix (endings σ) p σ (omega (arith, next_endings σ))) ∙ closes_all σ
closes_all (half sequence ∷ σ) = ap came (closes_row (endings σ) σ (omega (arith, next_endings σ))) ∙ closes_all σ
closes_all (half choice ∷ σ) = ap came (closes_choice (endings σ) σ (next_endings σ)) ∙ closes_all σ

onward : (m : Mode) (σ : List Pending) → (us : List Token) × (came (stream us m σ) ≡ true)
unfolding stream close came endings
onward start σ = (head [] ∷ leaf any ∷ [], closes_all [])
onward want σ = (leaf any ∷ endings σ, closes_all σ)
onward behind σ = (endings σ, closes_all σ)

-- What is put out on the way does not matter.
pub came_on : (ss : List Symbol) (r : Stream) → came (ss ▸▸ r) ≡ came r
unfolding came ◌▸▸◌
came_on [] r = refl
came_on (s ∷ ss) r = came_on ss r

-- The walk has taken these tokens and stands here: whatever follows, the whole comes to what that comes to from here.
abbrev pub Leads : List Token → Mode → List Pending → Type 0
Leads pre m σ = (us : List Token) → came (streamed (pre ++ us)) ≡ came (stream us m σ)

pub leads_on : (pre : List Token) (m : Mode) (σ : List Pending) → Leads pre m σ → GoesOn pre
leads_on pre m σ l = let o = onward m σ in (o.0, _, came_derived (pre ++ o.0) (l o.0 ∙ o.1))

pub leads_one :
    (pre : List Token) (t : Token) (m : Mode) (σ : List Pending) → ((us : List Token) → came (streamed (pre ++ t ∷ us)) ≡ came (stream us m σ))
    → Leads (pre ++ t ∷ []) m σ
leads_one pre t m σ f us = rw (append_snoc pre t us) (f us)

-- ## Where nothing goes on, the reading stops

never : {ts : List Token} {ps : List Production} → came (streamed ts) ≡ false → Productions ts ps → ⊥
never e P = let z = derived_came P in no_way (cc)

with_one : (pre : List Token) (t : Token) (ts us : List Token) → take (suc (length pre)) (pre ++ t ∷ ts) ++ us ≡ pre ++ t ∷ us
with_one pre t ts us = rw (← add-one (length pre), take-append-add) (append_snoc pre t us)

pub stops_token :
    (pre : List Token) (t : Token) (ts : List Token) → GoesOn pre → ((us : List Token) → came (streamed (pre ++ t ∷ us)) ≡ false)
    → Stops (pre ++ t ∷ ts) (length pre)
stops_token pre t ts g f = record {
  inside = omega (arith, length-append pre (t ∷ ts));
  alive = rw take-append_seam g;
  dead = λ h d. never (f d.0) (rw (with_one pre t ts d.0) at d.2);
  unfinished = λ e. absurd (omega (arith, length-append pre (t ∷ ts)));
}

pub stops_end : (pre : List Token) → GoesOn pre → came (streamed pre) ≡ false → Stops pre (length pre)
stops_end pre g f = record {
  inside = omega arith;
  alive = rw take-length g;
  dead = λ h. absurd (omega arith);
  unfinished = λ e ps. never f;
}

-- ## A stop for all tokens that are not of the notation

-- What closing leaves open.
left_open : (c : Closing) (σ : List Pending) → (τ : List Pending) × ((k : List Pending → Stream) → came (close c σ k) ≡ came (k τ))
unfolding close came
left_open c [] = ([], λ k. refl)
left_open c (bracket ∷ σ) = (bracket ∷ σ, λ k. refl)
left_open c (angle ∷ σ) = (angle ∷ σ, λ k. refl)
left_open c (waits p ∷ σ) = left_open c σ
left_open item (half b ∷ σ) = (half b ∷ σ, λ k. refl)
left_open alternative (half sequence ∷ σ) = left_open alternative σ
left_open alternative (half choice ∷ σ) = (half choice ∷ σ, λ k. refl)
left_open end (half b ∷ σ) = left_open end σ

-- A token is taken, or nothing goes on from it.
data Step (t : Token) (m : Mode) (σ : List Pending) : Type 0 where
  takes : (n : Mode) (τ : List Pending) → ((us : List Token) → came (stream (t ∷ us) m σ) ≡ came (stream us n τ)) → Step t m σ
  breaks : ((us : List Token) → came (stream (t ∷ us) m σ) ≡ false) → Step t m σ

-- Behind a primary, by what an end of each kind leaves open.
module _ (σ : List Pending) where
  step_head : (n : Name) (τ : List Pending) → ((k : List Pending → Stream) → came (close end σ k) ≡ came (k τ)) → Step (head n) behind σ
  unfolding stream came whole
  step_head n [] f = takes want [] (λ us. f _)
  step_head n (p ∷ τ) f = breaks (λ us. f _)

  step_right : (τ : List Pending) → ((k : List Pending → Stream) → came (close end σ k) ≡ came (k τ)) → Step right behind σ
  unfolding stream came in_bracket
  step_right [] f = breaks (λ us. f _)
  step_right (bracket ∷ τ) f = takes behind τ (λ us. f _)
  step_right (angle ∷ τ) f = breaks (λ us. f _)
  step_right (waits p ∷ τ) f = breaks (λ us. f _)
  step_right (half b ∷ τ) f = breaks (λ us. f _)

  step_closes : (τ : List Pending) → ((k : List Pending → Stream) → came (close end σ k) ≡ came (k τ)) → Step closes behind σ
  unfolding stream came in_angle
  step_closes [] f = breaks (λ us. f _)
  step_closes (bracket ∷ τ) f = breaks (λ us. f _)
  step_closes (angle ∷ τ) f = takes behind τ (λ us. f _)
  step_closes (waits p ∷ τ) f = breaks (λ us. f _)
  step_closes (half b ∷ τ) f = breaks (λ us. f _)

step : (t : Token) (m : Mode) (σ : List Pending) → Step t m σ
unfolding stream came
step (head n) start σ = takes want [] (λ us. refl)
step (leaf l) start σ = breaks (λ us. refl)
step (opens o) start σ = breaks (λ us. refl)
step closes start σ = breaks (λ us. refl)
step left start σ = breaks (λ us. refl)
step right start σ = breaks (λ us. refl)
step slash start σ = breaks (λ us. refl)
step (before p) start σ = breaks (λ us. refl)
step (after s) start σ = breaks (λ us. refl)
step bad start σ = breaks (λ us. refl)
step (head n) want σ = breaks (λ us. refl)
step (leaf l) want σ = takes behind σ (λ us. refl)
step (opens o) want σ = takes want (angle ∷ σ) (λ us. refl)
step closes want σ = breaks (λ us. refl)
step left want σ = takes want (bracket ∷ σ) (λ us. refl)
step right want σ = breaks (λ us. refl)
step slash want σ = breaks (λ us. refl)
step (before p) want σ = takes want (waits p ∷ σ) (λ us. refl)
step (after s) want σ = breaks (λ us. refl)
step bad want σ = breaks (λ us. refl)
step (head n) behind σ = step_head σ n (left_open end σ).0 (left_open end σ).1
step (leaf l) behind σ = takes behind (half sequence ∷ (left_open item σ).0) (λ us. (left_open item σ).1 _)
step (opens o) behind σ = takes want (angle ∷ half sequence ∷ (left_open item σ).0) (λ us. (left_open item σ).1 _)
step closes behind σ = step_closes σ (left_open end σ).0 (left_open end σ).1
step left behind σ = takes want (bracket ∷ half sequence ∷ (left_open item σ).0) (λ us. (left_open item σ).1 _)
step right behind σ = step_right σ (left_open end σ).0 (left_open end σ).1
step slash behind σ = takes want (half choice ∷ (left_open alternative σ).0) (λ us. (left_open alternative σ).1 _)
step (before p) behind σ = takes want (waits p ∷ half sequence ∷ (left_open item σ).0) (λ us. (left_open item σ).1 _)
step (after s) behind σ = takes behind σ (λ us. refl)
step bad behind σ = breaks (λ us. refl)

-- The walk stands before these tokens, and does not come to the end.
abbrev Found : List Token → Type 0
Found ts = (pre : List Token) (m : Mode) (σ : List Pending) → Leads pre m σ → came (stream ts m σ) ≡ false → (i : ℕ) × Stops (pre ++ ts) i

found : (ts : List Token) → Found ts
found [] pre m σ l e = rw append-nil (length pre, stops_end pre (leads_on pre m σ l) (rw append-nil at (l [] ∙ e)))
found (t ∷ ts) pre m σ l e = go (step t m σ) (found ts)
  where
    go : Step t m σ → Found ts → (i : ℕ) × Stops (pre ++ t ∷ ts) i
    go (breaks f) more = (length pre, stops_token pre t ts (leads_on pre m σ l) (λ us. l (t ∷ us) ∙ f us))
    go (takes n τ f) more = rw (append_snoc pre t ts) at (more (pre ++ t ∷ []) n τ (leads_one pre t n τ (λ us. l (t ∷ us) ∙ f us)) (sym (f ts) ∙ e))

-- What is derived is gone on with as far as it goes.
not_derived : {ts : List Token} {ps : List Production} (i : ℕ) → Stops ts i → Productions ts ps → ⊥
not_derived {ts} {ps} i S P = go (ltb i (length ts)) refl
  where
    go : (b : Bool) → ltb i (length ts) ≡ b → ⊥
    go true e = S.dead (ltb-true i (length ts) e) (earlier ts (suc i) (length ts) (ltb-true i (length ts) e) ([], ps, rw (append-nil, take-length) P))
    go false e = S.unfinished (let h = ltb-false i (length ts) e in omega (arith, S.inside)) ps P

-- TOKENS STOP EXACTLY IF THE NOTATION DERIVES NOTHING FROM THEM.
pub stops_underived : (ts : List Token) → ((i : ℕ) × Stops ts i) ↔ ((ps : List Production) → Productions ts ps → ⊥)
stops_underived ts = (λ s ps. not_derived s.0 s.1, λ f. go f (came (streamed ts)) refl)
  where
    go : ((ps : List Production) → Productions ts ps → ⊥) → (b : Bool) → came (streamed ts) ≡ b → (i : ℕ) × Stops ts i
    go f true e = absurd (f (trees (streamed ts)) (came_derived ts e))
    go f false e = found ts [] start [] (λ us. refl) e

-- ## The same of a text

no_reading : {text : List ℕ} {p : ℕ} → StopsAt text p → (ps : List Production) → ReadsAs text ps → ⊥
no_reading s ps r =
    not_derived {ps = ps} s.number s.stops (rw (one_way s.lexes (lexes_whole r.lexes)) r.derives)

stop_of : (text : List ℕ) → ((ps : List Production) → ReadsAs text ps → ⊥) → (p : ℕ) × StopsAt text p
stop_of text f =
    let ls = lexemes text in
    let s = (stops_underived (tokens text)).1 (λ ps P. f ps (derived text ps ((exact (tokens text) ps).1 P))) in (
      place_of text (here_of (drop s.0 ls)),
      record { lexemes = ls; lexes = lexes_to text; number = s.0; stops = s.1; inside = omega arith; here = ends_placed (lexemes_end (lexes_to text) s.0) },
    )

-- THE READING OF A TEXT STOPS SOMEWHERE EXACTLY IF THE TEXT HAS NO READING.
pub stops_unread : (text : List ℕ) → ((p : ℕ) × StopsAt text p) ↔ ((ps : List Production) → ReadsAs text ps → ⊥)
stops_unread text = (λ s. no_reading s.1, stop_of text)
