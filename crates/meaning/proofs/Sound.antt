-- `sound`: what the machine answers has a derivation within the limits; what it refuses is a run that is cut short.
use Prim.Native.Nat.{ℕ, zero, suc, ◌-◌, ◌≤◌}
use Rattle.std.specs.Prelude.{◌≡◌, refl, Bool, List, length}
use Rattle.std.proofs.Common.{ltb-true, ltb-false}
use Rattle.std.proofs.Math.Bool.{true, false}
use native.Mathlib.Omega.{arith}
use Rattle.std.proofs.Math.Dec.{ltb}
use Rattle.grammar.specs.Expr.{Expr, Empty, Byte, Range, Any, Text, Sequence, Choice, Star, Not, Call, Def, Match, Is, Isa, Exists, Block, Local, If, On}
use Rattle.grammar.specs.Grammar.{Grammar, node}
use Rattle.meaning.specs.State.{State, Env, visible}
use Rattle.meaning.specs.Outcome.{Outcome, pass, fail, some}
use Rattle.meaning.specs.Cost.{Cost, nothing, enter, ◌⊕◌}
use Rattle.meaning.specs.Rules.{Derives, named, empty, byte, range, any, text, seq_first, seq_both, choice_first, choice_second, star_stop, star_more, not, call, def_fail, def_pass, match, is_none, is_some, isa_none, isa_some, exists, block, local, if, on}
use Rattle.meaning.specs.Cut.{Cut, no_steps, no_depth, no_room, empty_round, cut_first, cut_second, cut_alternative, cut_other, cut_round, cut_later, cut_not, cut_call, cut_def, cut_is, cut_isa, cut_block, cut_local, cut_on}
use Rattle.meaning.specs.Sound.{All, came, cut, Found, Answers}
use Rattle.meaning.specs.Run.{Result, ran, next, charge, after, on_pass, on_fail, if_consumed, round, rounds, stored, if_any, entered, run}

charge_all : {Q : Outcome → Cost → Type 0} {S : ℕ → ℕ → Cost → Type 0} {r : Result}
    → All (λ o c. Q o (enter c)) (λ n p c. S n p (enter c)) r → All Q S (charge r)
charge_all (came h) = came h
charge_all (cut h) = cut h

after_all : {P Q : Outcome → Cost → Type 0} {R S : ℕ → ℕ → Cost → Type 0} (c : Cost) {r : Result}
    → All P R r → ((o : Outcome) (d : Cost) → P o d → Q o (c ⊕ d)) → ((n p : ℕ) (d : Cost) → R n p d → S n p (c ⊕ d))
    → All Q S (after c r)
after_all c (came h) f k = came (f _ _ h)
after_all c (cut h) f k = cut (k _ _ _ h)

next_all : {P Q : Outcome → Cost → Type 0} {R S : ℕ → ℕ → Cost → Type 0} {r : Result} {k : Outcome → Cost → Result}
    → All P R r → ((o : Outcome) (c : Cost) → P o c → All Q S (k o c)) → ((n p : ℕ) (c : Cost) → R n p c → S n p c) → All Q S (next r k)
next_all (came h) f k = f _ _ h
next_all (cut h) f k = cut (k _ _ _ h)

all_map : {P Q : Outcome → Cost → Type 0} {R S : ℕ → ℕ → Cost → Type 0} {r : Result}
    → All P R r → ((o : Outcome) (c : Cost) → P o c → Q o c) → ((n p : ℕ) (c : Cost) → R n p c → S n p c) → All Q S r
all_map (came h) f k = came (f _ _ h)
all_map (cut h) f k = cut (k _ _ _ h)

pass_all : {P Q : Outcome → Cost → Type 0} {R S : ℕ → ℕ → Cost → Type 0} {r : Result} {k : ℕ → State → Cost → Result}
    → All P R r → ((q : ℕ) (τ : State) (c : Cost) → P (pass q τ) c → All Q S (k q τ c)) → ((c : Cost) → P fail c → Q fail c)
    → ((n p : ℕ) (c : Cost) → R n p c → S n p c) → All Q S (next r (on_pass k))
pass_all (came {o = pass q τ} h) f e k = f _ _ _ h
pass_all (came {o = fail} h) f e k = came (e _ h)
pass_all (cut h) f e k = cut (k _ _ _ h)

fail_all : {P Q : Outcome → Cost → Type 0} {R S : ℕ → ℕ → Cost → Type 0} {r : Result} {k : Cost → Result}
    → All P R r → ((c : Cost) → P fail c → All Q S (k c)) → ((q : ℕ) (τ : State) (c : Cost) → P (pass q τ) c → Q (pass q τ) c)
    → ((n p : ℕ) (c : Cost) → R n p c → S n p c) → All Q S (next r (on_fail k))
fail_all (came {o = pass q τ} h) f e k = came (e _ _ _ h)
fail_all (came {o = fail} h) f e k = f _ h
fail_all (cut h) f e k = cut (k _ _ _ h)

module _ (g : Grammar) (x : List ℕ) (r : ℕ) where
  -- One expression, whose parts are run by an f that is sound at one depth less.
  module _ (d : ℕ) (f : ℕ → Env → Expr → ℕ → State → Result)
      (hf : (b : ℕ) (v : Env) (e : Expr) (p : ℕ) (σ : State) → Answers g x r d b v e p σ (f b v e p σ)) where
    leaf :
        {b : ℕ} {v : Env} {e : Expr} {p : ℕ} {σ : State} {o : Outcome} → Derives g x v e p σ o (enter nothing)
        → Answers g x r (suc d) (suc b) v e p σ (ran o (enter nothing))
    leaf D = came (record { derived = D; fits = omega arith })

    -- With one part inside.
    one : {b : ℕ} {v : Env} {e : Expr} {p : ℕ} {σ : State} {e' : Expr} {v' : Env} {h : Outcome → Outcome}
        → ((o : Outcome) (c : Cost) → Derives g x v' e' p σ o c → Derives g x v e p σ (h o) (enter c))
        → ((n s : ℕ) (c : Cost) → Cut g x r d b v' e' p σ n s c → Cut g x r (suc d) (suc b) v e p σ n s (enter c))
        → Answers g x r (suc d) (suc b) v e p σ (charge (next (f b v' e' p σ) (λ o c. ran (h o) c)))
    one rule stop =
        charge_all (next_all (hf _ _ _ _ _) (λ o c D. came (record { derived = rule o c D.derived; fits = omega arith })) stop)

    less : (b n : ℕ) → suc b - suc n ≡ b - n
    less b n = omega arith

    rounds_sound :
        (v : Env) (a k b p : ℕ) (σ : State) → b ≤ k → Answers g x r (suc d) b v (Star a) p σ (rounds (λ j q τ. f j v (node g a) q τ) k b p σ)
    unfolding rounds
    rounds_sound v a zero zero p σ h = cut no_steps
    rounds_sound v a zero (suc b) p σ h = absurd (omega arith)
    rounds_sound v a (suc k) zero p σ h = cut no_steps
    rounds_sound v a (suc k) (suc b) p σ h = go (hf b v (node g a) p σ) (λ i q τ l. rounds_sound v a k i q τ l)
      where
        more : {q : ℕ} {τ : State} {c : Cost} {s : Result} → Found g x r d b v (node g a) p σ (pass q τ) c → (t : Bool) → ltb p q ≡ t
            → Answers g x r (suc d) (suc b - suc c.steps) v (Star a) q τ s
            → Answers g x r (suc d) (suc b) v (Star a) p σ (if_consumed t p (enter c) (λ u. after (enter c) s))
        more {q} {τ} {c} D true e E = after_all _ E
            (λ o c F. record { derived = star_more D.derived (ltb-true _ _ e) F.derived; fits = omega arith })
            (λ n s e' K. cut_later D.derived D.fits (ltb-true _ _ e) (rw (less b c.steps) at K))
        more {q} D false e E = cut (empty_round D.derived D.fits (ltb-false p q e))

        go : {s : Result} → Answers g x r d b v (node g a) p σ s
            → ((i q : ℕ) (τ : State) → i ≤ k → Answers g x r (suc d) i v (Star a) q τ (rounds (λ j q τ. f j v (node g a) q τ) k i q τ))
            → Answers g x r (suc d) (suc b) v (Star a) p σ
            (next (charge s) (round p σ (λ q τ c. after c (rounds (λ j q τ. f j v (node g a) q τ) k (suc b - c.steps) q τ))))
        go (came {o = pass q τ} {c = c} D) ih = more D (ltb p q) refl (ih (suc b - suc c.steps) q τ (omega arith))
        go (came {o = fail} D) ih = came (record { derived = star_stop D.derived; fits = omega arith })
        go (cut K) ih = cut (cut_round K)

    -- Is and Isa.
    look : {b : ℕ} {v : Env} {e : Expr} {p : ℕ} {σ : State} {e' : Expr} {h : Outcome → Outcome} (t : Bool)
        → (t ≡ false → Derives g x v e p σ fail (enter nothing))
        → (t ≡ true → (o : Outcome) (c : Cost) → Derives g x v e' p σ o c → Derives g x v e p σ (h o) (enter c))
        → (t ≡ true → (n s : ℕ) (c : Cost) → Cut g x r d b v e' p σ n s c → Cut g x r (suc d) (suc b) v e p σ n s (enter c))
        → Answers g x r (suc d) (suc b) v e p σ (charge (if_any g x r t (λ u. next (f b v e' p σ) (λ o c. ran (h o) c))))
    look true none rule stop = one (rule refl) (stop refl)
    look false none rule stop = leaf (none refl)

    entered_sound : (b : ℕ) (v : Env) (e : Expr) (p : ℕ) (σ : State) → Answers g x r (suc d) (suc b) v e p σ (entered g x r f b v e p σ)
    entered_sound b v Empty p σ = leaf empty
    entered_sound b v (Byte n) p σ = leaf byte
    entered_sound b v (Range lo hi) p σ = leaf range
    entered_sound b v Any p σ = leaf any
    entered_sound b v (Text bytes) p σ = leaf text
    entered_sound b v (Sequence i j) p σ = charge_all (pass_all (hf _ _ _ _ _)
        (λ q τ c D. after_all c (hf _ _ _ _ _)
        (λ o e E. record { derived = seq_both D.derived E.derived; fits = omega arith })
        (λ n s e K. cut_second D.derived D.fits K))
        (λ c D. record { derived = seq_first D.derived; fits = omega arith })
        (λ n s c K. cut_first K))
    entered_sound b v (Choice i j) p σ = charge_all (fail_all (hf _ _ _ _ _)
        (λ c D. after_all c (hf _ _ _ _ _)
        (λ o e E. record { derived = choice_second D.derived E.derived; fits = omega arith })
        (λ n s e K. cut_other D.derived D.fits K))
        (λ q τ c D. record { derived = choice_first D.derived; fits = omega arith })
        (λ n s c K. cut_alternative K))
    entered_sound b v (Star i) p σ = rounds_sound v i (suc b) (suc b) p σ (omega arith)
    entered_sound b v (Not i) p σ = one (λ o c. not) (λ n s c. cut_not)
    entered_sound b v (Call i) p σ =
        charge_all (all_map (hf _ _ _ _ _) (λ o c D. record { derived = call D.derived; fits = omega arith }) (λ n s c. cut_call))
    entered_sound b v (Def t) p σ = charge_all (pass_all (hf _ _ _ _ _)
        (λ q τ c D. store (ltb (length σ) r) refl D)
        (λ c D. record { derived = def_fail D.derived; fits = omega arith })
        (λ n s c. cut_def))
      where
        store : {q : ℕ} {τ : State} {c : Cost} (k : Bool) → ltb (length σ) r ≡ k → Found g x r d b v (named g t) p σ (pass q τ) c
            → All (λ o c. Found g x r (suc d) (suc b) v (Def t) p σ o (enter c))
            (λ n s c. Cut g x r (suc d) (suc b) v (Def t) p σ n s (enter c)) (stored g x r k t p σ q c)
        store true e D = came (record { derived = def_pass D.derived; fits = omega (arith, ltb-true (length σ) r e) })
        store false e D = cut (no_room D.derived D.fits (ltb-false (length σ) r e))
    entered_sound b v (Match t) p σ = leaf match
    entered_sound b v (Is t) p σ = look (some (visible v t σ)) (λ e. is_none e) (λ e o c. is_some e) (λ e n s c. cut_is e)
    entered_sound b v (Isa t) p σ = look (some (visible v t σ)) (λ e. isa_none e) (λ e o c. isa_some e) (λ e n s c. cut_isa e)
    entered_sound b v (Exists t) p σ = leaf exists
    entered_sound b v (Block t i) p σ = one (λ o c. block) (λ n s c. cut_block)
    entered_sound b v (Local t i) p σ = one (λ o c. local) (λ n s c. cut_local)
    entered_sound b v (If k w) p σ = leaf if
    entered_sound b v (On k w i) p σ = one (λ o c. on) (λ n s c. cut_on)

  pub sound : (d b : ℕ) (v : Env) (e : Expr) (p : ℕ) (σ : State) → Answers g x r d b v e p σ (run g x r d b v e p σ)
  unfolding run
  sound zero zero v e p σ = cut no_steps
  sound zero (suc b) v e p σ = cut no_depth
  sound (suc d) zero v e p σ = cut no_steps
  sound (suc d) (suc b) v e p σ = entered_sound d (run g x r d) (λ b v e p σ. sound d b v e p σ) b v e p σ
