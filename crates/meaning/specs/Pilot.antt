-- The pilot's question: may a name that was stored in an attempt that came to nothing count? No. What follows a failed alternative, a failed
-- last round or a look-ahead starts from the state before it, and a name that only an abandoned alternative defined is in no list
-- afterwards. Here what a Not keeps, and what every name in a list was; the rest in proofs/Pilot.antt.
use Rattle.std.specs.Prelude.{ℕ, zero, suc, ◌≡◌, refl, Bool, true, false, ◌↔◌, ◌⊎◌, drop, get_or, eqb}
use Rattle.std.proofs.Common.{inl, inr, arith}
use mathlib.Core.List.Memᴰ
use mathlib.Core.List.{List, [], ◌∷◌, ◌++◌, reverse, reverse-cons, Memᴰ}
use Rattle.grammar.specs.Expr.{Expr, Not}
use Rattle.grammar.specs.Grammar.{Grammar, node}
use Rattle.meaning.specs.State.{Symbol, State, Env, of_table, others, visible}
use Rattle.meaning.specs.Outcome.{Outcome, pass, fail, swap}
use Rattle.meaning.specs.Cost.{Cost, enter}
use Rattle.meaning.specs.Rules.{Derives, symbol, empty, byte, range, any, text, seq_first, seq_both, choice_first, choice_second, star_stop, star_more, not, call, def_fail, def_pass, match, is_none, is_some, isa_none, isa_some, exists, block, local, if, on}
use Rattle.meaning.specs.Kept.{kept}

module _ (g : Grammar) (x : List ℕ) where
  -- A Not passes exactly if its body fails, and then where it began and with the state that it began with, whatever its body stored.
  pub not_keeps_nothing : {v : Env} {a p q : ℕ} {σ τ : State} {d : Cost}
      → Derives g x v (Not a) p σ (pass q τ) d
      ↔ ((q ≡ p) × (τ ≡ σ) × ((c : Cost) × Derives g x v (node g a) p σ fail c × (d ≡ enter c)))
  unfolding swap
  not_keeps_nothing {v} {a} {p} {q} {σ} {τ} {d} = ((λ D. there D refl), back)
    where
      Failed : Cost → Type 0
      Failed d = (c : Cost) × Derives g x v (node g a) p σ fail c × (d ≡ enter c)

      turned : (o : Outcome) (c : Cost) → Derives g x v (node g a) p σ o c → swap p σ o ≡ pass q τ → (q ≡ p) × (τ ≡ σ) × Failed (enter c)
      turned (pass r υ) c D e = let z : ◌≡◌ {A = ℕ} 0 1 = cc in absurd (omega arith)
      turned fail c D e = (cc, cc, (c, D, refl))

      there : {o : Outcome} {d : Cost} → Derives g x v (Not a) p σ o d → o ≡ pass q τ → (q ≡ p) × (τ ≡ σ) × Failed d
      there (not {o = o} {c = c} D) e = turned o c D e

      back : (q ≡ p) × (τ ≡ σ) × Failed d → Derives g x v (Not a) p σ (pass q τ) d
      back h = rw (h.0, h.1, h.2.2) (not h.2.1)

-- ## A name in a list is a name that is held

seen_of : {s : Symbol} (t : ℕ) (σ : State) → Memᴰ s (of_table t σ) → Memᴰ s σ
seen_of t [] m = m
seen_of {s} t (a ∷ σ) m = go (eqb a.table t) (λ k. seen_of t σ k) m
  where
    further : (Memᴰ s (of_table t σ) → Memᴰ s σ) → (s ≡ a) ⊎ Memᴰ s (of_table t σ) → Memᴰ s (a ∷ σ)
    further f (inl e) = Memᴰ.head e
    further f (inr m) = Memᴰ.tail (f m)

    go :
        (b : Bool) → (Memᴰ s (of_table t σ) → Memᴰ s σ) → Memᴰ s (elim b [ true ↦ a ∷ of_table t σ | false ↦ of_table t σ ])
        → Memᴰ s (a ∷ σ)
    go true f m = further f (Memᴰ.cases_cons m)
    go false f m = Memᴰ.tail (f m)

seen_drop : {s : Symbol} (n : ℕ) (σ : State) → Memᴰ s (drop n σ) → Memᴰ s σ
seen_drop zero σ m = m
seen_drop (suc n) [] m = m
seen_drop (suc n) (a ∷ σ) m = Memᴰ.tail (seen_drop n σ m)

seen_reverse : {s : Symbol} (σ : State) → Memᴰ s (reverse σ) → Memᴰ s σ
seen_reverse [] m = m
seen_reverse {s} (a ∷ σ) m = go (λ k. seen_reverse σ k) (Memᴰ.append_cases (reverse σ) (rw reverse-cons at m))
  where
    go : (Memᴰ s (reverse σ) → Memᴰ s σ) → Memᴰ s (reverse σ) ⊎ Memᴰ s (a ∷ []) → Memᴰ s (a ∷ σ)
    go f (inl m) = Memᴰ.tail (f m)
    go f (inr m) = Memᴰ.head (Memᴰ.eq_of_singleton m)

pub listed_is_held : (v : Env) (t : ℕ) {s : Symbol} (σ : State) → Memᴰ s (visible v t σ) → Memᴰ s σ
listed_is_held v t σ m =
    seen_drop (get_or v.floors t 0) σ
    (seen_of t (drop (get_or v.floors t 0) σ) (seen_reverse (of_table t (drop (get_or v.floors t 0) σ)) m))

-- ## A name that only an abandoned alternative defined

pub not_own : {s : Symbol} (t : ℕ) (σ : State) → Memᴰ s (others t σ) → Memᴰ s σ
not_own t [] m = m
not_own {s} t (a ∷ σ) m = go (eqb a.table t) (λ k. not_own t σ k) m
  where
    further : (Memᴰ s (others t σ) → Memᴰ s σ) → (s ≡ a) ⊎ Memᴰ s (others t σ) → Memᴰ s (a ∷ σ)
    further f (inl e) = Memᴰ.head e
    further f (inr m) = Memᴰ.tail (f m)

    go :
        (b : Bool) → (Memᴰ s (others t σ) → Memᴰ s σ) → Memᴰ s (elim b [ true ↦ others t σ | false ↦ a ∷ others t σ ])
        → Memᴰ s (a ∷ σ)
    go true f m = Memᴰ.tail (f m)
    go false f m = further f (Memᴰ.cases_cons m)

none : {s : Symbol} {l : State} → Memᴰ s [] → Memᴰ s l
none m = elim m [ ]

in_left : {s : Symbol} (k l : State) → Memᴰ s k → Memᴰ s (k ++ l)
in_left [] l m = none m
in_left {s} (a ∷ k) l m = go (Memᴰ.cases_cons m) (λ m. in_left k l m)
  where
    go : (s ≡ a) ⊎ Memᴰ s k → (Memᴰ s k → Memᴰ s (k ++ l)) → Memᴰ s (a ∷ (k ++ l))
    go (inl e) f = Memᴰ.head e
    go (inr m) f = Memᴰ.tail (f m)

in_right : {s : Symbol} (k l : State) → Memᴰ s l → Memᴰ s (k ++ l)
in_right [] l m = m
in_right (a ∷ k) l m = Memᴰ.tail (in_right k l m)

either : {s : Symbol} (i j k l : State) → (Memᴰ s i → Memᴰ s k) → (Memᴰ s j → Memᴰ s l)
    → Memᴰ s (i ++ j) → Memᴰ s (k ++ l)
either {s} i j k l f h m = go (Memᴰ.append_cases i m)
  where
    go : Memᴰ s i ⊎ Memᴰ s j → Memᴰ s (k ++ l)
    go (inl m) = in_left k l (f m)
    go (inr m) = in_right k l (h m)

module _ (g : Grammar) (x : List ℕ) where
  -- Every definition that was made in a derivation, with nothing struck out.
  unfoldable pub made : {v : Env} {e : Expr} {p : ℕ} {σ : State} {o : Outcome} {c : Cost} → Derives g x v e p σ o c → State
  made empty = []
  made byte = []
  made range = []
  made any = []
  made text = []
  made (seq_first D) = made D
  made (seq_both D E) = made D ++ made E
  made (choice_first D) = made D
  made (choice_second D E) = made D ++ made E
  made (star_stop D) = made D
  made (star_more D h E) = made D ++ made E
  made (not D) = made D
  made (call D) = made D
  made (def_fail D) = made D
  made (def_pass {t = t} {p = p} {q = q} D) = made D ++ (symbol t p q ∷ [])
  made match = []
  made (is_none h) = []
  made (is_some h D) = made D
  made (isa_none h) = []
  made (isa_some h D) = made D
  made exists = []
  made (block D) = made D
  made (local D) = made D
  made if = []
  made (on D) = made D

  -- What remains was made.
  pub kept_made : {v : Env} {e : Expr} {p : ℕ} {σ : State} {o : Outcome} {c : Cost} (D : Derives g x v e p σ o c) (s : Symbol)
      → Memᴰ s (kept g x D) → Memᴰ s (made D)
  unfolding kept made
  kept_made empty s m = m
  kept_made byte s m = m
  kept_made range s m = m
  kept_made any s m = m
  kept_made text s m = m
  kept_made (seq_first D) s m = none m
  kept_made (seq_both D E) s m = either (kept g x D) (kept g x E) (made D) (made E) (λ m. kept_made D s m) (λ m. kept_made E s m) m
  kept_made (choice_first D) s m = kept_made D s m
  kept_made (choice_second D E) s m = in_right (made D) (made E) (kept_made E s m)
  kept_made (star_stop D) s m = none m
  kept_made (star_more D h E) s m = either (kept g x D) (kept g x E) (made D) (made E) (λ m. kept_made D s m) (λ m. kept_made E s m) m
  kept_made (not D) s m = none m
  kept_made (call D) s m = kept_made D s m
  kept_made (def_fail D) s m = none m
  kept_made (def_pass D) s m = in_right (made D) _ m
  kept_made match s m = m
  kept_made (is_none h) s m = m
  kept_made (is_some h D) s m = none m
  kept_made (isa_none h) s m = m
  kept_made (isa_some h D) s m = none m
  kept_made exists s m = m
  kept_made (block {t = t} D) s m = kept_made D s (not_own t (kept g x D) m)
  kept_made (local {t = t} D) s m = kept_made D s (not_own t (kept g x D) m)
  kept_made if s m = m
  kept_made (on D) s m = none m
