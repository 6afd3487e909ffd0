-- `kept_inside`: the symbols that remain of a derivation are parts of the input. `cut_costs`: what a run that is cut short has charged is within
-- the limits, and reaches the one that stopped it.
use Rattle.std.specs.Prelude.{ℕ, suc, ◌-◌, ◌≤◌, ◌≡◌, ◌⊎◌, length}
use Rattle.std.proofs.Common.{ap, sym, inl, inr, arith}
use Rattle.std.proofs.Math.Path.{subst}
use mathlib.Core.List.Memᴰ
use mathlib.Core.List.{List, ◌++◌, Memᴰ}
use Rattle.grammar.specs.Expr.{Expr}
use Rattle.grammar.specs.Grammar.{Grammar}
use Rattle.meaning.specs.State.{Symbol, State, Env}
use Rattle.meaning.specs.Outcome.{Outcome}
use Rattle.meaning.specs.Cost.{Cost, enter, ◌⊕◌}
use Rattle.meaning.specs.Limits.{Within}
use Rattle.meaning.specs.Rules.{Derives, empty, byte, range, any, text, seq_first, seq_both, choice_first, choice_second, star_stop, star_more, not, call, def_fail, def_pass, match, is_none, is_some, isa_none, isa_some, exists, block, local, if, on}
use Rattle.meaning.specs.Cut.{Cut, no_steps, no_depth, no_room, empty_round, cut_first, cut_second, cut_alternative, cut_other, cut_round, cut_later, cut_not, cut_call, cut_def, cut_is, cut_isa, cut_block, cut_local, cut_on}
use Rattle.meaning.specs.Kept.{kept}
use Rattle.meaning.specs.Forward.{forward, ahead_pass}
use Rattle.meaning.specs.Pilot.{not_own}

-- A symbol that is a part of an input of n bytes.
pub record Part (n : ℕ) (s : Symbol) : Type 0 where
  pub ordered : s.from ≤ s.to
  pub inside : s.to ≤ n

module _ (g : Grammar) (x : List ℕ) where
  both : {s : Symbol} (k l : State) → (Memᴰ s k → Part (length x) s) → (Memᴰ s l → Part (length x) s) → Memᴰ s (k ++ l) → Part (length x) s
  both {s} k l f h m = go (Memᴰ.append_cases k m)
    where
      go : Memᴰ s k ⊎ Memᴰ s l → Part (length x) s
      go (inl m) = f m
      go (inr m) = h m

  pub kept_inside : {v : Env} {e : Expr} {p : ℕ} {σ : State} {o : Outcome} {c : Cost} (D : Derives g x v e p σ o c) → p ≤ length x → (s : Symbol)
      → Memᴰ s (kept g x D) → Part (length x) s
  unfolding kept
  kept_inside empty h s m = elim m [ ]
  kept_inside byte h s m = elim m [ ]
  kept_inside range h s m = elim m [ ]
  kept_inside any h s m = elim m [ ]
  kept_inside text h s m = elim m [ ]
  kept_inside (seq_first D) h s m = elim m [ ]
  kept_inside (seq_both D E) h s m =
      both (kept g x D) (kept g x E) (λ m. kept_inside D h s m) (λ m. kept_inside E (ahead_pass (forward g x D h)).1 s m) m
  kept_inside (choice_first D) h s m = kept_inside D h s m
  kept_inside (choice_second D E) h s m = kept_inside E h s m
  kept_inside (star_stop D) h s m = elim m [ ]
  kept_inside (star_more D l E) h s m =
      both (kept g x D) (kept g x E) (λ m. kept_inside D h s m) (λ m. kept_inside E (ahead_pass (forward g x D h)).1 s m) m
  kept_inside (not D) h s m = elim m [ ]
  kept_inside (call D) h s m = kept_inside D h s m
  kept_inside (def_fail D) h s m = elim m [ ]
  kept_inside (def_pass D) h s m =
      let i = ahead_pass (forward g x D h) in
      subst (Part (length x)) (sym (Memᴰ.eq_of_singleton m)) (record { ordered = i.0; inside = i.1 })
  kept_inside match h s m = elim m [ ]
  kept_inside (is_none e) h s m = elim m [ ]
  kept_inside (is_some e D) h s m = elim m [ ]
  kept_inside (isa_none e) h s m = elim m [ ]
  kept_inside (isa_some e D) h s m = elim m [ ]
  kept_inside exists h s m = elim m [ ]
  kept_inside (block {t = t} D) h s m = kept_inside D h s (not_own t (kept g x D) m)
  kept_inside (local {t = t} D) h s m = kept_inside D h s (not_own t (kept g x D) m)
  kept_inside if h s m = elim m [ ]
  kept_inside (on D) h s m = elim m [ ]

  pub record Charged (d b n : ℕ) (c : Cost) : Type 0 where
    pub few_steps : c.steps ≤ b
    pub small_depth : c.depth ≤ d
    pub all_steps : n ≡ 12 → c.steps ≡ b
    pub whole_depth : n ≡ 13 → c.depth ≡ d

  deeper : {d b n : ℕ} {c : Cost} → Charged d b n c → Charged (suc d) (suc b) n (enter c)
  deeper h = record {
    few_steps = omega (arith, h.few_steps);
    small_depth = omega (arith, h.small_depth);
    all_steps = λ e. ap suc (h.all_steps e);
    whole_depth = λ e. ap suc (h.whole_depth e);
  }

  later : {d b r n : ℕ} {c e : Cost} → Within c d b r → Charged d (b - c.steps) n e → Charged (suc d) (suc b) n (enter (c ⊕ e))
  later w h = record {
    few_steps = omega (arith, w, h.few_steps);
    small_depth = omega (arith, w, h.small_depth);
    all_steps = λ e. omega (arith, w, h.all_steps e);
    whole_depth = λ e. omega (arith, w, h.whole_depth e);
  }

  later_round : {d b r n : ℕ} {c e : Cost} → Within c d b r → Charged (suc d) (b - c.steps) n e → Charged (suc d) (suc b) n (enter c ⊕ e)
  later_round w h = record {
    few_steps = omega (arith, w, h.few_steps);
    small_depth = omega (arith, w, h.small_depth);
    all_steps = λ e. omega (arith, w, h.all_steps e);
    whole_depth = λ e. omega (arith, w, h.whole_depth e);
  }

  pub cut_costs : {r d b : ℕ} {v : Env} {e : Expr} {p : ℕ} {σ : State} {n s : ℕ} {c : Cost} → Cut g x r d b v e p σ n s c → Charged d b n c
  cut_costs no_steps = omega arith
  cut_costs no_depth = omega arith
  cut_costs (no_room D w h) = omega (arith, w)
  cut_costs (empty_round D w h) = omega (arith, w)
  cut_costs (cut_first K) = deeper (cut_costs K)
  cut_costs (cut_second D w K) = later w (cut_costs K)
  cut_costs (cut_alternative K) = deeper (cut_costs K)
  cut_costs (cut_other D w K) = later w (cut_costs K)
  cut_costs (cut_round K) = deeper (cut_costs K)
  cut_costs (cut_later D w h K) = later_round w (cut_costs K)
  cut_costs (cut_not K) = deeper (cut_costs K)
  cut_costs (cut_call K) = deeper (cut_costs K)
  cut_costs (cut_def K) = deeper (cut_costs K)
  cut_costs (cut_is h K) = deeper (cut_costs K)
  cut_costs (cut_isa h K) = deeper (cut_costs K)
  cut_costs (cut_block K) = deeper (cut_costs K)
  cut_costs (cut_local K) = deeper (cut_costs K)
  cut_costs (cut_on K) = deeper (cut_costs K)
