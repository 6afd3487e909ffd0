-- Laws of a run that carries one tally: what it says of each kind, in terms of what it says of the parts.
use Prim.Native.Nat.{ℕ, suc, pred, ◌+◌, ◌-◌, ◌≤◌, ◌<◌, max}
use Rattle.std.specs.Prelude.{◌≡◌, Bool, List, [], ◌∷◌, ◌++◌, ltb, length, take, drop, get_or}
use Rattle.std.proofs.Math.Path.{refl}
use Rattle.std.proofs.Common.{◌∙◌}
use Rattle.std.proofs.Math.Bool.{true, false}
use native.Mathlib.Omega.{arith}
use Rattle.grammar.specs.Expr.{Expr, Empty, Byte, Range, Any, Text, Sequence, Choice, Star, Not, Call, Def, Match, Is, Isa, Exists, Block, Local, If, On}
use Rattle.grammar.specs.Grammar.{Grammar, node, pattern}
use Rattle.format.specs.Reading.{pick}
use Rattle.meaning.specs.State.{State, Env, visible, hide, switch}
use Rattle.meaning.specs.Outcome.{Outcome, pass, fail, begins, some, in_range, agree, pass_if, swap, restored, closed, matched, compared}
use Rattle.meaning.specs.Cost.{Cost, nothing, enter}
use Rattle.meaning.specs.Rules.{named, symbol}
use Rattle.meaning.specs.Run.{Result, ran, refused, next, charge, after, on_pass, on_fail, if_consumed, round, stored, entered, run}
use Rattle.meaning.specs.RunLaws.{entry, without_steps, without_depth, star_round}
use Rattle.machine.specs.Told.{Told, came, stopped, carry, and_then, or_else, become, after_round, tells, rounding}

came_as : (o : Outcome) {s s' d d' : ℕ} → s ≡ s' → d ≡ d' → came o s d ≡ came o s' d'
came_as o p q = λ i. came o (p i) (q i)

stopped_as : (n p : ℕ) {s s' d d' : ℕ} → s ≡ s' → d ≡ d' → stopped n p s d ≡ stopped n p s' d'
stopped_as n p e f = λ i. stopped n p (e i) (f i)

-- An entry is charged before what stands inside; what ran before is charged before what follows.
carry_charge : (s d k : ℕ) (r : Result) → carry s d k (charge r) ≡ carry (s + 1) (max d (k + 1)) (k + 1) r
carry_charge s d k (ran o c) = came_as o (omega arith) (omega arith)
carry_charge s d k (refused n p c) = stopped_as n p (omega arith) (omega arith)

carry_after : (s d k : ℕ) (c : Cost) (r : Result) → carry s d k (after c r) ≡ carry (s + c.steps) (max d (k + c.depth)) k r
carry_after s d k c (ran o e) = came_as o (omega arith) (omega arith)
carry_after s d k c (refused n p e) = stopped_as n p (omega arith) (omega arith)

-- What costs nothing more leaves the tally.
carry_still : (s d k : ℕ) (o : Outcome) → k ≤ d → carry s d k (ran o nothing) ≡ came o s d
carry_still s d k o h = came_as o (omega arith) (omega arith)

carry_become : (s d k : ℕ) (f : Outcome → Outcome) (r : Result) → carry s d k (next r (λ o c. ran (f o) c)) ≡ become f (carry s d k r)
carry_become s d k f (ran o c) = refl
carry_become s d k f (refused n p c) = refl

module _ (g : Grammar) (x : List ℕ) (B D R : ℕ) where
  -- ## No entry

  pub tells_no_steps : (left s d : ℕ) (v : Env) (e : Expr) (p : ℕ) (σ : State) → B ≤ s → D - left ≤ d
      → tells g x B D R left s d v e p σ ≡ stopped 12 p s d
  unfolding tells
  tells_no_steps left s d v e p σ h l =
      let z : B - s ≡ 0 = omega arith in
      rw (z, without_steps g x R left v e p σ) (stopped_as 12 p (omega arith) (omega arith))

  pub tells_no_depth : (left s d : ℕ) (v : Env) (e : Expr) (p : ℕ) (σ : State) → s < B → left ≡ 0 → D ≤ d
      → tells g x B D R left s d v e p σ ≡ stopped 13 p s d
  unfolding tells
  tells_no_depth left s d v e p σ h z l =
      let w : B - s ≡ suc (B - s - 1) = omega arith in
      rw (z, w, without_depth g x R (B - s - 1) v e p σ) (stopped_as 13 p (omega arith) (omega arith))

  -- ## An entry

  module _ (left s d : ℕ) (hl : 1 ≤ left) (hd : left ≤ D) (hs : s < B) where
    abbrev inside : ℕ → Env → Expr → ℕ → State → Result
    inside = run g x R (left - 1)

    abbrev deeper : ℕ
    deeper = max d (D - (left - 1))

    -- Where entering an expression is a charge on what f gives, f goes on from the charged tally.
    enters : (v : Env) (e : Expr) (p : ℕ) (σ : State) (r : ℕ → Result)
        → ((b : ℕ) → entered g x R inside b v e p σ ≡ charge (r b))
        → tells g x B D R left s d v e p σ ≡ carry (s + 1) deeper (D - (left - 1)) (r (B - (s + 1)))
    unfolding tells
    enters v e p σ r h =
        let a : pred left ≡ left - 1 = omega arith in
        let b : pred (B - s) ≡ B - (s + 1) = omega arith in
        let k : D - left + 1 ≡ D - (left - 1) = omega arith in
        rw (entry g x R left (B - s) hl (omega arith) v e p σ, a, b, h (B - (s + 1)), carry_charge s d (D - left) (r (B - (s + 1))), k)

    leaf : (v : Env) (e : Expr) (p : ℕ) (σ : State) (o : Outcome) → ((b : ℕ) → entered g x R inside b v e p σ ≡ ran o (enter nothing))
        → tells g x B D R left s d v e p σ ≡ came o (s + 1) deeper
    leaf v e p σ o h = enters v e p σ (λ b. ran o nothing) h ∙ carry_still (s + 1) deeper (D - (left - 1)) o (omega arith)

    -- ## The kinds that run what stands inside them

    pub tells_sequence : (v : Env) (i j p : ℕ) (σ : State)
        → tells g x B D R left s d v (Sequence i j) p σ
        ≡ and_then (tells g x B D R (left - 1) (s + 1) deeper v (node g i) p σ) (λ q τ s' d'. tells g x B D R (left - 1) s' d' v (node g j) q τ)
    unfolding tells
    tells_sequence v i j p σ =
        enters v (Sequence i j) p σ (λ b. next (inside b v (node g i) p σ) (on_pass (λ q τ c. after c (inside (b - c.steps) v (node g j) q τ)))) (λ b. refl)
        ∙ go (inside (B - (s + 1)) v (node g i) p σ)
      where
        go : (r : Result)
            → carry (s + 1) deeper (D - (left - 1)) (next r (on_pass (λ q τ c. after c (inside (B - (s + 1) - c.steps) v (node g j) q τ))))
            ≡ and_then (carry (s + 1) deeper (D - (left - 1)) r)
            (λ q τ s' d'. carry s' d' (D - (left - 1)) (inside (B - s') v (node g j) q τ))
        go (ran (pass q τ) c) =
            let b : B - (s + 1) - c.steps ≡ B - (s + 1 + c.steps) = omega arith in
            rw (b, carry_after (s + 1) deeper (D - (left - 1)) c (inside (B - (s + 1 + c.steps)) v (node g j) q τ))
        go (ran fail c) = refl
        go (refused n q c) = refl

    pub tells_choice : (v : Env) (i j p : ℕ) (σ : State)
        → tells g x B D R left s d v (Choice i j) p σ
        ≡ or_else (tells g x B D R (left - 1) (s + 1) deeper v (node g i) p σ) (λ s' d'. tells g x B D R (left - 1) s' d' v (node g j) p σ)
    unfolding tells
    tells_choice v i j p σ =
        enters v (Choice i j) p σ (λ b. next (inside b v (node g i) p σ) (on_fail (λ c. after c (inside (b - c.steps) v (node g j) p σ)))) (λ b. refl)
        ∙ go (inside (B - (s + 1)) v (node g i) p σ)
      where
        go : (r : Result)
            → carry (s + 1) deeper (D - (left - 1)) (next r (on_fail (λ c. after c (inside (B - (s + 1) - c.steps) v (node g j) p σ))))
            ≡ or_else (carry (s + 1) deeper (D - (left - 1)) r) (λ s' d'. carry s' d' (D - (left - 1)) (inside (B - s') v (node g j) p σ))
        go (ran (pass q τ) c) = refl
        go (ran fail c) =
            let b : B - (s + 1) - c.steps ≡ B - (s + 1 + c.steps) = omega arith in
            rw (b, carry_after (s + 1) deeper (D - (left - 1)) c (inside (B - (s + 1 + c.steps)) v (node g j) p σ))
        go (refused n q c) = refl

    -- A Star is its first round and then, from where that came to, the Star again.
    pub tells_star : (v : Env) (a p : ℕ) (σ : State)
        → tells g x B D R left s d v (Star a) p σ ≡ rounding g x B D R (left - 1) (s + 1) deeper v a p σ
    unfolding tells
    tells_star v a p σ =
        let i : pred left ≡ left - 1 = omega arith in
        let b : pred (B - s) ≡ B - (s + 1) = omega arith in
        rw (star_round g x R left (B - s) hl (omega arith) v a p σ, i, b) (go (inside (B - (s + 1)) v (node g a) p σ))
      where
        again : (q : ℕ) (τ : State) (s' d' : ℕ) → Told
        again q τ s' d' = carry s' d' (D - (left - 1 + 1)) (run g x R (left - 1 + 1) (B - s') v (Star a) q τ)

        go : (r : Result)
            → carry s d (D - left) (next (charge r) (round p σ (λ q τ c. after c (run g x R left (B - s - c.steps) v (Star a) q τ))))
            ≡ after_round p σ (carry (s + 1) deeper (D - (left - 1)) r) again
        go (ran fail c) = came_as (pass p σ) (omega arith) (omega arith)
        go (refused n q c) = stopped_as n q (omega arith) (omega arith)
        go (ran (pass q τ) c) = consumed (ltb p q)
          where
            consumed : (t : Bool)
                → carry s d (D - left) (if_consumed t p (enter c) (λ u. after (enter c) (run g x R left (B - s - (enter c).steps) v (Star a) q τ)))
                ≡ pick t (again q τ (s + 1 + c.steps) (max deeper (D - (left - 1) + c.depth))) (stopped 15 p (s + 1 + c.steps) (max deeper (D - (left - 1) + c.depth)))
            consumed false = stopped_as 15 p (omega arith) (omega arith)
            consumed true =
                let b : B - s - suc c.steps ≡ B - (s + 1 + c.steps) = omega arith in
                let l : left - 1 + 1 ≡ left = omega arith in
                let e : s + suc c.steps ≡ s + 1 + c.steps = omega arith in
                let f : max d (D - left + suc c.depth) ≡ max deeper (D - (left - 1) + c.depth) = omega arith in
                rw (b, l, carry_after s d (D - left) (enter c) (run g x R left (B - (s + 1 + c.steps)) v (Star a) q τ), e, f)

    abbrev below : Env → ℕ → ℕ → State → Told
    below v n p σ = tells g x B D R (left - 1) (s + 1) deeper v (node g n) p σ

    within_one : (v v' : Env) (e : Expr) (n p : ℕ) (σ : State) (f : Outcome → Outcome)
        → ((b : ℕ) → entered g x R inside b v e p σ ≡ charge (next (inside b v' (node g n) p σ) (λ o c. ran (f o) c)))
        → tells g x B D R left s d v e p σ ≡ become f (below v' n p σ)
    unfolding tells
    within_one v v' e n p σ f h =
        enters v e p σ (λ b. next (inside b v' (node g n) p σ) (λ o c. ran (f o) c)) h
        ∙ carry_become (s + 1) deeper (D - (left - 1)) f (inside (B - (s + 1)) v' (node g n) p σ)

    pub tells_not : (v : Env) (a p : ℕ) (σ : State) → tells g x B D R left s d v (Not a) p σ ≡ become (swap p σ) (below v a p σ)
    tells_not v a p σ = within_one v v (Not a) a p σ (swap p σ) (λ b. refl)

    pub tells_call : (v : Env) (a p : ℕ) (σ : State) → tells g x B D R left s d v (Call a) p σ ≡ below v a p σ
    unfolding tells
    tells_call v a p σ = enters v (Call a) p σ (λ b. inside b v (node g a) p σ) (λ b. refl)

    pub tells_block :
        (v : Env) (t a p : ℕ) (σ : State) → tells g x B D R left s d v (Block t a) p σ ≡ become (closed t σ) (below v a p σ)
    tells_block v t a p σ = within_one v v (Block t a) a p σ (closed t σ) (λ b. refl)

    pub tells_local :
        (v : Env) (t a p : ℕ) (σ : State) → tells g x B D R left s d v (Local t a) p σ ≡ become (closed t σ) (below (hide v t σ) a p σ)
    tells_local v t a p σ = within_one v (hide v t σ) (Local t a) a p σ (closed t σ) (λ b. refl)

    pub tells_on : (v : Env) (k : ℕ) (w : Bool) (a p : ℕ) (σ : State)
        → tells g x B D R left s d v (On k w a) p σ ≡ become (restored σ) (below (switch v k w) a p σ)
    tells_on v k w a p σ = within_one v (switch v k w) (On k w a) a p σ (restored σ) (λ b. refl)

    -- A name that was found is stored if there is room.
    abbrev pub storing : ℕ → ℕ → State → ℕ → ℕ → ℕ → Told
    storing t p σ q s' d' = pick (ltb (length σ) R) (came (pass q (σ ++ (symbol t p q ∷ []))) s' d') (stopped 14 p s' d')

    pub tells_def : (v : Env) (t p : ℕ) (σ : State)
        → tells g x B D R left s d v (Def t) p σ ≡ and_then (tells g x B D R (left - 1) (s + 1) deeper v (named g t) p σ) (λ q τ. storing t p σ q)
    unfolding tells
    tells_def v t p σ =
        enters v (Def t) p σ (λ b. next (inside b v (named g t) p σ) (on_pass (λ q τ c. stored g x R (ltb (length σ) R) t p σ q c))) (λ b. refl)
        ∙ go (inside (B - (s + 1)) v (named g t) p σ)
      where
        go : (r : Result)
            → carry (s + 1) deeper (D - (left - 1)) (next r (on_pass (λ q τ c. stored g x R (ltb (length σ) R) t p σ q c)))
            ≡ and_then (carry (s + 1) deeper (D - (left - 1)) r) (λ q τ. storing t p σ q)
        go (ran (pass q τ) c) = kept (ltb (length σ) R)
          where
            kept : (b : Bool)
                → carry (s + 1) deeper (D - (left - 1)) (stored g x R b t p σ q c)
                ≡ pick b (came (pass q (σ ++ (symbol t p q ∷ []))) (s + 1 + c.steps) (max deeper (D - (left - 1) + c.depth)))
                (stopped 14 p (s + 1 + c.steps) (max deeper (D - (left - 1) + c.depth)))
            kept true = came_as (pass q (σ ++ (symbol t p q ∷ []))) (omega arith) (omega arith)
            kept false = refl
        go (ran fail c) = refl
        go (refused n q c) = refl

    -- Is and Isa, on an empty list and on another.
    pub data Naming (v : Env) (t : ℕ) : Expr → (State → State) → Type 0 where
      with_latest : Naming v t (Is t) (take 1)
      with_some : Naming v t (Isa t) (λ l. l)

    pub tells_none : {v : Env} {t : ℕ} {e : Expr} {f : State → State} → Naming v t e f → (p : ℕ) (σ : State)
        → some (visible v t σ) ≡ false → tells g x B D R left s d v e p σ ≡ came fail (s + 1) deeper
    tells_none {v} {t} with_latest p σ h = leaf v (Is t) p σ fail (λ b. rw h)
    tells_none {v} {t} with_some p σ h = leaf v (Isa t) p σ fail (λ b. rw h)

    pub tells_named : {v : Env} {t : ℕ} {e : Expr} {f : State → State} → Naming v t e f → (p : ℕ) (σ : State)
        → some (visible v t σ) ≡ true
        → tells g x B D R left s d v e p σ
        ≡ become (compared x p σ (f (visible v t σ))) (tells g x B D R (left - 1) (s + 1) deeper v (named g t) p σ)
    tells_named {v} {t} with_latest p σ h =
        within_one v v (Is t) (pattern g t) p σ (compared x p σ (take 1 (visible v t σ))) (λ b. rw h)
    tells_named {v} {t} with_some p σ h = within_one v v (Isa t) (pattern g t) p σ (compared x p σ (visible v t σ)) (λ b. rw h)

    -- ## The kinds that run nothing

    module _ (v : Env) (p : ℕ) (σ : State) where
      abbrev comes : Expr → Outcome → Type 0
      comes e o = tells g x B D R left s d v e p σ ≡ came o (s + 1) deeper

      pub tells_empty : comes Empty (pass p σ)
      tells_empty = leaf v Empty p σ (pass p σ) (λ b. refl)

      pub tells_byte : (n : ℕ) → comes (Byte n) (pass_if (begins (n ∷ []) (drop p x)) (p + 1) σ)
      tells_byte n = leaf v (Byte n) p σ (pass_if (begins (n ∷ []) (drop p x)) (p + 1) σ) (λ b. refl)

      pub tells_range : (lo hi : ℕ) → comes (Range lo hi) (pass_if (in_range lo hi (drop p x)) (p + 1) σ)
      tells_range lo hi = leaf v (Range lo hi) p σ (pass_if (in_range lo hi (drop p x)) (p + 1) σ) (λ b. refl)

      pub tells_any : comes Any (pass_if (some (drop p x)) (p + 1) σ)
      tells_any = leaf v Any p σ (pass_if (some (drop p x)) (p + 1) σ) (λ b. refl)

      pub tells_text : (bytes : List ℕ) → comes (Text bytes) (pass_if (begins bytes (drop p x)) (p + length bytes) σ)
      tells_text bytes = leaf v (Text bytes) p σ (pass_if (begins bytes (drop p x)) (p + length bytes) σ) (λ b. refl)

      pub tells_match : (t : ℕ) → comes (Match t) (matched x p σ (visible v t σ))
      tells_match t = leaf v (Match t) p σ (matched x p σ (visible v t σ)) (λ b. refl)

      pub tells_exists : (t : ℕ) → comes (Exists t) (pass_if (some (visible v t σ)) p σ)
      tells_exists t = leaf v (Exists t) p σ (pass_if (some (visible v t σ)) p σ) (λ b. refl)

      pub tells_if : (k : ℕ) (w : Bool) → comes (If k w) (pass_if (agree (get_or v.truths k true) w) p σ)
      tells_if k w = leaf v (If k w) p σ (pass_if (agree (get_or v.truths k true) w) p σ) (λ b. refl)
