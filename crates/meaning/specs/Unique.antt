-- `unique`: two derivations from the same start are the same derivation, their outcome and cost included.
use Rattle.std.specs.Prelude.{ℕ, ◌<◌, ◌≡◌, refl, Bool, true, false, List, [], ◌∷◌, ◌++◌, take}
use Rattle.std.proofs.Common.{ap, ◌∙◌, sym, subst, arith}
use Rattle.std.proofs.Math.Bool.{Bool-set}
use Rattle.std.proofs.Math.Bridge.{le_prop}
use Rattle.grammar.specs.Expr.{Expr, Sequence, Choice, Star, Not, Call, Def, Is, Isa, Block, Local, On}
use Rattle.grammar.specs.Grammar.{Grammar, node}
use Rattle.meaning.specs.State.{State, Env, visible}
use Rattle.meaning.specs.Outcome.{Outcome, pass, fail, swap, restored, closed, compared}
use Rattle.meaning.specs.Cost.{Cost, nothing, enter, ◌⊕◌, holding}
use Rattle.meaning.specs.Rules.{Derives, symbol, empty, byte, range, any, text, seq_first, seq_both, choice_first, choice_second, star_stop, star_more, not, call, def_fail, def_pass, match, is_none, is_some, isa_none, isa_some, exists, block, local, if, on}

pub true≢false : ◌≡◌ {A = Bool} true false → ⊥
true≢false e = let z : ◌≡◌ {A = ℕ} 0 1 = cc in omega arith

module _ (g : Grammar) (x : List ℕ) where
  -- A derivation, with its outcome and its cost.
  abbrev pub Some : Env → Expr → ℕ → State → Type 0
  Some v e p σ = (o : Outcome) × (c : Cost) × Derives g x v e p σ o c

  module _ {v : Env} {e : Expr} {p : ℕ} {σ : State} where
    abbrev Split :
        ((q : ℕ) (τ : State) (c : Cost) → Derives g x v e p σ (pass q τ) c → Type 0) → ((c : Cost) → Derives g x v e p σ fail c → Type 0)
        → (o : Outcome) (c : Cost) → Derives g x v e p σ o c → Type 0
    Split P Q (pass q τ) c D = P q τ c D
    Split P Q fail c D = Q c D

    along_pass : {q q' : ℕ} {τ τ' : State} {c c' : Cost} {D : Derives g x v e p σ (pass q τ) c} {E : Derives g x v e p σ (pass q' τ') c'}
        → ◌≡◌ {A = Some v e p σ} (pass q τ, c, D) (pass q' τ', c', E)
        → (P : (q : ℕ) (τ : State) (c : Cost) → Derives g x v e p σ (pass q τ) c → Type 0) → P q τ c D → P q' τ' c' E
    along_pass z P h = subst (λ (s : Some v e p σ). Split P (λ c D. Unit) s.0 s.1 s.2) z h

    along_fail : {c c' : Cost} {D : Derives g x v e p σ fail c} {E : Derives g x v e p σ fail c'}
        → ◌≡◌ {A = Some v e p σ} (fail, c, D) (fail, c', E) → (P : (c : Cost) → Derives g x v e p σ fail c → Type 0) → P c D → P c' E
    along_fail z P h = subst (λ (s : Some v e p σ). Split (λ q τ c D. Unit) P s.0 s.1 s.2) z h

    apart :
        {q : ℕ} {τ : State} {c c' : Cost} {D : Derives g x v e p σ (pass q τ) c} {E : Derives g x v e p σ fail c'}
        → ◌≡◌ {A = Some v e p σ} (pass q τ, c, D) (fail, c', E) → ⊥
    apart z = subst (λ (s : Some v e p σ). Split (λ q τ c D. Unit) (λ c D. ⊥) s.0 s.1 s.2) z tt

  pub unique :
      {v : Env} {e : Expr} {p : ℕ} {σ : State} {o o' : Outcome} {c c' : Cost} (D : Derives g x v e p σ o c)
      (E : Derives g x v e p σ o' c') → ◌≡◌ {A = Some v e p σ} (o, c, D) (o', c', E)
  unique empty empty = refl
  unique byte byte = refl
  unique range range = refl
  unique any any = refl
  unique text text = refl
  unique (seq_first {v = v} {a = a} {b = b} {p = p} {σ = σ} {c = c} D) (seq_first E) =
      along_fail (unique D E) (λ c' E. ◌≡◌ {A =
      Some v (Sequence a b) p σ} (fail, enter c, seq_first D) (fail, enter c', seq_first E)) refl
  unique (seq_first D) (seq_both E F) = absurd (apart (sym (unique D E)))
  unique (seq_both D F) (seq_first E) = absurd (apart (unique D E))
  unique (seq_both {v = v} {a = a} {b = b} {p = p} {σ = σ} {o = o} {c = c} {d = d} D F) (seq_both {o = o'} {d = d'} E H) =
      along_pass (unique D E) (λ q τ c' E. (H : Derives g x v (node g b) q τ o' d') → ◌≡◌ {A =
      Some v (Sequence a b) p σ} (o, enter (c ⊕ d), seq_both D F) (o', enter (c' ⊕ d'), seq_both E H))
      (λ H. ap {B = Some v (Sequence a b) p σ} (λ s. (s.0, enter (c ⊕ s.1), seq_both D s.2)) (unique F H)) H
  unique (choice_first {v = v} {a = a} {b = b} {p = p} {q = q} {σ = σ} {τ = τ} {c = c} D) (choice_first E) =
      along_pass (unique D E) (λ q' τ' c' E. ◌≡◌ {A =
      Some v (Choice a b) p σ} (pass q τ, enter c, choice_first D) (pass q' τ', enter c', choice_first E)) refl
  unique (choice_first D) (choice_second E F) = absurd (apart (unique D E))
  unique (choice_second D F) (choice_first E) = absurd (apart (sym (unique D E)))
  unique (choice_second {v = v} {a = a} {b = b} {p = p} {σ = σ} {o = o} {c = c} {d = d} D F) (choice_second {o = o'} {d = d'} E H) =
      along_fail (unique D E) (λ c' E. ◌≡◌ {A =
      Some v (Choice a b) p σ} (o, enter (c ⊕ d), choice_second D F) (o', enter (c' ⊕ d'), choice_second E H))
      (ap {B = Some v (Choice a b) p σ} (λ s. (s.0, enter (c ⊕ s.1), choice_second D s.2)) (unique F H))
  unique (star_stop {v = v} {a = a} {p = p} {σ = σ} {c = c} D) (star_stop E) =
      along_fail (unique D E) (λ c' E. ◌≡◌ {A =
      Some v (Star a) p σ} (pass p σ, enter c, star_stop D) (pass p σ, enter c', star_stop E)) refl
  unique (star_stop D) (star_more E h F) = absurd (apart (sym (unique D E)))
  unique (star_more D h F) (star_stop E) = absurd (apart (unique D E))
  unique (star_more {v = v} {a = a} {p = p} {σ = σ} {o = o} {c = c} {d = d} D h F) (star_more {o = o'} {d = d'} E h' H) =
      along_pass (unique D E) (λ q τ c' E. (h' : p < q) (H : Derives g x v (Star a) q τ o' d') → ◌≡◌ {A =
      Some v (Star a) p σ} (o, enter c ⊕ d, star_more D h F) (o', enter c' ⊕ d', star_more E h' H))
      (λ h' H. ap {B = Some v (Star a) p σ} (λ s. (s.0, enter c ⊕ s.1, star_more D h s.2)) (unique F H)
      ∙ ap {B = Some v (Star a) p σ} (λ k. (o', enter c ⊕ d', star_more D k H)) (le_prop h h')) h' H
  unique (not {v =
      v} {a = a} {p = p} {σ = σ} D) (not E) = ap {B = Some v (Not a) p σ} (λ s. (swap p σ s.0, enter s.1, not s.2)) (unique D E)
  unique (call {v =
      v} {a = a} {p = p} {σ = σ} D) (call E) = ap {B = Some v (Call a) p σ} (λ s. (s.0, enter s.1, call s.2)) (unique D E)
  unique (def_fail {v = v} {t = t} {p = p} {σ = σ} {c = c} D) (def_fail E) =
      along_fail (unique D E) (λ c' E. ◌≡◌ {A = Some v (Def t) p σ} (fail, enter c, def_fail D) (fail, enter c', def_fail E)) refl
  unique (def_fail D) (def_pass E) = absurd (apart (sym (unique D E)))
  unique (def_pass D) (def_fail E) = absurd (apart (unique D E))
  unique (def_pass {v = v} {t = t} {p = p} {q = q} {σ = σ} {c = c} D) (def_pass E) =
      along_pass (unique D E) (λ q' τ' c' E. ◌≡◌ {A =
      Some v (Def t) p σ} (pass q (σ ++ (symbol t p q ∷ [])), enter (c ⊕ holding σ), def_pass D)
      (pass q' (σ ++ (symbol t p q' ∷ [])), enter (c' ⊕ holding σ), def_pass E)) refl
  unique match match = refl
  unique (is_none {v =
      v} {t = t} {p = p} {σ = σ} h) (is_none h') = ap {B = Some v (Is t) p σ} (λ k. (fail, enter nothing, is_none k)) (Bool-set _ _ h h')
  unique (is_none h) (is_some h' E) = absurd (true≢false (sym h' ∙ h))
  unique (is_some h D) (is_none h') = absurd (true≢false (sym h ∙ h'))
  unique (is_some {v = v} {t = t} {p = p} {σ = σ} h D) (is_some {o = o'} {c = c'} h' E) =
      ap {B = Some v (Is t) p σ} (λ s. (compared x p σ (take 1 (visible v t σ)) s.0, enter s.1, is_some h s.2)) (unique D E)
      ∙ ap {B = Some v (Is t) p σ} (λ k. (compared x p σ (take 1 (visible v t σ)) o', enter c', is_some k E)) (Bool-set _ _ h h')
  unique (isa_none {v =
      v} {t = t} {p = p} {σ = σ} h) (isa_none h') = ap {B = Some v (Isa t) p σ} (λ k. (fail, enter nothing, isa_none k))
      (Bool-set _ _ h h')
  unique (isa_none h) (isa_some h' E) = absurd (true≢false (sym h' ∙ h))
  unique (isa_some h D) (isa_none h') = absurd (true≢false (sym h ∙ h'))
  unique (isa_some {v = v} {t = t} {p = p} {σ = σ} h D) (isa_some {o = o'} {c = c'} h' E) =
      ap {B = Some v (Isa t) p σ} (λ s. (compared x p σ (visible v t σ) s.0, enter s.1, isa_some h s.2)) (unique D E)
      ∙ ap {B = Some v (Isa t) p σ} (λ k. (compared x p σ (visible v t σ) o', enter c', isa_some k E)) (Bool-set _ _ h h')
  unique exists exists = refl
  unique (block {v =
      v} {t = t} {a = a} {p = p} {σ = σ} D) (block E) = ap {B = Some v (Block t a) p σ}
      (λ s. (closed t σ s.0, enter s.1, block s.2)) (unique D E)
  unique (local {v =
      v} {t = t} {a = a} {p = p} {σ = σ} D) (local E) = ap {B = Some v (Local t a) p σ}
      (λ s. (closed t σ s.0, enter s.1, local s.2)) (unique D E)
  unique if if = refl
  unique (on {v =
      v} {k = k} {a = a} {p = p} {w = w} {σ = σ} D) (on E) = ap {B = Some v (On k w a) p σ}
      (λ s. (restored σ s.0, enter s.1, on s.2)) (unique D E)
