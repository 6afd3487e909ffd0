-- How the promise of `compile` is met, and that it leaves nothing open.
use Rattle.std.specs.Prelude.{ℕ, ◌≡◌, List, ◌++◌, length, drop, ◌≤◌, Bool, true, false, leb, Ok, Err}
use Rattle.std.proofs.Common.{ap, sym, ◌∙◌, subst, arith, refl, leb-true, leb-false}
use Rattle.grammar.specs.Grammar.{Grammar}
use Rattle.grammar.specs.Sound.{Bytes}
use Rattle.format.specs.Written.{encode}
use Rattle.notation.specs.Judged as answer
use Rattle.notation.specs.Said.{Says, too_long}
use Rattle.notation.specs.SaidLaws.{one_answer, taken_exactly, refused_exactly, refused_inside, good_read, good_means}
use Rattle.compiler.specs.Compiles as compiler
use Rattle.compiler.specs.CompilesLaws.{one_outcome as one_given}
use Rattle.compiler.specs.Compiles.{Compiled}
use Rattle.compiler.specs.Refusals as refusals
use Rattle.compiler.specs.declared.refusal.Refusal.{Refusal}
use Rattle.yarnspire.specs.Compile.{Compiles, number_of, length_of, at_of, ThreeNumbers}

no_way : {A : Type 0} → ◌≡◌ {A = ℕ} 0 1 → A
no_way z = absurd (omega arith)

module _ (text before after : List ℕ) where
  abbrev Given : Compiled → Type 0
  Given r = (a : answer.Answer) × Says text (length before) a × compiler.Gives a before after r

  said_written : (r : Compiled) (g : Grammar) → Given r → Says text (length before) (answer.good g) → r ≡ Ok (length (encode g))
  said_written r g (a, s, G) t = go a r (one_answer s t) G
    where
      go : (a : answer.Answer) (r : Compiled) → a ≡ answer.good g → compiler.Gives a before after r → r ≡ Ok (length (encode g))
      go (answer.good h) (Ok n) e G = let z : h ≡ g = cc in ap Ok (G.0 ∙ ap (λ g. length (encode g)) z)
      go (answer.good h) (Err f) e G = absurd G
      go (answer.refused m q) r e G = no_way (cc)

  said_refused :
      (r : Compiled) (n p : ℕ) → Given r → Says text (length before) (answer.refused n p) → (f : Refusal) × (r ≡ Err f) × (refusals.number_of f.slip ≡ n) × (f.place ≡ p)
  said_refused r n p (a, s, G) t = go a r (one_answer s t) G
    where
      go : (a : answer.Answer) (r : Compiled) → a ≡ answer.refused n p → compiler.Gives a before after r → (f : Refusal) × (r ≡ Err f) × (refusals.number_of f.slip ≡ n) × (f.place ≡ p)
      go (answer.good h) r e G = no_way (cc)
      go (answer.refused m q) (Ok k) e G = absurd G
      go (answer.refused m q) (Err f) e G = let x : m ≡ n = cc in let y : q ≡ p = cc in (f, refl, G.0 ∙ x, G.1 ∙ y)

  -- What is given tells what is said.
  written_says : (n : ℕ) → Given (Ok n) → (g : Grammar) × Says text (length before) (answer.good g) × (n ≡ length (encode g)) × (after ≡ encode g ++ drop (length (encode g)) before)
  written_says n (answer.good g, s, G) = (g, s, G.0, G.1)
  written_says n (answer.refused k p, s, G) = absurd G

  refused_says : (f : Refusal) → Given (Err f) → Says text (length before) (answer.refused (refusals.number_of f.slip) f.place) × (after ≡ before)
  refused_says f (answer.good g, s, G) = absurd G
  refused_says f (answer.refused k p, s, G) = (
    subst (λ k. Says text (length before) (answer.refused k f.place)) (sym G.0)
        (subst (λ p. Says text (length before) (answer.refused k p)) (sym G.1) s),
    G.2,
  )

  -- A place is one in a text that is read, or just behind it.
  pub place_small : {f : Refusal} → compiler.Compiles text before after (Err f) → f.place ≤ 65535
  place_small {f} c = go (leb (length text) 65535) refl
    where
      s : Says text (length before) (answer.refused (refusals.number_of f.slip) f.place)
      s = (refused_says f c.says).0

      go : (b : Bool) → leb (length text) 65535 ≡ b → f.place ≤ 65535
      go true e = omega (arith, refused_inside s, leb-true (length text) 65535 e)
      go false e = let z = one_answer s (too_long (leb-false (length text) 65535 e)) in let p : f.place ≡ 65535 = cc in omega (arith, p)

  -- THE PROMISE IS MET.
  pub compiles : Bytes text → {r : Compiled} → compiler.Compiles text before after r → Compiles text before after r
  compiles bytes {r} c = record {
    is = c;
    written = (
      λ w. let g = written_says w.0 (subst Given w.1 c.says) in (g.0, taken_exactly.0 g.1),
      λ t. (length (encode t.0), said_written r t.0 c.says (taken_exactly.1 t.1)),
    );
    image = λ n e.
        let g = written_says n (subst Given e c.says) in
        (g.0, taken_exactly.0 g.1, g.2, g.3 ∙ ap (λ k. encode g.0 ++ drop k before) (sym g.2));
    means = λ n g e t. let s = taken_exactly.1 t in (good_read bytes s, good_means s);
    refused = λ number. (
      λ w. let s = (refused_says w.0 (subst Given w.1 c.says)).0 in
          refused_exactly.0 (w.0.place, subst (λ k. Says text (length before) (answer.refused k w.0.place)) w.2 s),
      λ d. let p = refused_exactly.1 d in let s = said_refused r number p.0 c.says p.1 in (s.0, s.1, s.2),
    );
    untouched = λ f e. refused_says f (subst Given e c.says);
  }

-- `compile`: TWO OUTCOMES THAT ITS PROMISE PERMITS ARE EQUAL.
pub one_outcome : {text before after after' : List ℕ} {r r' : Compiled} → Compiles text before after r → Compiles text before after' r' → (r ≡ r') × (after ≡ after')
one_outcome h h' = one_given h.is h'.is

-- `yarnspire_compile`
pub one_triple :
    {text before after after' : List ℕ} {n n' l l' a a' : ℕ} → ThreeNumbers text before after n l a → ThreeNumbers text before after' n' l' a'
    → (n ≡ n') × (l ≡ l') × (a ≡ a') × (after ≡ after')
one_triple h h' =
    let e = one_outcome h.compiles h'.compiles in (
      h.number_is ∙ ap number_of e.0 ∙ sym h'.number_is,
      h.length_is ∙ ap length_of e.0 ∙ sym h'.length_is,
      h.at_is ∙ ap at_of e.0 ∙ sym h'.at_is,
      e.1,
    )
