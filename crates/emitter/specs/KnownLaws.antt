-- What the numbers that are kept of the tables say, and what storing one comes to.
use Rattle.std.specs.Prelude.{ℕ, zero, suc, ◌<◌, ◌≡◌, refl, Bool, true, false, List, [], ◌∷◌, map, eqb, get_or, set}
use Rattle.std.proofs.Common.{ap, sym, ◌∙◌, arith, eq-eqb, ne_eqb}
use Rattle.std.proofs.Math.ListN.{get_or-map}
use Rattle.notation.specs.Tree.{Name}
use Rattle.notation.specs.Naming.{member}
use Rattle.notation.specs.Compile.{place}
use Rattle.notation.specs.Patterns.{Known, none_yet, begun, ends_at, is_new, put}
use Rattle.notation.specs.PatternsLaws.{put_at, found_at}
use Rattle.notation.specs.OrderLaws.{ascending_distinct}
use Rattle.index.specs.Listed.{Ascending}
use Rattle.emitter.specs.Known.{known_of, Tells, Begins}

known_new : (n : ℕ) → n ≡ 512 → is_new (known_of n) ≡ true
unfolding known_of
known_new n e = rw (eq-eqb n 512 e)

known_old : (n : ℕ) → (n ≡ 512 → ⊥) → is_new (known_of n) ≡ false
unfolding known_of
known_old n h = go (eqb n 513) refl
  where
    go : (b : Bool) → eqb n 513 ≡ b → is_new (known_of n) ≡ false
    go true e = rw (ne_eqb n 512 h, e)
    go false e = rw (ne_eqb n 512 h, e)

known_begun : known_of 513 ≡ begun
unfolding known_of
known_begun = refl

pub known_node : (n : ℕ) → n < 512 → known_of n ≡ ends_at n
unfolding known_of
known_node n h = rw (ne_eqb n 512 (λ z. omega arith), ne_eqb n 513 (λ z. omega arith))

-- A number that stands for a node is that node.
pub node_known : (n k : ℕ) → known_of n ≡ ends_at k → n ≡ k
unfolding known_of
node_known n k e = go (eqb n 512) (eqb n 513) refl refl
  where
    go : (a b : Bool) → eqb n 512 ≡ a → eqb n 513 ≡ b → n ≡ k
    go true b x y = let z : none_yet ≡ ends_at k = sym (rw x) ∙ e in absurd (let w : ◌≡◌ {A = ℕ} 0 1 = cc in omega arith)
    go false true x y = let z : begun ≡ ends_at k = sym (rw (x, y)) ∙ e in absurd (let w : ◌≡◌ {A = ℕ} 0 1 = cc in omega arith)
    go false false x y = let z : ends_at n ≡ ends_at k = sym (rw (x, y)) ∙ e in cc

map-set : {A B : Type 0} (f : A → B) (l : List A) (i : ℕ) (v : A) → map f (set l i v) ≡ set (map f l) i (f v)
map-set f [] i v = refl
map-set f (x ∷ l) zero v = refl
map-set f (x ∷ l) (suc i) v = ap (λ r. f x ∷ r) (map-set f l i v)

module _ (was : List ℕ) (ts : List Name) (t : Name) (f : Name → Known) (T : Tells was ts f) where
  known_at : member t ts ≡ true → known_of (get_or was (place t ts) 0) ≡ f t
  known_at m =
      sym (get_or-map known_of was (place t ts) 0) ∙ ap (λ l. get_or l (place t ts) (known_of 0)) T ∙ found_at t f (known_of 0) ts m

  pub tells_put : Ascending ts → (v : ℕ) → Tells (set was (place t ts) v) ts (put t (known_of v) f)
  tells_put a v =
      map-set known_of was (place t ts) v ∙ ap (λ l. set l (place t ts) (known_of v)) T
      ∙ sym (put_at t (known_of v) f ts (ascending_distinct ts a))

module _ (was : List ℕ) (ts : List Name) (t : Name) (m : member t ts ≡ true) where
  pub begins_old : (get_or was (place t ts) 0 ≡ 512 → ⊥) → Begins was ts t was false
  begins_old h f T = (sym (ap is_new (sym (known_at was ts t f T m)) ∙ known_old (get_or was (place t ts) 0) h), T)

  pub begins_new : Ascending ts → get_or was (place t ts) 0 ≡ 512 → Begins was ts t (set was (place t ts) 513) true
  begins_new a e f T = (
    sym (ap is_new (sym (known_at was ts t f T m)) ∙ known_new (get_or was (place t ts) 0) e),
    rw known_begun at (tells_put was ts t f T a 513),
  )
