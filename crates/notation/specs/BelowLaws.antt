-- The numbers of a grammar's nodes, tables and conditions stay below how many there are.
use Rattle.std.specs.Prelude.{ℕ, zero, suc, ◌+◌, ◌≤◌, ◌<◌, ◌≡◌, Bool, length, get_or}
use Rattle.std.proofs.Math.Path.{refl}
use Rattle.std.proofs.Math.Bool.{true, false}
use mathlib.Core.List.{List, [], ◌∷◌, ◌++◌, map}
use Rattle.std.proofs.Common.{arith, length-append}
use Rattle.grammar.specs.Grammar.{size}
use Rattle.notation.specs.Tree.{Name, def, block, local, on, Tree, leaf, prefix, suffix, binary, within, Production}
use Rattle.notation.specs.Lexer.{same}
use Rattle.notation.specs.LexicalText.{no_way}
use Rattle.notation.specs.Naming.{member}
use Rattle.notation.specs.Compile.{place, Entry, entry, count, emit, emit_all, roots, patterns_in, patterns_all, first, compile}
use Rattle.notation.specs.CompileLaws.{production_number, table_number, condition_number}
use Rattle.notation.specs.MeansLaws.{emit_length}
use Rattle.notation.specs.FitLaws.{some_nodes}

-- ## How many nodes there are

abbrev pub nodes_of : List Production → ℕ
nodes_of [] = 0
nodes_of (p ∷ ps) = count p.body + nodes_of ps

pub emitted_many : (pn tn cn : Name → ℕ) (k : ℕ) (ps : List Production) → length (emit_all pn tn cn k ps) ≡ nodes_of ps
unfolding emit_all
emitted_many pn tn cn k [] = refl
emitted_many pn tn cn k (p ∷ ps) =
    omega (
      arith,
      length-append (emit pn tn cn k p.body) (emit_all pn tn cn (k + count p.body) ps),
      emit_length pn tn cn k p.body,
      emitted_many pn tn cn (k + count p.body) ps,
    )

pub size_is : (ps : List Production) → size (compile ps) ≡ nodes_of ps
unfolding compile
size_is ps = emitted_many (production_number ps) (table_number ps) (condition_number ps) 0 ps

-- A production has one at least.
pub body_some : (p : Production) → 1 ≤ count p.body
body_some p = some_nodes 0 0 0 (λ n. 0) (λ n. 0) (λ n. 0) p.body

pub one_each : (ps : List Production) → length ps ≤ nodes_of ps
one_each [] = omega arith
one_each (p ∷ ps) = omega (arith, body_some p, one_each ps)

-- ## Every node that is named is one of them

abbrev pub Below : ℕ → List Entry → Type 0
Below B [] = Unit
Below B (e ∷ es) = (e.number < B) × Below B es

below_on : (B : ℕ) (es fs : List Entry) → Below B es → Below B fs → Below B (es ++ fs)
below_on B [] fs f g = g
below_on B (e ∷ es) fs f g = (f.0, below_on B es fs f.1 g)

module _ (B : ℕ) (h : 0 < B) where
  pub entry_below : (es : List Entry) (n : Name) → Below B es → entry n es < B
  unfolding entry
  entry_below [] n f = h
  entry_below (e ∷ es) n f = go (same n e.name) refl (entry_below es n f.1)
    where
      go : (b : Bool) → same n e.name ≡ b → entry n es < B → entry n (e ∷ es) < B
      go true q i = rw q f.0
      go false q i = rw q i

  pub first_below : (es : List Entry) → Below B es → first es < B
  unfolding first
  first_below [] f = h
  first_below (e ∷ es) f = f.0

pub roots_below : (B k : ℕ) (ps : List Production) → k + nodes_of ps ≤ B → Below B (roots k ps)
unfolding roots
roots_below B k [] h = tt
roots_below B k (p ∷ ps) h = (omega (arith, body_some p), roots_below B (k + count p.body) ps (omega arith))

patterns_in_below : (B k : ℕ) (a : Tree) → k + count a ≤ B → Below B (patterns_in k a)
unfolding patterns_in count
patterns_in_below B k (leaf l) h = tt
patterns_in_below B k (prefix p a) h = patterns_in_below B k a (omega arith)
patterns_in_below B k (suffix s a) h = patterns_in_below B k a (omega arith)
patterns_in_below B k (binary b x y) h =
    below_on B (patterns_in k x) (patterns_in (k + count x) y) (patterns_in_below B k x (omega arith)) (patterns_in_below B (k + count x) y (omega arith))
patterns_in_below B k (within (def t) a) h = (omega arith, patterns_in_below B k a (omega arith))
patterns_in_below B k (within (block t) a) h = patterns_in_below B k a (omega arith)
patterns_in_below B k (within (local t) a) h = patterns_in_below B k a (omega arith)
patterns_in_below B k (within (on c w) a) h = patterns_in_below B k a (omega arith)

pub patterns_below : (B k : ℕ) (ps : List Production) → k + nodes_of ps ≤ B → Below B (patterns_all k ps)
unfolding patterns_all
patterns_below B k [] h = tt
patterns_below B k (p ∷ ps) h =
    below_on B (patterns_in k p.body) (patterns_all (k + count p.body) ps) (patterns_in_below B k p.body (omega arith))
    (patterns_below B (k + count p.body) ps (omega arith))

pub map_below : (B : ℕ) (f : Name → ℕ) (ts : List Name) (i : ℕ) → 0 < B → ((t : Name) → f t < B) → get_or (map f ts) i 0 < B
map_below B f [] i h g = h
map_below B f (t ∷ ts) zero h g = g t
map_below B f (t ∷ ts) (suc i) h g = map_below B f ts i h g

-- ## A name that is one of some stands among them

pub place_below : (t : Name) (ts : List Name) → member t ts ≡ true → place t ts < length ts
unfolding place member
place_below t [] e = no_way (cc)
place_below t (u ∷ ts) e = go (same t u) refl (λ h. place_below t ts h)
  where
    go : (b : Bool) → same t u ≡ b → (member t ts ≡ true → place t ts < length ts) → place t (u ∷ ts) < length (u ∷ ts)
    go true q f = rw q (omega arith)
    go false q f = let h = f (rw q at e) in rw q (omega arith)
