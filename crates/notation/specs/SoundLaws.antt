-- THE GRAMMAR THAT A READING IS COMPILED TO IS SOUND, within 01's limits. So its image is read back as the very same.
use Rattle.std.specs.Prelude.{ℕ, ◌+◌, ◌≤◌, ◌<◌, ◌≡◌, Bool}
use Rattle.std.proofs.Math.Path.{refl}
use Rattle.std.proofs.Math.Bool.{true, false}
use mathlib.Core.List.{List, [], ◌∷◌}
use Rattle.std.proofs.Common.{arith}
use Rattle.std.proofs.Math.Dec.{leb}
use Rattle.std.proofs.Math.ListN.{length}
use Rattle.std.proofs.lemmas.List.{length-map}
use borrow.Author.Tests.{leb-true}
use Rattle.format.specs.Written.{encode}
use Rattle.grammar.specs.Grammar.{Grammar, size}
use Rattle.grammar.specs.Grammar as G
use Rattle.grammar.specs.Sound.{Bytes, Sound}
use Rattle.notation.specs.Tree.{Name, Leaf, any, quoted, class, call, query, if, def, block, local, on, Tree, leaf, prefix, suffix, binary, within, Production}
use Rattle.notation.specs.Token.{Token}
use Rattle.notation.specs.Notation.{Productions, last, more}
use Rattle.notation.specs.LexicalText.{no_way}
use Rattle.notation.specs.Naming.{per_leaf, per_operator, everywhere, table_of, table_in, condition_of, condition_in, tables, conditions, member, all}
use Rattle.notation.specs.Compile.{sorted, entry, count, emit, emit_all, roots, patterns_all, compile}
use Rattle.notation.specs.CompileLaws.{member-here, member-left, member_right, member_later, member-sorted, production_number, table_number, condition_number}
use Rattle.notation.specs.MemberLaws.{all_both}
use Rattle.notation.specs.MeansLaws.{emit_length}
use Rattle.notation.specs.FitLaws.{AllFit, fit_none, fit_append, LeafFits, TreeFits, emit_fits}
use Rattle.notation.specs.BelowLaws.{nodes_of, size_is, body_some, entry_below, first_below, roots_below, patterns_below, map_below, place_below}
use Rattle.notation.specs.ReadLaws.{LeafRead, TreeRead, AllRead, bytes_all, read_bytes}
use Rattle.notation.specs.Limits.{short, both, fits}
use Rattle.notation.specs.Text.{ReadsAs}

-- ## Every expression's own numbers fit

module _ (T C N : ℕ) (pn tn cn : Name → ℕ) (calls : (n : Name) → pn n < N) where
  leaf_fits :
      (l : Leaf) → LeafRead T C N l → all (λ b. b) (short l) ≡ true → ((t : Name) → member t (table_of l) ≡ true → tn t < T)
      → ((c : Name) → member c (condition_of l) ≡ true → cn c < C) → LeafFits T C N pn tn cn l
  unfolding all
  leaf_fits any r s t c = tt
  leaf_fits (quoted x) r s t c = (small (leb (length x) 64) refl, bytes_all x r)
    where
      small : (b : Bool) → leb (length x) 64 ≡ b → length x ≤ 64
      small true q = leb-true (length x) 64 q
      small false q = let z : false ≡ true = rw q at s in no_way (cc)
  leaf_fits (class p ps) r s t c = r
  leaf_fits (call n) r s t c = calls n
  leaf_fits (query q u) r s t c = t u (member-here u [])
  leaf_fits (if d w) r s t c = c d (member-here d [])

  tree_fits :
      (a : Tree) → TreeRead T C N a → all (λ b. b) (per_leaf short a) ≡ true → ((t : Name) → member t (per_leaf table_of a) ≡ true → tn t < T)
      → ((t : Name) → member t (per_operator table_in a) ≡ true → tn t < T) → ((c : Name) → member c (per_leaf condition_of a) ≡ true → cn c < C)
      → ((c : Name) → member c (per_operator condition_in a) ≡ true → cn c < C) → TreeFits T C N pn tn cn a
  tree_fits (leaf l) r s t u c d = leaf_fits l r s t c
  tree_fits (prefix p a) r s t u c d = tree_fits a r s t u c d
  tree_fits (suffix p a) r s t u c d = tree_fits a r s t u c d
  tree_fits (binary b x y) r s t u c d =
      let h = all_both (per_leaf short x) (per_leaf short y) s in (
        tree_fits x r.0 h.0 (λ n m. t n (member-left n (per_leaf table_of x) (per_leaf table_of y) m))
            (λ n m. u n (member-left n (per_operator table_in x) (per_operator table_in y) m))
            (λ n m. c n (member-left n (per_leaf condition_of x) (per_leaf condition_of y) m))
            (λ n m. d n (member-left n (per_operator condition_in x) (per_operator condition_in y) m)),
        tree_fits y r.1 h.1 (λ n m. t n (member_right n (per_leaf table_of x) (per_leaf table_of y) m))
            (λ n m. u n (member_right n (per_operator table_in x) (per_operator table_in y) m))
            (λ n m. c n (member_right n (per_leaf condition_of x) (per_leaf condition_of y) m))
            (λ n m. d n (member_right n (per_operator condition_in x) (per_operator condition_in y) m)),
      )
  tree_fits (within (def v) a) r s t u c d = (u v (member-here v (per_operator table_in a)), tree_fits a r s t (λ n m. u n (member_later n v (per_operator table_in a) m)) c d)
  tree_fits (within (block v) a) r s t u c d = (u v (member-here v (per_operator table_in a)), tree_fits a r s t (λ n m. u n (member_later n v (per_operator table_in a) m)) c d)
  tree_fits (within (local v) a) r s t u c d = (u v (member-here v (per_operator table_in a)), tree_fits a r s t (λ n m. u n (member_later n v (per_operator table_in a) m)) c d)
  tree_fits (within (on v w) a) r s t u c d =
      (d v (member-here v (per_operator condition_in a)), tree_fits a r s t u c (λ n m. d n (member_later n v (per_operator condition_in a) m)))

  all_fit :
      (ps : List Production) (k : ℕ) → AllRead T C N ps → all (λ b. b) (everywhere (per_leaf short) ps) ≡ true
      → ((t : Name) → member t (everywhere (per_leaf table_of) ps) ≡ true → tn t < T)
      → ((t : Name) → member t (everywhere (per_operator table_in) ps) ≡ true → tn t < T)
      → ((c : Name) → member c (everywhere (per_leaf condition_of) ps) ≡ true → cn c < C)
      → ((c : Name) → member c (everywhere (per_operator condition_in) ps) ≡ true → cn c < C) → AllFit T C N k (emit_all pn tn cn k ps)
  unfolding emit_all
  all_fit [] k r s t u c d = fit_none T C N k
  all_fit (p ∷ ps) k r s t u c d =
      let a = p.body in
      let h = all_both (per_leaf short a) (everywhere (per_leaf short) ps) s in
      fit_append T C N k (emit pn tn cn k a) (emit_all pn tn cn (k + count a) ps) (k + count a) (rw (emit_length pn tn cn k a))
      (emit_fits T C N pn tn cn k a (tree_fits a r.0 h.0
      (λ n m. t n (member-left n (per_leaf table_of a) (everywhere (per_leaf table_of) ps) m))
      (λ n m. u n (member-left n (per_operator table_in a) (everywhere (per_operator table_in) ps) m))
      (λ n m. c n (member-left n (per_leaf condition_of a) (everywhere (per_leaf condition_of) ps) m))
      (λ n m. d n (member-left n (per_operator condition_in a) (everywhere (per_operator condition_in) ps) m))))
      (all_fit ps (k + count a) r.1 h.1
      (λ n m. t n (member_right n (per_leaf table_of a) (everywhere (per_leaf table_of) ps) m))
      (λ n m. u n (member_right n (per_operator table_in a) (everywhere (per_operator table_in) ps) m))
      (λ n m. c n (member_right n (per_leaf condition_of a) (everywhere (per_leaf condition_of) ps) m))
      (λ n m. d n (member_right n (per_operator condition_in a) (everywhere (per_operator condition_in) ps) m)))

-- ## The whole

both_hold : (a b : Bool) → both a b ≡ true → (a ≡ true) × (b ≡ true)
both_hold true b e = (refl, e)
both_hold false b e = no_way (cc)

pub record Limits (ps : List Production) (g : Grammar) : Type 0 where
  pub few_tables : G.tables g ≤ 8
  pub few_conditions : g.conditions ≤ 8
  pub few_nodes : size g ≤ 512
  pub short_texts : all (λ b. b) (everywhere (per_leaf short) ps) ≡ true
  pub small_image : length (encode g) ≤ 16384

pub within_limits : (ps : List Production) (g : Grammar) → fits ps g ≡ true → Limits ps g
unfolding fits
within_limits ps g e =
    let s = all (λ b. b) (everywhere (per_leaf short) ps) in
    let i = leb (length (encode g)) 16384 in
    let n = leb (size g) 512 in
    let c = leb g.conditions 8 in
    let h = both_hold (leb (G.tables g) 8) (both c (both n (both s i))) e in
    let j = both_hold c (both n (both s i)) h.1 in
    let k = both_hold n (both s i) j.1 in
    let l = both_hold s i k.1 in
    record {
      few_tables = leb-true (G.tables g) 8 h.0;
      few_conditions = leb-true g.conditions 8 j.0;
      few_nodes = leb-true (size g) 512 k.0;
      short_texts = l.0;
      small_image = leb-true (length (encode g)) 16384 l.1;
    }

compiled_sound :
    (p : Production) (qs : List Production) → (let ps = p ∷ qs in let g = compile ps in
    AllRead (length (sorted (tables ps))) (length (sorted (conditions ps))) (nodes_of ps) ps → Limits ps g → Sound g)
unfolding compile
compiled_sound p qs r l =
    let ps = p ∷ qs in
    let g = compile ps in
    let pn = production_number ps in
    let tn = table_number ps in
    let cn = condition_number ps in
    let ts = sorted (tables ps) in
    let cs = sorted (conditions ps) in
    let some : 0 < nodes_of ps = omega (arith, body_some p) in
    let N = size_is ps in
    let T : G.tables g ≡ length ts = length-map ts (λ t. entry t (patterns_all 0 ps)) in
    let calls : (n : Name) → pn n < nodes_of ps =
    λ n. entry_below (nodes_of ps) some (roots 0 ps) n (roots_below (nodes_of ps) 0 ps (omega arith)) in
    let fit = all_fit (length ts) (length cs) (nodes_of ps) pn tn cn calls ps 0 r l.short_texts
    (λ n m. place_below n ts (member-sorted n (tables ps) (member-left n (everywhere (per_leaf table_of) ps) (everywhere (per_operator table_in) ps) m)))
    (λ n m. place_below n ts (member-sorted n (tables ps) (member_right n (everywhere (per_leaf table_of) ps) (everywhere (per_operator table_in) ps) m)))
    (λ n m. place_below n cs (member-sorted n (conditions ps) (member-left n (everywhere (per_leaf condition_of) ps) (everywhere (per_operator condition_in) ps) m)))
    (λ n m. place_below n cs (member-sorted n (conditions ps) (member_right n (everywhere (per_leaf condition_of) ps) (everywhere (per_operator condition_in) ps) m))) in
    record {
      few_tables = l.few_tables;
      few_conditions = l.few_conditions;
      some_node = rw N some;
      few_nodes = l.few_nodes;
      start_named = rw N (first_below (nodes_of ps) some (roots 0 ps) (roots_below (nodes_of ps) 0 ps (omega arith)));
      patterns_named = λ t h. rw N (map_below (nodes_of ps) (λ t. entry t (patterns_all 0 ps)) ts t some
          (λ u. entry_below (nodes_of ps) some (patterns_all 0 ps) u (patterns_below (nodes_of ps) 0 ps (omega arith))));
      operands_fit = λ n h. rw (N, T) (let z : 0 + n ≡ n = omega arith in rw z at (fit n h));
    }

-- A text of bytes within the limits has a sound grammar.
pub sound_of : (text : List ℕ) (ps : List Production) → Bytes text → ReadsAs text ps → Limits ps (compile ps) → Sound (compile ps)
sound_of text ps b r l = go ps r.derives (read_bytes (length (sorted (tables ps))) (length (sorted (conditions ps))) (nodes_of ps) text ps b r) l
  where
    go : (ps : List Production) → {ts : List Token} → Productions ts ps
        → AllRead (length (sorted (tables ps))) (length (sorted (conditions ps))) (nodes_of ps) ps → Limits ps (compile ps) → Sound (compile ps)
    go (p ∷ qs) P a l = compiled_sound p qs a l
    go [] P a l = absurd (never P refl)
      where
        never : {ts : List Token} {ps : List Production} → Productions ts ps → ps ≡ [] → ⊥
        never (last D) q = no_way (cc)
        never (more D P) q = no_way (cc)
