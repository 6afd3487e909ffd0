-- Each production's own node, as a pass that weighs tokens fills them in: what is filled in, with what is still to come, is what the whole gives.
use Prim.Native.Nat.{ℕ, ◌+◌, ◌-◌, ◌≤◌}
use mathlib.Core.Path.{◌≡◌, refl, ap, sym, ◌∙◌}
use mathlib.Core.Bool.{Bool, true, false}
use mathlib.Core.List.{List, [], ◌∷◌, ◌++◌, map, append-nil}
use native.Mathlib.Omega.{arith}
use lib.Dec.{eqb}
use lib.ListN.{length, set, length-set}
use borrow.Author.Tests.{eqb-true, ne_eqb}
use Rattle.format.specs.Reading.{pick}
use Rattle.notation.specs.Tree.{Name}
use Rattle.notation.specs.Token.{bad, Lexeme}
use Rattle.notation.specs.Naming.{member}
use Rattle.notation.specs.Compile.{place, Entry}
use Rattle.notation.specs.Counts.{weight_of}
use Rattle.notation.specs.Places.{is_head}
use Rattle.naming.proofs.HeadLaws.{name_of}
use Rattle.naming.proofs.WeightLaws.{Light, light_token, light_head}
use Rattle.naming.proofs.EndLaws.{Ended, ends, endings}
use Rattle.naming.proofs.PlaceLaws.{filled}

-- What is kept of a production that has ended: its own node is the last of its nodes.
abbrev pub to_entry : Ended Name → Entry
to_entry e = record { name = e.head; number = e.nodes - 1 }

-- The nodes up to the last end.
unfoldable pub last_of : ℕ → List (Ended Name) → ℕ
last_of nodes [] = nodes
last_of nodes (e ∷ es) = last_of e.nodes es

-- ## An end, in front of others

module _ (x : Name) (k w : ℕ) where
  -- Something is open, or nothing.
  pub ends_one : (w ≡ 0 → ⊥) → ends x k w ≡ record { head = x; nodes = k + (w - 1) } ∷ []
  ends_one h = rw (ne_eqb w 0 h)

  last_ends : (es : List (Ended Name)) → last_of k (ends x k w ++ es) ≡ last_of (k + (w - 1)) es
  unfolding last_of
  last_ends es = go (eqb w 0) refl
    where
      go : (b : Bool) → eqb w 0 ≡ b → last_of k (ends x k w ++ es) ≡ last_of (k + (w - 1)) es
      go true q =
          let z : k ≡ k + (w - 1) = omega (arith, eqb-true w 0 q) in
          rw q (ap (λ n. last_of n es) z)
      go false q = rw q

module _ (ns : List Name) where
  -- The numbers with an open production's own.
  abbrev pub settled : (x : Name) (k w : ℕ) → List ℕ → List ℕ
  settled x k w numbers = pick (eqb w 0) numbers (set numbers (place x ns) (k + (w - 1) - 1))

  filled_ends :
      (x : Name) (k w : ℕ) (numbers : List ℕ) (es : List (Ended Name))
      → filled ns numbers (map to_entry (ends x k w ++ es)) ≡ filled ns (settled x k w numbers) (map to_entry es)
  unfolding filled
  filled_ends x k w numbers es = go (eqb w 0) refl
    where
      go : (b : Bool) → eqb w 0 ≡ b → filled ns numbers (map to_entry (ends x k w ++ es)) ≡ filled ns (settled x k w numbers) (map to_entry es)
      go true q = rw q
      go false q = rw q

  settled_length : (x : Name) (k w : ℕ) (numbers : List ℕ) → length (settled x k w numbers) ≡ length numbers
  settled_length x k w numbers = go (eqb w 0) refl
    where
      go : (b : Bool) → eqb w 0 ≡ b → length (settled x k w numbers) ≡ length numbers
      go true q = rw q
      go false q = rw q (length-set numbers (place x ns) (k + (w - 1) - 1))

  -- An end whose name is one of the names, and whose node is one of at most 512.
  pub record Good (e : Ended Name) : Type 0 where
    pub named : member e.head ns ≡ true
    pub some : 1 ≤ e.nodes
    pub few : e.nodes ≤ 512

  abbrev pub AllGood : List (Ended Name) → Type 0
  AllGood [] = Unit
  AllGood (e ∷ es) = Good e × AllGood es

  good_front : (es fs : List (Ended Name)) → AllGood (es ++ fs) → AllGood es
  good_front [] fs g = tt
  good_front (e ∷ es) fs g = (g.0, good_front es fs g.1)

  good_back : (es fs : List (Ended Name)) → AllGood (es ++ fs) → AllGood fs
  good_back [] fs g = g
  good_back (e ∷ es) fs g = good_back es fs g.1

  -- ## What is filled in, with what is still to come, is what the whole gives

  module _ (before : List ℕ) (whole : List (Ended Name)) where
    pub record Filling (name : Name) (nodes weight : ℕ) (numbers : List ℕ) (ls : List Lexeme) : Type 0 where
      pub light : Light nodes weight ls
      pub long : length numbers ≡ length ns
      pub good : AllGood (endings name_of name nodes weight ls)
      pub fills : filled ns numbers (map to_entry (endings name_of name nodes weight ls)) ≡ filled ns before (map to_entry whole)
      pub lasts : last_of nodes (endings name_of name nodes weight ls) ≡ last_of 0 whole

    -- The end that is next is a good one.
    module _ {name : Name} {nodes weight : ℕ} {numbers : List ℕ} where
      pub filling_open : {l : Lexeme} {ls : List Lexeme} → is_head l.token ≡ true → Filling name nodes weight numbers (l ∷ ls) → AllGood (ends name nodes weight)
      unfolding endings
      filling_open {l} {ls} e F =
          good_front (ends name nodes weight) (endings name_of (name_of l) (nodes + (weight - 1)) 0 ls) (rw e at F.good)

      pub filling_last : Filling name nodes weight numbers [] → AllGood (ends name nodes weight)
      unfolding endings
      filling_last F = F.good

    module _ {name : Name} {nodes weight : ℕ} {numbers : List ℕ} {l : Lexeme} {ls : List Lexeme} (F : Filling name nodes weight numbers (l ∷ ls)) where
      pub filling_token : is_head l.token ≡ false → {w : ℕ} → w ≡ weight_of l.token → Filling name nodes (weight + w) numbers ls
      unfolding endings
      filling_token e h =
          rw h
          (record {
            light = light_token nodes weight l ls F.light;
            long = F.long;
            good = rw e at F.good;
            fills = rw e at F.fills;
            lasts = rw e at F.lasts;
          })

      pub filling_head :
          is_head l.token ≡ true → {k : ℕ} → k ≡ nodes + (weight - 1) → {now : List ℕ} → now ≡ settled name nodes weight numbers → {m : Name} → name_of l ≡ m
          → Filling m k 0 now ls
      unfolding endings
      filling_head e h n q =
          let k = nodes + (weight - 1) in
          let later = endings name_of (name_of l) k 0 ls in
          rw (h, n, ← q)
          (record {
            light = light_head nodes weight l ls F.light;
            long = settled_length name nodes weight numbers ∙ F.long;
            good = good_back (ends name nodes weight) later (rw e at F.good);
            fills = sym (filled_ends name nodes weight numbers later) ∙ rw e at F.fills;
            lasts = sym (last_ends name nodes weight later) ∙ rw e at F.lasts;
          })

    pub filling_bad : {name : Name} {nodes weight : ℕ} {numbers : List ℕ} (l : Lexeme) → l.token ≡ bad → Filling name nodes weight numbers (l ∷ [])
        → Filling name nodes weight numbers []
    filling_bad {name} {nodes} {weight} {numbers} l e F =
        let z : weight + 0 ≡ weight = omega arith in
        rw z at (filling_token F (ap is_head e) {w = 0} (sym (ap weight_of e)))

    -- In the end all are filled in, and all nodes are counted.
    module _ {name : Name} {nodes weight : ℕ} {numbers : List ℕ} (F : Filling name nodes weight numbers []) where
      pub filling_filled : {now : List ℕ} → now ≡ settled name nodes weight numbers → now ≡ filled ns before (map to_entry whole)
      unfolding endings filled
      filling_filled e = e ∙ sym (rw append-nil at (filled_ends name nodes weight numbers [])) ∙ F.fills

      pub filling_counted : {k : ℕ} → k ≡ nodes + (weight - 1) → k ≡ last_of 0 whole
      unfolding endings last_of
      filling_counted e = e ∙ sym (rw append-nil at (last_ends name nodes weight [])) ∙ F.lasts
