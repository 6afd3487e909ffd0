-- What the pass that fills in each production's own node comes to, of a text that reads as productions.
use Prim.Native.Nat.{ℕ, ◌+◌, ◌-◌, ◌≤◌}
use mathlib.Core.Path.{◌≡◌, refl, ap, ap₂, sym, subst, ◌∙◌}
use mathlib.Core.Bool.{true}
use mathlib.Core.List.{List, [], ◌∷◌, map}
use native.Mathlib.Omega.{arith}
use lib.ListN.{length, get_or}
use Rattle.notation.specs.Tree.{Name, Production}
use Rattle.notation.specs.Token.{Lexeme, bare}
use Rattle.notation.specs.Notation.{Productions}
use Rattle.notation.specs.At.{name_at}
use Rattle.notation.specs.Lexer.{lexemes, tokens}
use Rattle.notation.specs.LexicalText.{no_way}
use Rattle.notation.specs.Text.{ReadsAs}
use Rattle.notation.specs.TextLaws.{one_reading}
use Rattle.notation.specs.Naming.{names, member, distinct}
use Rattle.notation.specs.Compile.{place, Entry, entry, count, root, roots, compile}
use Rattle.notation.specs.CompileLaws.{member-here, member_later}
use Rattle.notation.specs.FitLaws.{some_nodes}
use Rattle.notation.specs.Places.{is_head, only}
use Rattle.lexer.specs.Meant.{Lexed}
use Rattle.lexer.specs.declared.token.Token as lexer
use Rattle.notation.specs.OrderLaws.{sorted_ascending, sorted_member}
use Rattle.index.specs.Listed.{names_at, Ascending}
use Rattle.index.specs.PlaceLaws.{names_length}
use Rattle.naming.specs.Sized.{nodes_of}
use Rattle.naming.specs.SizedLaws.{size_is}
use Rattle.naming.specs.Rooted.{Rootable, Rooted, Settles}
use Rattle.naming.specs.GatheredLaws.{reading}
use Rattle.naming.specs.declared.roots.Counted.{Counted}
use Rattle.naming.proofs.HeadLaws.{name_of, named_heads, heads_length}
use Rattle.naming.proofs.WeightLaws.{light_all}
use Rattle.naming.proofs.EndLaws.{Ended, ends, endings, headed, endings_are}
use Rattle.naming.proofs.PlaceLaws.{filled, filled_all, Among}
use Rattle.naming.proofs.FirstLaws.{First, first_of}
use Rattle.naming.proofs.FillLaws.{to_entry, last_of, ends_one, Good, AllGood, Filling}

-- ## Productions with their heads

headed_good :
    (ns : List Name) (k : ℕ) (ps : List Production) (hs : List Lexeme) → k + nodes_of ps ≤ 512
    → ((n : Name) → member n (map name_of hs) ≡ true → member n ns ≡ true) → AllGood ns (headed name_of k ps hs)
unfolding headed
headed_good ns k [] hs h f = tt
headed_good ns k (p ∷ ps) [] h f = tt
headed_good ns k (p ∷ ps) (l ∷ hs) h f =
    let some = some_nodes 0 0 0 (λ n. 0) (λ n. 0) (λ n. 0) p.body in (
      record { named = f (name_of l) (member-here (name_of l) (map name_of hs)); some = omega arith; few = omega arith },
      headed_good ns (k + count p.body) ps hs (omega arith) (λ n m. f n (member_later n (name_of l) (map name_of hs) m)),
    )

headed_entries : (k : ℕ) (ps : List Production) (hs : List Lexeme) → map name_of hs ≡ names ps → map to_entry (headed name_of k ps hs) ≡ roots k ps
unfolding headed roots
headed_entries k [] hs e = refl
headed_entries k (p ∷ ps) [] e = no_way (cc)
headed_entries k (p ∷ ps) (l ∷ hs) e =
    let first : name_of l ≡ p.name = cc in
    let later : map name_of hs ≡ names ps = cc in
    ap₂ (λ n es. record { name = n; number = root k p.body } ∷ es) first (headed_entries (k + count p.body) ps hs later)

headed_last : (k : ℕ) (ps : List Production) (hs : List Lexeme) → length hs ≡ length ps → last_of k (headed name_of k ps hs) ≡ k + nodes_of ps
unfolding headed last_of
headed_last k [] hs e = omega arith
headed_last k (p ∷ ps) [] e = absurd (omega arith)
headed_last k (p ∷ ps) (l ∷ hs) e = let i = headed_last (k + count p.body) ps hs (omega arith) in omega arith

roots_names : (k : ℕ) (ps : List Production) → map (λ e. e.name) (roots k ps) ≡ names ps
unfolding roots
roots_names k [] = refl
roots_names k (p ∷ ps) = ap (λ ns. p.name ∷ ns) (roots_names (k + count p.body) ps)

-- ## A text that reads as productions of at most 512 nodes, no two of one name

-- Every entry's name is one of these, if every name of an entry is.
among_all : (ns : List Name) (es : List Entry) → ((n : Name) → member n (map (λ e. e.name) es) ≡ true → member n ns ≡ true) → Among ns es
among_all ns [] f = tt
among_all ns (e ∷ es) f =
    let named = map (λ e. e.name) es in
    (f e.name (member-here e.name named), among_all ns es (λ n m. f n (member_later n e.name named m)))

-- An end that is a good one can be settled.
pub settles :
    (text heads numbers : List ℕ) (name nodes weight : ℕ) → let ns = names_at text heads (length heads) in
    Ascending ns → nodes + weight ≤ 131070 → length numbers ≡ length ns → AllGood ns (ends (name_at text name) nodes weight)
    → Settles text heads numbers name nodes weight
settles text heads numbers name nodes weight a l e g = record {
  light = l;
  listed = λ h. record { ordered = a; named = (one h).named; long = e ∙ names_length text heads (length heads) (omega arith) };
  some = λ h. (one h).some;
  few = λ h. (one h).few;
}
  where
    one : (weight ≡ 0 → ⊥) → Good (names_at text heads (length heads)) (record { head = name_at text name; nodes = nodes + (weight - 1) })
    one h = (subst (AllGood (names_at text heads (length heads))) (ends_one (name_at text name) nodes weight h) g).0

module _ {text heads before : List ℕ} (R : Rootable text heads before) where
  abbrev ns : List Name
  ns = names_at text heads (length heads)

  abbrev ps : List Production
  ps = R.productions

  abbrev hs : List Lexeme
  hs = only is_head (lexemes text)

  derived : Productions (tokens text) ps
  derived = reading R.reads

  pub ordered : Ascending ns
  ordered = rw R.listed (sorted_ascending (names ps))

  among : (n : Name) → member n ns ≡ member n (names ps)
  among n = ap (member n) R.listed ∙ sorted_member n (names ps)

  -- The first token's name is listed.
  module _ {t : lexer.Token} (L : Lexed text 0 t) where
    leads : First (name_at text t.name) ps
    leads = first_of derived text t (ap bare (sym L.goes))

    pub first_listed : member (name_at text t.name) ns ≡ true
    first_listed = among (name_at text t.name) ∙ leads.listed

  module _ (x : Name) where
    abbrev pub whole : List (Ended Name)
    whole = endings name_of x 0 0 (lexemes text)

    whole_is : whole ≡ headed name_of 0 ps hs
    whole_is = endings_are name_of derived (lexemes text) refl x 0 0

    entries_are : map to_entry whole ≡ roots 0 ps
    entries_are = ap (map to_entry) whole_is ∙ headed_entries 0 ps hs (named_heads (lexemes text) derived)

    long : length before ≡ length ns
    long = R.long ∙ sym (names_length text heads (length heads) (omega arith))

    pub filling_all : length text ≤ 65535 → Filling ns before whole x 0 0 before (lexemes text)
    filling_all h = record {
      light = light_all text h;
      long = long;
      good = rw whole_is
          (headed_good ns 0 ps hs (omega (arith, size_is ps, R.small))
          (λ n m. among n ∙ rw (named_heads (lexemes text) derived) at m));
      fills = refl;
      lasts = refl;
    }

    -- WHAT IS FILLED IN AND COUNTED in the end, the start being the number that is kept for the first token's name.
    module _ {t : lexer.Token} (L : Lexed text 0 t) {now : List ℕ} (e : now ≡ filled ns before (map to_entry whole)) where
      each : (n : Name) → get_or now (place n ns) 0 ≡ entry n (roots 0 ps)
      each n =
          let named = roots_names 0 ps in
          ap (λ l. get_or l (place n ns) 0) (e ∙ ap (filled ns before) entries_are)
          ∙ filled_all ns before (roots 0 ps) (among_all ns (roots 0 ps) (λ n m. among n ∙ rw named at m)) (ap distinct named ∙ R.once) long
          (λ n. among n ∙ ap (member n) (sym named)) n

      pub rooted :
          {r : Counted} → r.nodes ≡ last_of 0 whole → r.start ≡ get_or now (place (name_at text t.name) ns) 0 → (qs : List Production) → ReadsAs text qs
          → Rooted text heads now r qs
      unfolding compile
      rooted {r} a b qs q =
          subst (λ qs. Rooted text heads now r qs) (one_reading text ps qs R.reads q)
          (record {
            nodes = a ∙ ap (last_of 0) whole_is ∙ headed_last 0 ps hs (heads_length (lexemes text) derived)
                ∙ omega (arith, size_is ps);
            start = b ∙ each (name_at text t.name) ∙ (leads L).said;
            each = each;
          })
