-- What is known of the tables behind a reading's symbols is what `compile` says.
use Rattle.std.specs.Prelude.{ℕ, suc, ◌+◌, ◌≡◌, refl, Bool, true, false, List, [], ◌∷◌, ◌++◌, map, get_or, set}
use Rattle.std.proofs.Common.{ap, ap₂, sym, ◌∙◌, append_assoc, arith}
use Rattle.std.proofs.Math.Path.{fun_ext}
use Rattle.std.proofs.lemmas.List.{map-append}
use Rattle.std.proofs.Math.Option.{Option}
use Rattle.format.specs.Reading.{pick}
use Rattle.notation.specs.Tree.{Name, Opener, def, block, local, on, Tree, leaf, prefix, suffix, binary, within, Production}
use Rattle.notation.specs.Lexer.{same}
use Rattle.notation.specs.LexicalText.{no_way}
use Rattle.notation.specs.LexicalToken.{same_true}
use Rattle.notation.specs.Stream.{Symbol, leaves, front, back, joins, post, symbols}
use Rattle.notation.specs.Naming.{per_operator, definition_in, definitions, tables, member, distinct}
use Rattle.notation.specs.Compile.{sorted, place, Entry, entry, leaf_count, prefix_count, suffix_count, count, root, defined, patterns_in, patterns_all, compile}
use Rattle.notation.specs.MemberLaws.{same_sym}
use Rattle.notation.specs.Patterns.{Known, none_yet, begun, ends_at, is_new, node_of, put, brings, note, known_behind, nothing_known}

-- ## What entries add

-- What was known before stays.
abbrev or_else : Known → Known → Known
or_else none_yet w = w
or_else begun w = begun
or_else (ends_at n) w = ends_at n

abbrev lookup : Name → List Entry → Known
lookup t [] = none_yet
lookup t (e ∷ es) = pick (same t e.name) (ends_at e.number) (lookup t es)

abbrev noted : List Entry → (Name → Known) → (Name → Known)
noted es f = λ t. or_else (f t) (lookup t es)

or_assoc : (u v w : Known) → or_else (or_else u v) w ≡ or_else u (or_else v w)
or_assoc none_yet v w = refl
or_assoc begun v w = refl
or_assoc (ends_at n) v w = refl

or_new : (v w : Known) → is_new v ≡ true → or_else v w ≡ w
or_new none_yet w e = refl
or_new begun w e = no_way (cc)
or_new (ends_at n) w e = no_way (cc)

or_old : (v w x : Known) → is_new v ≡ false → or_else v w ≡ or_else v x
or_old none_yet w x e = no_way (cc)
or_old begun w x e = refl
or_old (ends_at n) w x e = refl

or_none : (v : Known) → or_else v none_yet ≡ v
or_none none_yet = refl
or_none begun = refl
or_none (ends_at n) = refl

noted_none : (f : Name → Known) → noted [] f ≡ f
noted_none f = fun_ext (λ t. or_none (f t))

lookup_append : (t : Name) (es fs : List Entry) → lookup t (es ++ fs) ≡ or_else (lookup t es) (lookup t fs)
lookup_append t [] fs = refl
lookup_append t (e ∷ es) fs = go (same t e.name) refl (lookup_append t es fs)
  where
    go : (b : Bool) → same t e.name ≡ b → lookup t (es ++ fs) ≡ or_else (lookup t es) (lookup t fs)
        → lookup t (e ∷ (es ++ fs)) ≡ or_else (lookup t (e ∷ es)) (lookup t fs)
    go true q i = rw q
    go false q i = rw q i

noted_append : (es fs : List Entry) (f : Name → Known) → noted fs (noted es f) ≡ noted (es ++ fs) f
noted_append es fs f =
    fun_ext (λ t. or_assoc (f t) (lookup t es) (lookup t fs) ∙ ap (or_else (f t)) (sym (lookup_append t es fs)))

-- An operator that begins and ends adds its own before those inside it.
noted_within :
    (o : Opener) (n : ℕ) (es : List Entry) (f : Name → Known)
    → note (brings o f) (ends_at n) (noted es (note (brings o f) begun f)) ≡ noted (defined o n ++ es) f
noted_within (block t) n es f = refl
noted_within (local t) n es f = refl
noted_within (on c w) n es f = refl
noted_within (def t) n es f = go (is_new (f t)) refl
  where
    o : Opener
    o = def t

    go : (b : Bool) → is_new (f t) ≡ b → note (brings o f) (ends_at n) (noted es (note (brings o f) begun f)) ≡ noted (defined o n ++ es) f
    go true q = rw q (fun_ext λ u. each u (same u t) refl)
      where
        each : (u : Name) (b : Bool) → same u t ≡ b
            → pick (same t u) (ends_at n) (or_else (pick (same t u) begun (f u)) (lookup u es)) ≡ or_else (f u) (pick (same u t) (ends_at n) (lookup u es))
        each u true p = rw (same_sym t u, p, same_true u t p) (sym (or_new (f t) (ends_at n) q))
        each u false p = rw (same_sym t u, p)
    go false q = rw q (fun_ext λ u. each u (same u t) refl)
      where
        each : (u : Name) (b : Bool) → same u t ≡ b → or_else (f u) (lookup u es) ≡ or_else (f u) (pick (same u t) (ends_at n) (lookup u es))
        each u true p = or_old (f u) (lookup u es) (pick (same u t) (ends_at n) (lookup u es)) (rw (same_true u t p) q)
        each u false p = rw p

-- ## An expression's symbols add its patterns

known_post :
    (a : Tree) (ss : List Symbol) (k : ℕ) (ms : List (Option Name)) (f : Name → Known)
    → known_behind (post a ++ ss) k ms f ≡ known_behind ss (k + count a) ms (noted (patterns_in k a) f)
unfolding known_behind post count patterns_in
known_post (leaf l) ss k ms f = ap (known_behind ss (k + leaf_count l) ms) (sym (noted_none f))
known_post (prefix p a) ss k ms f =
    let e : k + (count a + prefix_count p) ≡ k + count a + prefix_count p = omega arith in
    rw (append_assoc (post a) (front p ∷ []) ss, e) (known_post a (front p ∷ ss) k ms f)
known_post (suffix s a) ss k ms f =
    let e : k + (count a + suffix_count s) ≡ k + count a + suffix_count s = omega arith in
    rw (append_assoc (post a) (back s ∷ []) ss, e) (known_post a (back s ∷ ss) k ms f)
known_post (binary b x y) ss k ms f =
    let e : k + suc (count x + count y) ≡ suc (k + count x + count y) = omega arith in
    rw (append_assoc (post x) (post y ++ (joins b ∷ [])) ss, append_assoc (post y) (joins b ∷ []) ss, e)
    (known_post x (post y ++ (joins b ∷ ss)) k ms f ∙ known_post y (joins b ∷ ss) (k + count x) ms (noted (patterns_in k x) f)
    ∙ ap (known_behind ss (suc (k + count x + count y)) ms) (noted_append (patterns_in k x) (patterns_in (k + count x) y) f))
known_post (within o a) ss k ms f =
    let e : k + suc (count a) ≡ suc (k + count a) = omega arith in
    rw (append_assoc (post a) (leaves ∷ []) ss, e)
    (known_post a (leaves ∷ ss) k (brings o f ∷ ms) (note (brings o f) begun f)
    ∙ ap (known_behind ss (suc (k + count a)) ms) (noted_within o (root k a) (patterns_in k a) f))

known_symbols : (ps : List Production) (k : ℕ) (ms : List (Option Name)) (f : Name → Known) → known_behind (symbols ps) k ms f ≡ noted (patterns_all k ps) f
unfolding known_behind symbols patterns_all
known_symbols [] k ms f = sym (noted_none f)
known_symbols (p ∷ ps) k ms f =
    known_post p.body (symbols ps) k [] f ∙ known_symbols ps (k + count p.body) [] (noted (patterns_in k p.body) f)
    ∙ noted_append (patterns_in k p.body) (patterns_all (k + count p.body) ps) f

-- ## At the end

lookup_entry : (t : Name) (es : List Entry) → node_of (lookup t es) ≡ entry t es
unfolding entry
lookup_entry t [] = refl
lookup_entry t (e ∷ es) = go (same t e.name) refl (lookup_entry t es)
  where
    go : (b : Bool) → same t e.name ≡ b → node_of (lookup t es) ≡ entry t es → node_of (lookup t (e ∷ es)) ≡ entry t (e ∷ es)
    go true q i = rw q
    go false q i = rw q i

lookup_found : (t : Name) (es : List Entry) → member t (map (λ e. e.name) es) ≡ true → lookup t es ≡ ends_at (entry t es)
unfolding entry member
lookup_found t [] m = no_way (cc)
lookup_found t (e ∷ es) m = go (same t e.name) refl (λ h. lookup_found t es h)
  where
    go : (b : Bool) → same t e.name ≡ b → (member t (map (λ e. e.name) es) ≡ true → lookup t es ≡ ends_at (entry t es))
        → lookup t (e ∷ es) ≡ ends_at (entry t (e ∷ es))
    go true q i = rw q
    go false q i = rw q (i (rw q at m))

-- The patterns are in one order with the definitions.
named_in : (k : ℕ) (a : Tree) → map (λ e. e.name) (patterns_in k a) ≡ map (λ d. d.table) (per_operator definition_in a)
unfolding patterns_in
named_in k (leaf l) = refl
named_in k (prefix p a) = named_in k a
named_in k (suffix s a) = named_in k a
named_in k (binary b x y) =
    map-append (λ e. e.name) (patterns_in k x) (patterns_in (k + count x) y) ∙ ap₂ (λ l r. l ++ r) (named_in k x) (named_in (k + count x) y)
    ∙ sym (map-append (λ d. d.table) (per_operator definition_in x) (per_operator definition_in y))
named_in k (within (def t) a) = ap (λ l. t ∷ l) (named_in k a)
named_in k (within (block t) a) = named_in k a
named_in k (within (local t) a) = named_in k a
named_in k (within (on c w) a) = named_in k a

named_all : (k : ℕ) (ps : List Production) → map (λ e. e.name) (patterns_all k ps) ≡ map (λ d. d.table) (definitions ps)
unfolding patterns_all
named_all k [] = refl
named_all k (p ∷ ps) =
    map-append (λ e. e.name) (patterns_in k p.body) (patterns_all (k + count p.body) ps)
    ∙ ap₂ (λ l r. l ++ r) (named_in k p.body) (named_all (k + count p.body) ps)
    ∙ sym (map-append (λ d. d.table) (per_operator definition_in p.body) (definitions ps))

-- A TABLE THAT HAS A DEF has the node of the first to begin.
pub pattern_known :
    (ps : List Production) (t : Name) → member t (map (λ d. d.table) (definitions ps)) ≡ true
    → known_behind (symbols ps) 0 [] nothing_known t ≡ ends_at (entry t (patterns_all 0 ps))
pattern_known ps t m =
    ap (λ f. f t) (known_symbols ps 0 [] nothing_known) ∙ lookup_found t (patterns_all 0 ps) (rw (named_all 0 ps) m)

pub pattern_node : (ps : List Production) (t : Name) → node_of (known_behind (symbols ps) 0 [] nothing_known t) ≡ entry t (patterns_all 0 ps)
pattern_node ps t = ap (λ f. node_of (f t)) (known_symbols ps 0 [] nothing_known) ∙ lookup_entry t (patterns_all 0 ps)

-- THE PATTERNS that `compile` writes.
pub patterns_are :
    (ps : List Production) → (compile ps).patterns ≡ map (λ t. node_of (known_behind (symbols ps) 0 [] nothing_known t)) (sorted (tables ps))
unfolding compile
patterns_are ps = ap (λ f. map f (sorted (tables ps))) (fun_ext (λ t. sym (pattern_node ps t)))

-- ## Kept in a list, by the places of the tables

put_none : (t : Name) (v : Known) (f : Name → Known) (ts : List Name) → member t ts ≡ false → map (put t v f) ts ≡ map f ts
unfolding member
put_none t v f [] e = refl
put_none t v f (u ∷ ts) e = go (same t u) refl (λ h. put_none t v f ts h)
  where
    go : (b : Bool) → same t u ≡ b → (member t ts ≡ false → map (put t v f) ts ≡ map f ts) → map (put t v f) (u ∷ ts) ≡ map f (u ∷ ts)
    go true q i = let z : true ≡ false = rw q at e in no_way (cc)
    go false q i = rw q (ap (λ l. f u ∷ l) (i (rw q at e)))

-- What is put of a table is stored at its place.
pub put_at : (t : Name) (v : Known) (f : Name → Known) (ts : List Name) → distinct ts ≡ true → map (put t v f) ts ≡ set (map f ts) (place t ts) v
unfolding place distinct
put_at t v f [] d = refl
put_at t v f (u ∷ ts) d = go (same t u) (member u ts) refl refl (λ h. put_at t v f ts h)
  where
    go : (b c : Bool) → same t u ≡ b → member u ts ≡ c → (distinct ts ≡ true → map (put t v f) ts ≡ set (map f ts) (place t ts) v)
        → map (put t v f) (u ∷ ts) ≡ set (map f (u ∷ ts)) (place t (u ∷ ts)) v
    go b true q m i = let z : false ≡ true = rw m at d in no_way (cc)
    go true false q m i = rw q (ap (λ l. v ∷ l) (put_none t v f ts (rw (same_true t u q) m)))
    go false false q m i = rw q (ap (λ l. f u ∷ l) (i (rw m at d)))

-- And is found there.
pub found_at : (t : Name) (f : Name → Known) (z : Known) (ts : List Name) → member t ts ≡ true → get_or (map f ts) (place t ts) z ≡ f t
unfolding place member
found_at t f z [] m = no_way (cc)
found_at t f z (u ∷ ts) m = go (same t u) refl (λ h. found_at t f z ts h)
  where
    go : (b : Bool) → same t u ≡ b → (member t ts ≡ true → get_or (map f ts) (place t ts) z ≡ f t) → get_or (map f (u ∷ ts)) (place t (u ∷ ts)) z ≡ f t
    go true q i = rw q (ap f (sym (same_true t u q)))
    go false q i = rw q (i (rw q at m))
