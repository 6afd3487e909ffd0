-- Laws of the walk's acts: by what is open, and by the kind of the front token.
use Prim.Native.Nat.{ℕ, zero, suc, ◌+◌, ◌-◌, ◌≤◌, ◌<◌}
use mathlib.Core.Path.{◌≡◌, refl, ◌∙◌}
use mathlib.Core.Bool.{true, false}
use mathlib.Core.List.{List, [], ◌∷◌}
use native.Mathlib.Omega.{arith}
use native.Mathlib.Numerals.{add-one}
use lib.ListN.{get_or, length, set, length-set}
use lib.Seq.{get_or-set_same, get_or-set_other}
use Rattle.std.specs.Prelude.{Some, None}
use Rattle.notation.specs.LexicalText.{no_way}
use Rattle.notation.specs.Tree.{Name, and, not, sequence, choice}
use Rattle.notation.specs.Token.{Token, head, closes, right}
use Rattle.notation.specs.Stream.{◌▸◌, ◌▸▸◌, ended, broken, Pending, bracket, angle, half, close, whole, in_bracket, in_angle, start, want, behind, stream}
use Rattle.notation.specs.StreamLaws.{top, next, closes_prefix, closes_row, closes_choice, item_leaves, alternative_leaves}
use Rattle.lexer.specs.declared.token.Kind.{Kind}
use Rattle.lexer.specs.declared.token.Leaf.{Leaf}
use Rattle.lexer.specs.declared.token.Suffix.{Suffix}
use Rattle.lexer.specs.Meant.{IsToken}
use Rattle.walker.specs.declared.act.Reach.{Reach}
use Rattle.walker.specs.declared.act.Reach.TheVariants.{Item, Alternative, End}
use Rattle.walker.specs.declared.act.Mode.TheVariants.{Start, Want, Behind}
use Rattle.walker.specs.declared.act.Open.{Open}
use Rattle.walker.specs.declared.act.Open.TheVariants.{Bracket, Angle, Choice, Sequence, And, Not}
use Rattle.walker.specs.declared.act.Act.{Act}
use Rattle.walker.specs.declared.act.Act.TheVariants.{Pop, Shift, Ended, Broken}
use Rattle.walker.specs.Acts.{Is, Follows, is_none, is_head, is_closes, is_right, is_slash, is_leaf, is_opens, is_left, is_and, is_not, is_after, is_bad, pending, IsBracket, opened, latest, reach_of, closed_by, closer_of, opened_by, Waiting, closing, puts, Acts}

-- ## What is open

pub latest_none : (h : ℕ) (s : List Open) → h ≡ 0 → Bracket ≡ latest h s
unfolding latest
latest_none h s e = rw e

pub latest_some : (h : ℕ) (s : List Open) → 1 ≤ h → get_or s (h - 1) Bracket ≡ latest h s
unfolding latest
latest_some zero s l = absurd (omega arith)
latest_some (suc h) s l = let e : suc h - 1 ≡ h = omega arith in rw e

pub opened_none : (h : ℕ) (s : List Open) → h ≡ 0 → opened h s ≡ []
unfolding opened
opened_none h s e = rw e

-- The latest, if there is one.
data Latest (h : ℕ) (s : List Open) : Type 0 where
  nothing : h ≡ 0 → latest h s ≡ Bracket → opened h s ≡ [] → Latest h s
  one : 1 ≤ h → opened h s ≡ pending (latest h s) ∷ opened (h - 1) s → Latest h s

opened_top : (h : ℕ) (s : List Open) → 1 ≤ h → opened h s ≡ pending (latest h s) ∷ opened (h - 1) s
unfolding opened latest
opened_top zero s l = absurd (omega arith)
opened_top (suc h) s l = let e : suc h - 1 ≡ h = omega arith in rw e

last : (h : ℕ) (s : List Open) → Latest h s
unfolding opened latest
last zero s = nothing refl refl refl
last (suc h) s = one (omega arith) (opened_top (suc h) s (omega arith))

opened_same : (h k : ℕ) (s : List Open) (v : Open) → h ≤ k → opened h (set s k v) ≡ opened h s
unfolding opened
opened_same zero k s v l = refl
opened_same (suc h) k s v l = rw (get_or-set_other s k h v Bracket (λ e. omega arith), opened_same h k s v (omega arith))

opened_push : (h : ℕ) (s : List Open) (v : Open) → h < length s → opened (h + 1) (set s h v) ≡ pending v ∷ opened h s
unfolding opened
opened_push h s v l = rw (add-one h) (rw (get_or-set_same s h v Bracket l, opened_same h h s v (omega arith)))

-- ## By the front token

-- Before the first production.
start_head : {t : Token} {us : List Token} → Is Kind.Head (t ∷ us) → (σ : List Pending) → stream (t ∷ us) start σ ≡ (puts t ▸▸ stream us want [])
unfolding stream puts ◌▸▸◌
start_head is_head σ = refl

start_breaks : {k : Kind} {ts : List Token} → Is k ts → (σ : List Pending) → (k ≡ Kind.Head → ⊥) → stream ts start σ ≡ broken
unfolding stream
start_breaks is_head σ n = absurd (n refl)
start_breaks I σ n = refl

-- Where an item must begin.
want_leaf : {l : Leaf} {t : Token} {us : List Token} → Is (Kind.Leaf l) (t ∷ us) → (σ : List Pending) → stream (t ∷ us) want σ ≡ (puts t ▸▸ stream us behind σ)
unfolding stream puts ◌▸▸◌
want_leaf is_leaf σ = refl

want_pushes :
    {k : Kind} {t : Token} {us : List Token} → Is k (t ∷ us) → (σ : List Pending) (o : Open) → opened_by k ≡ Some o
    → stream (t ∷ us) want σ ≡ (puts t ▸▸ stream us want (pending o ∷ σ))
unfolding stream puts ◌▸▸◌
want_pushes is_head σ o e = no_way (cc)
want_pushes is_closes σ o e = no_way (cc)
want_pushes is_right σ o e = no_way (cc)
want_pushes is_slash σ o e = no_way (cc)
want_pushes is_leaf σ o e = no_way (cc)
want_pushes is_opens σ o e = let q : o ≡ Angle = cc in rw q
want_pushes is_left σ o e = let q : o ≡ Bracket = cc in rw q
want_pushes is_and σ o e = let q : o ≡ And = cc in rw q
want_pushes is_not σ o e = let q : o ≡ Not = cc in rw q
want_pushes is_after σ o e = no_way (cc)
want_pushes is_bad σ o e = no_way (cc)

want_breaks : {k : Kind} {ts : List Token} → Is k ts → (σ : List Pending) → ((l : Leaf) → k ≡ Kind.Leaf l → ⊥) → opened_by k ≡ None → stream ts want σ ≡ broken
unfolding stream
want_breaks is_none σ n e = refl
want_breaks is_head σ n e = refl
want_breaks is_closes σ n e = refl
want_breaks is_right σ n e = refl
want_breaks is_slash σ n e = refl
want_breaks is_leaf σ n e = absurd (n _ refl)
want_breaks is_opens σ n e = no_way (cc)
want_breaks is_left σ n e = no_way (cc)
want_breaks is_and σ n e = no_way (cc)
want_breaks is_not σ n e = no_way (cc)
want_breaks is_after σ n e = refl
want_breaks is_bad σ n e = refl

-- Behind a primary: how tightly what comes next closes.
abbrev tight : Reach → ℕ
tight End = 1
tight Alternative = 2
tight Item = 3

next_is : {k : Kind} {ts : List Token} → Is k ts → Follows k → next ts ≡ tight (reach_of k)
next_is is_after f = absurd f
next_is is_bad f = absurd f
next_is I f = refl

-- It closes what binds at least as tightly.
tight_choice : (r : Reach) → closed_by r Choice ≡ true → tight r ≤ 1
tight_choice Item e = no_way (cc)
tight_choice Alternative e = no_way (cc)
tight_choice End e = omega arith

tight_row : (r : Reach) → closed_by r Sequence ≡ true → tight r ≤ 2
tight_row Item e = no_way (cc)
tight_row Alternative e = omega arith
tight_row End e = omega arith

tight_prefix : (r : Reach) → tight r ≤ 3
tight_prefix Item = omega arith
tight_prefix Alternative = omega arith
tight_prefix End = omega arith

behind_pops :
    {k : Kind} {ts : List Token} → Is k ts → Follows k → (o : Open) (σ : List Pending) → closed_by (reach_of k) o ≡ true
    → stream ts behind (pending o ∷ σ) ≡ closing (pending o) ▸ stream ts behind σ
unfolding closing
behind_pops I f Bracket σ h = no_way (cc)
behind_pops I f Angle σ h = no_way (cc)
behind_pops {k} {ts} I f Choice σ h = closes_choice ts σ (omega (arith, next_is I f, tight_choice (reach_of k) h))
behind_pops {k} {ts} I f Sequence σ h = closes_row ts σ (omega (arith, next_is I f, tight_row (reach_of k) h))
behind_pops {k} {ts} I f And σ h = closes_prefix ts and σ (omega (arith, next_is I f, tight_prefix (reach_of k)))
behind_pops {k} {ts} I f Not σ h = closes_prefix ts not σ (omega (arith, next_is I f, tight_prefix (reach_of k)))

-- What is closed waits, and what an end leaves is a bracket.
pub closed_waits : (r : Reach) (o : Open) → closed_by r o ≡ true → Waiting o
closed_waits r Bracket e = no_way (cc)
closed_waits r Angle e = no_way (cc)
closed_waits r Choice e = tt
closed_waits r Sequence e = tt
closed_waits r And e = tt
closed_waits r Not e = tt

pub left_bracket : (o : Open) → closed_by End o ≡ false → IsBracket o
left_bracket Bracket e = tt
left_bracket Angle e = tt
left_bracket Choice e = no_way (cc)
left_bracket Sequence e = no_way (cc)
left_bracket And e = no_way (cc)
left_bracket Not e = no_way (cc)

-- What is left open binds looser.
loose : (r : Reach) (h : ℕ) (s : List Open) → closed_by r (latest h s) ≡ false → top (opened h s) < tight r
loose r h s e = go (last h s)
  where
    by : (r : Reach) (o : Open) (σ : List Pending) → closed_by r o ≡ false → top (pending o ∷ σ) < tight r
    by Item Bracket σ e = omega arith
    by Item Angle σ e = omega arith
    by Item Choice σ e = omega arith
    by Item Sequence σ e = omega arith
    by Alternative Bracket σ e = omega arith
    by Alternative Angle σ e = omega arith
    by Alternative Choice σ e = omega arith
    by Alternative Sequence σ e = no_way (cc)
    by End Bracket σ e = omega arith
    by End Angle σ e = omega arith
    by End Choice σ e = no_way (cc)
    by End Sequence σ e = no_way (cc)
    by r And σ e = no_way (cc)
    by r Not σ e = no_way (cc)

    none : (r : Reach) → 0 < tight r
    none Item = omega arith
    none Alternative = omega arith
    none End = omega arith

    go : Latest h s → top (opened h s) < tight r
    go (nothing z b n) = rw n (none r)
    go (one l t) = rw t (by r (latest h s) (opened (h - 1) s) e)

-- It leaves what is looser, and is taken.
behind_after : {k : Suffix} {t : Token} {us : List Token} → Is (Kind.After k) (t ∷ us) → (σ : List Pending) → stream (t ∷ us) behind σ ≡ (puts t ▸▸ stream us behind σ)
unfolding stream puts ◌▸▸◌
behind_after is_after σ = refl

behind_slash :
    {t : Token} {us : List Token} → Is Kind.Slash (t ∷ us) → (σ : List Pending) → top σ ≤ 1 → stream (t ∷ us) behind σ ≡ (puts t ▸▸ stream us want (half choice ∷ σ))
unfolding stream puts ◌▸▸◌
behind_slash is_slash σ l = alternative_leaves σ _ l

behind_item :
    {k : Kind} {ts : List Token} → Is k ts → (σ : List Pending) → Follows k → reach_of k ≡ Item → top σ ≤ 2
    → stream ts behind σ ≡ stream ts want (half sequence ∷ σ)
unfolding stream
behind_item is_none σ f e h = no_way (cc)
behind_item is_head σ f e h = no_way (cc)
behind_item is_closes σ f e h = no_way (cc)
behind_item is_right σ f e h = no_way (cc)
behind_item is_slash σ f e h = no_way (cc)
behind_item is_leaf σ f e h = item_leaves σ _ h
behind_item is_opens σ f e h = item_leaves σ _ h
behind_item is_left σ f e h = item_leaves σ _ h
behind_item is_and σ f e h = item_leaves σ _ h
behind_item is_not σ f e h = item_leaves σ _ h
behind_item is_after σ f e h = absurd f
behind_item is_bad σ f e h = absurd f

behind_bad : {ts : List Token} → Is Kind.Bad ts → (σ : List Pending) → stream ts behind σ ≡ broken
unfolding stream
behind_bad is_bad σ = refl

-- An end, where nothing is open that it closes.
data Ends : Kind → List Token → Type 0 where
  at_none : Ends Kind.End []
  at_head : {n : Name} {ts : List Token} → Ends Kind.Head (head n ∷ ts)
  at_closes : {ts : List Token} → Ends Kind.Closes (closes ∷ ts)
  at_right : {ts : List Token} → Ends Kind.Right (right ∷ ts)

ends : {k : Kind} {ts : List Token} → Is k ts → reach_of k ≡ End → Ends k ts
ends is_none e = at_none
ends is_head e = at_head
ends is_closes e = at_closes
ends is_right e = at_right
ends is_slash e = no_way (cc)
ends is_leaf e = no_way (cc)
ends is_opens e = no_way (cc)
ends is_left e = no_way (cc)
ends is_and e = no_way (cc)
ends is_not e = no_way (cc)
ends is_after e = no_way (cc)
ends is_bad e = no_way (cc)

whole_ends : {ts : List Token} → Ends Kind.End ts → stream ts behind [] ≡ ended
unfolding stream close whole
whole_ends at_none = refl

whole_head : {t : Token} {us : List Token} → Ends Kind.Head (t ∷ us) → stream (t ∷ us) behind [] ≡ (puts t ▸▸ stream us want [])
unfolding stream puts ◌▸▸◌ close whole
whole_head at_head = refl

whole_breaks : {k : Kind} {ts : List Token} → Ends k ts → (k ≡ Kind.End → ⊥) → (k ≡ Kind.Head → ⊥) → stream ts behind [] ≡ broken
unfolding stream close in_bracket in_angle
whole_breaks at_none n m = absurd (n refl)
whole_breaks at_head n m = absurd (m refl)
whole_breaks at_closes n m = refl
whole_breaks at_right n m = refl

bracket_closes : {t : Token} {us : List Token} → Ends Kind.Right (t ∷ us) → (σ : List Pending) → stream (t ∷ us) behind (bracket ∷ σ) ≡ (puts t ▸▸ stream us behind σ)
unfolding stream puts ◌▸▸◌ close in_bracket
bracket_closes at_right σ = refl

bracket_breaks : {k : Kind} {ts : List Token} → Ends k ts → (σ : List Pending) → (k ≡ Kind.Right → ⊥) → stream ts behind (bracket ∷ σ) ≡ broken
unfolding stream close whole in_bracket in_angle
bracket_breaks at_none σ n = refl
bracket_breaks at_head σ n = refl
bracket_breaks at_closes σ n = refl
bracket_breaks at_right σ n = absurd (n refl)

angle_closes : {t : Token} {us : List Token} → Ends Kind.Closes (t ∷ us) → (σ : List Pending) → stream (t ∷ us) behind (angle ∷ σ) ≡ (puts t ▸▸ stream us behind σ)
unfolding stream puts ◌▸▸◌ close in_angle
angle_closes at_closes σ = refl

angle_breaks : {k : Kind} {ts : List Token} → Ends k ts → (σ : List Pending) → (k ≡ Kind.Closes → ⊥) → stream ts behind (angle ∷ σ) ≡ broken
unfolding stream close whole in_bracket in_angle
angle_breaks at_none σ n = refl
angle_breaks at_head σ n = refl
angle_breaks at_closes σ n = absurd (n refl)
angle_breaks at_right σ n = refl

-- Brackets and angles.
one_closes :
    {k : Kind} (o : Open) → IsBracket o → k ≡ closer_of o → {t : Token} {us : List Token} → Is k (t ∷ us) → (σ : List Pending)
    → stream (t ∷ us) behind (pending o ∷ σ) ≡ (puts t ▸▸ stream us behind σ)
one_closes Bracket b e I σ = bracket_closes (ends (rw e at I) refl) σ
one_closes Angle b e I σ = angle_closes (ends (rw e at I) refl) σ
one_closes Choice b e I σ = absurd b
one_closes Sequence b e I σ = absurd b
one_closes And b e I σ = absurd b
one_closes Not b e I σ = absurd b

one_breaks :
    {k : Kind} (o : Open) → IsBracket o → (k ≡ closer_of o → ⊥) → {ts : List Token} → Ends k ts → (σ : List Pending) → stream ts behind (pending o ∷ σ) ≡ broken
one_breaks Bracket b n E σ = bracket_breaks E σ n
one_breaks Angle b n E σ = angle_breaks E σ n
one_breaks Choice b n E σ = absurd b
one_breaks Sequence b n E σ = absurd b
one_breaks And b n E σ = absurd b
one_breaks Not b n E σ = absurd b

closer_token : (o : Open) → IsToken (closer_of o)
closer_token Bracket = refl
closer_token o = refl

-- What opens something is a token.
opens_item : (k : Kind) (o : Open) → opened_by k ≡ Some o → IsToken k
opens_item Kind.End o e = no_way (cc)
opens_item Kind.Bad o e = no_way (cc)
opens_item k o e = refl

-- ## Acts

module _ {k : Kind} (h : ℕ) (s : List Open) where
  -- Where an item must begin.
  pub leaf_taken : {l : Leaf} → k ≡ Kind.Leaf l → Acts Want h s s k (Shift Behind h)
  leaf_taken e = record {
    acts = record { taken = rw e; mode_next = omega arith; low = omega arith; goes = λ t us q. want_leaf (rw e at q) (opened h s) };
    long = refl;
  }

  pub pushes : (o : Open) → h < length s → opened_by k ≡ Some o → Acts Want h s (set s h o) k (Shift Want (h + 1))
  pushes o i e = record {
    acts = record {
      taken = opens_item k o e;
      mode_next = omega arith;
      low = omega arith;
      goes = λ t us q. rw (opened_push h s o i) (want_pushes q (opened h s) o e);
    };
    long = length-set s h o;
  }

  pub no_item : ((l : Leaf) → k ≡ Kind.Leaf l → ⊥) → opened_by k ≡ None → Acts Want h s s k Broken
  no_item n e = record { acts = λ ts q. want_breaks q (opened h s) n e; long = refl }

  -- Behind a primary, where an end comes.
  module _ (b : IsBracket (latest h s)) (some : 1 ≤ h) where
    pub bracket_closed : k ≡ closer_of (latest h s) → Acts Behind h s s k (Shift Behind (h - 1))
    bracket_closed e = record {
      acts = record {
        taken = rw e (closer_token (latest h s));
        mode_next = omega arith;
        low = omega arith;
        goes = λ t us q. rw (opened_top h s some) (one_closes (latest h s) b e q (opened (h - 1) s));
      };
      long = refl;
    }

    pub bracket_open : reach_of k ≡ End → (k ≡ closer_of (latest h s) → ⊥) → Acts Behind h s s k Broken
    bracket_open l n = record { acts = λ ts q. rw (opened_top h s some) (one_breaks (latest h s) b n (ends q l) (opened (h - 1) s)); long = refl }

  -- Behind a primary.
  pub suffix_taken : {f : Suffix} → k ≡ Kind.After f → Acts Behind h s s k (Shift Behind h)
  suffix_taken e = record {
    acts = record { taken = rw e; mode_next = omega arith; low = omega arith; goes = λ t us q. behind_after (rw e at q) (opened h s) };
    long = refl;
  }

  pub bad_breaks : k ≡ Kind.Bad → Acts Behind h s s k Broken
  bad_breaks e = record { acts = λ ts q. behind_bad (rw e at q) (opened h s); long = refl }

  pub pops : Follows k → closed_by (reach_of k) (latest h s) ≡ true → Acts Behind h s s k (Pop (latest h s))
  pops f c = go (last h s)
    where
      go : Latest h s → Acts Behind h s s k (Pop (latest h s))
      go (nothing z b n) = absurd (rw b at (closed_waits (reach_of k) (latest h s) c))
      go (one some t) = record {
        acts = record {
          follows = refl;
          some = some;
          waiting = closed_waits (reach_of k) (latest h s) c;
          same = refl;
          goes = λ ts q. rw t (behind_pops q f (latest h s) (opened (h - 1) s) c);
        };
        long = refl;
      }

  pub slash_taken : h < length s → k ≡ Kind.Slash → closed_by (reach_of k) (latest h s) ≡ false → Acts Behind h s (set s h Choice) k (Shift Want (h + 1))
  slash_taken i e c = record {
    acts = record {
      taken = rw e;
      mode_next = omega arith;
      low = omega arith;
      goes = λ t us q. rw (opened_push h s Choice i) (behind_slash (rw e at q) (opened h s) (let n = loose Alternative h s (rw e at c) in omega arith));
    };
    long = length-set s h Choice;
  }

  module _ (i : h < length s) (f : Follows k) (m : reach_of k ≡ Item) (c : closed_by (reach_of k) (latest h s) ≡ false) where
    row_begins : (ts : List Token) → Is k ts → stream ts behind (opened h s) ≡ stream ts want (opened (h + 1) (set s h Sequence))
    row_begins ts q = rw (opened_push h s Sequence i) (behind_item q (opened h s) f m (let n = loose Item h s (rw m at c) in omega arith))

    pub item_begins : {z : List Open} (a : Act) → Acts Want (h + 1) (set s h Sequence) z k a → Acts Behind h s z k a
    item_begins (Pop o) A = let z = A.acts.follows in no_way (cc)
    item_begins (Shift w g) A = let S = A.acts in record {
      acts = record { taken = S.taken; mode_next = S.mode_next; low = omega (arith, S.low); goes = λ t us q. row_begins (t ∷ us) q ∙ S.goes t us q };
      long = A.long ∙ length-set s h Sequence;
    }
    item_begins Ended A = record { acts = λ ts q. row_begins ts q ∙ A.acts ts q; long = A.long ∙ length-set s h Sequence }
    item_begins Broken A = record { acts = λ ts q. row_begins ts q ∙ A.acts ts q; long = A.long ∙ length-set s h Sequence }

-- A slash alone reaches as far as an alternative.
pub only_slash : (k : Kind) → reach_of k ≡ Alternative → k ≡ Kind.Slash
only_slash Kind.Slash e = refl
only_slash k e = no_way (cc)

-- Behind a primary, where an end comes and nothing is open.
module _ {k : Kind} (s : List Open) where
  pub all_ended : k ≡ Kind.End → Acts Behind 0 s s k Ended
  unfolding opened
  all_ended e = record { acts = λ ts q. whole_ends (ends (rw e at q) refl); long = refl }

  pub next_production : k ≡ Kind.Head → Acts Behind 0 s s k (Shift Want 0)
  unfolding opened
  next_production e = record {
    acts = record { taken = rw e; mode_next = omega arith; low = omega arith; goes = λ t us q. whole_head (ends (rw e at q) refl) };
    long = refl;
  }

  pub none_to_close : (k ≡ Kind.End → ⊥) → (k ≡ Kind.Head → ⊥) → reach_of k ≡ End → Acts Behind 0 s s k Broken
  unfolding opened
  none_to_close l m e = record { acts = λ ts q. whole_breaks (ends q e) l m; long = refl }

-- Before the first production.
module _ {k : Kind} (h : ℕ) (s : List Open) where
  pub first_production : k ≡ Kind.Head → Acts Start h s s k (Shift Want 0)
  unfolding opened
  first_production e = record {
    acts = record { taken = rw e; mode_next = omega arith; low = omega arith; goes = λ t us q. start_head (rw e at q) (opened h s) };
    long = refl;
  }

  pub no_production : (k ≡ Kind.Head → ⊥) → Acts Start h s s k Broken
  no_production n = record { acts = λ ts q. start_breaks q (opened h s) n; long = refl }
