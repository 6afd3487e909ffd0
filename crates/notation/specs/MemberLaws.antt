-- What is a member of a list of names, and what holds of all members.
use Rattle.std.specs.Prelude.{ℕ, zero, suc, ◌<◌, ◌≡◌, refl, Bool, true, false, List, [], ◌∷◌, ◌++◌, map, length, get_or}
use Rattle.std.proofs.Common.{ap, sym, ◌∙◌, arith}
use Rattle.format.specs.Reading.{pick}
use Rattle.notation.specs.Tree.{Name}
use Rattle.notation.specs.Lexer.{same}
use Rattle.notation.specs.LexicalText.{no_way}
use Rattle.notation.specs.LexicalToken.{same_true}
use Rattle.notation.specs.Naming.{member, all}
use Rattle.notation.specs.SymbolsLaws.{same_refl}
use Rattle.notation.specs.CompileLaws.{member-here, member_later}

abbrev pub either : Bool → Bool → Bool
either a b = pick a true b

-- Two truths of which each follows from the other are the same.
pub same_truth : (a b : Bool) → (a ≡ true → b ≡ true) → (b ≡ true → a ≡ true) → a ≡ b
same_truth true b f g = sym (f refl)
same_truth false true f g = g refl
same_truth false false f g = refl

either_assoc : (a b c : Bool) → either a (either b c) ≡ either (either a b) c
either_assoc true b c = refl
either_assoc false b c = refl

pub member-append : (n : Name) (xs ys : List Name) → member n (xs ++ ys) ≡ either (member n xs) (member n ys)
unfolding member
member-append n [] ys = refl
member-append n (x ∷ xs) ys =
    ap (λ b. either (same n x) b) (member-append n xs ys) ∙ either_assoc (same n x) (member n xs) (member n ys)

-- What holds of all members holds of each, and conversely.
pub all_of : (f : Name → Bool) (n : Name) (xs : List Name) → all f xs ≡ true → member n xs ≡ true → f n ≡ true
unfolding all member
all_of f n [] e m = no_way (cc)
all_of f n (x ∷ xs) e m = go (f x) (same n x) refl refl (λ d k. all_of f n xs d k)
  where
    go : (b c : Bool) → f x ≡ b → same n x ≡ c → (all f xs ≡ true → member n xs ≡ true → f n ≡ true) → f n ≡ true
    go false c p q h = let z : false ≡ true = rw p at e in no_way (cc)
    go true true p q h = rw (same_true n x q) p
    go true false p q h = h (rw p at e) (rw q at m)

pub all_from : (f : Name → Bool) (xs : List Name) → ((n : Name) → member n xs ≡ true → f n ≡ true) → all f xs ≡ true
unfolding all
all_from f [] h = refl
all_from f (x ∷ xs) h = rw (h x (member-here x xs)) (all_from f xs (λ n m. h n (member_later n x xs m)))

-- So it goes by the members alone.
abbrev pub SameMembers : List Name → List Name → Type 0
SameMembers xs ys = (n : Name) → member n xs ≡ member n ys

pub all_members : (f : Name → Bool) (xs ys : List Name) → SameMembers xs ys → all f xs ≡ all f ys
all_members f xs ys h =
    same_truth (all f xs) (all f ys) (λ e. all_from f ys (λ n m. all_of f n xs e (h n ∙ m)))
    (λ e. all_from f xs (λ n m. all_of f n ys e (sym (h n) ∙ m)))

pub all_append : {A : Type 0} (f : A → Bool) (xs ys : List A) → all f (xs ++ ys) ≡ pick (all f xs) (all f ys) false
unfolding all
all_append f [] ys = refl
all_append f (x ∷ xs) ys = ap (λ b. pick (f x) b false) (all_append f xs ys) ∙ join (f x) (all f xs) (all f ys)
  where
    join : (a b c : Bool) → pick a (pick b c false) false ≡ pick (pick a b false) c false
    join true b c = refl
    join false b c = refl

-- Of two rows of tests that hold, each holds.
pub all_both : (xs ys : List Bool) → all (λ b. b) (xs ++ ys) ≡ true → (all (λ b. b) xs ≡ true) × (all (λ b. b) ys ≡ true)
unfolding all
all_both [] ys e = (refl, e)
all_both (true ∷ xs) ys e = all_both xs ys e
all_both (false ∷ xs) ys e = no_way (cc)

pub all_map : {A B : Type 0} (f : B → Bool) (g : A → B) (xs : List A) → all f (map g xs) ≡ all (λ x. f (g x)) xs
unfolding all
all_map f g [] = refl
all_map f g (x ∷ xs) = ap (λ b. pick (f (g x)) b false) (all_map f g xs)

-- What holds of all holds at every place, and conversely.
pub all_at : {A : Type 0} (f : A → Bool) (z : A) (xs : List A) → all f xs ≡ true → (i : ℕ) → i < length xs → f (get_or xs i z) ≡ true
unfolding all
all_at f z [] e i h = absurd (omega arith)
all_at f z (x ∷ xs) e i h = go (f x) refl i h (λ d j l. all_at f z xs d j l)
  where
    go : (b : Bool) → f x ≡ b → (i : ℕ) → i < length (x ∷ xs) → (all f xs ≡ true → (j : ℕ) → j < length xs → f (get_or xs j z) ≡ true)
        → f (get_or (x ∷ xs) i z) ≡ true
    go false q i h r = let z : false ≡ true = rw q at e in no_way (cc)
    go true q zero h r = q
    go true q (suc i) h r = r (rw q at e) i (omega arith)

pub at_all : {A : Type 0} (f : A → Bool) (z : A) (xs : List A) → ((i : ℕ) → i < length xs → f (get_or xs i z) ≡ true) → all f xs ≡ true
unfolding all
at_all f z [] h = refl
at_all f z (x ∷ xs) h = rw (h 0 (omega arith)) (at_all f z xs (λ i l. h (suc i) (omega arith)))

pub same_sym : (x y : Name) → same x y ≡ same y x
same_sym x y =
    same_truth (same x y) (same y x) (λ e. rw (same_true x y e) (same_refl y)) (λ e. rw (same_true y x e) (same_refl x))
