-- How many bytes a token takes: two for each name that it defines, and one for each two nodes that it weighs. So a text names at most half as
-- many things as it has bytes, and weighs at most twice as much.
use Prim.Native.Nat.{ℕ, zero, suc, ◌+◌, ◌*◌, ◌≤◌}
use Rattle.std.specs.Prelude.{◌≡◌}
use Rattle.std.proofs.Math.Path.{refl}
use mathlib.Core.List.{List, [], ◌∷◌}
use Rattle.std.proofs.Common.{arith, length-append}
use Rattle.std.proofs.Math.ListN.{length}
use Rattle.notation.specs.Tree.{Name}
use Rattle.notation.specs.Token.{Token, bad, bare}
use Rattle.notation.specs.Lexical.{Gap, a_def, a_block, a_local, Spelled, a_head, a_call, a_dot, a_text, a_class, a_query, an_if, an_opener, an_on, a_greater, a_left, a_right, a_slash, an_and, a_not, an_option, a_star, a_plus}
use Rattle.notation.specs.LexicalText.{Yields, yields}
use Rattle.notation.specs.LexicalGap.{Gives, gives, gap_sound}
use Rattle.notation.specs.LexicalToken.{token_sound}
use Rattle.notation.specs.ShorterLaws.{gap_shorter, named_shorter, chars_shorter, parts_shorter, then_named, then_sign, then_truth}
use Rattle.notation.specs.Lexer.{Piece, piece, no, Skipped, past, unclosed, gap, token, lexed, lexemes, tokens}
use Rattle.notation.specs.Counts.{weight_of, weight_in}
use Rattle.notation.specs.Uses.{per_token, head_of, def_of, switch_of}

-- ## Each token

-- The names that a token defines, or that are a condition's.
abbrev pub defines : Token → ℕ
defines t = length (head_of t) + length (def_of t) + length (switch_of t)

pub record Takes (t : Token) (s r : List ℕ) : Type 0 where
  pub weight : weight_of t + 2 * length r ≤ 2 * length s
  pub names : 4 * defines t + 2 * length r ≤ 2 * length s

pub takes : {t : Token} {s r : List ℕ} → Spelled t s r → Takes t s r
takes (a_head N S) = let h = named_shorter N in let k = then_sign S in record { weight = omega arith; names = omega arith }
takes (a_call N f) = let h = named_shorter N in record { weight = omega arith; names = omega arith }
takes a_dot = record { weight = omega arith; names = omega arith }
takes (a_text e C) = let h = chars_shorter C in record { weight = omega arith; names = omega arith }
takes (a_class n D) = let h = parts_shorter D in record { weight = omega arith; names = omega arith }
takes (a_query a G N S) =
    let h = then_named G in let k = then_named N in let l = then_sign S in record { weight = omega arith; names = omega arith }
takes (an_if G W N S) =
    let h = then_named G in let i = then_truth W in let k = then_named N in let l = then_sign S in record { weight = omega arith; names = omega arith }
takes (an_opener a_def G N) = let h = then_named G in let k = then_named N in record { weight = omega arith; names = omega arith }
takes (an_opener a_block G N) = let h = then_named G in let k = then_named N in record { weight = omega arith; names = omega arith }
takes (an_opener a_local G N) = let h = then_named G in let k = then_named N in record { weight = omega arith; names = omega arith }
takes (an_on G W N) =
    let h = then_named G in let i = then_truth W in let k = then_named N in record { weight = omega arith; names = omega arith }
takes a_greater = record { weight = omega arith; names = omega arith }
takes a_left = record { weight = omega arith; names = omega arith }
takes a_right = record { weight = omega arith; names = omega arith }
takes a_slash = record { weight = omega arith; names = omega arith }
takes an_and = record { weight = omega arith; names = omega arith }
takes a_not = record { weight = omega arith; names = omega arith }
takes an_option = record { weight = omega arith; names = omega arith }
takes a_star = record { weight = omega arith; names = omega arith }
takes a_plus = record { weight = omega arith; names = omega arith }

-- ## All tokens of a text

-- What grows by a number with each token.
module _
    (m : Token → ℕ)
    (sum : List Token → ℕ)
    (none : sum [] ≡ 0)
    (more : (t : Token) (ts : List Token) → sum (t ∷ ts) ≡ m t + sum ts)
    (bad_none : m bad ≡ 0)
    (each : (t : Token) (s r : List ℕ) → Spelled t s r → m t + 2 * length r ≤ 2 * length s)
  where
    only_bad : sum (bad ∷ []) ≡ 0
    only_bad = omega (arith, more bad [], none, bad_none)

    total : (fuel : ℕ) (s : List ℕ) → sum (bare (lexed fuel s)) ≤ 2 * length s
    unfolding lexed
    total zero s = omega (arith, only_bad)
    total (suc fuel) s = go (gap s) refl (gap_sound s) (λ r. total fuel r)
      where
        on :
            (b : ℕ) (u : List ℕ) → gap s ≡ past (b ∷ u) → Gap s (b ∷ u) → (p : Piece Token) → token b u ≡ p → Yields (λ t r. Spelled t (b ∷ u) r) p
            → ((r : List ℕ) → sum (bare (lexed fuel r)) ≤ 2 * length r) → sum (bare (lexed (suc fuel) s)) ≤ 2 * length s
        on b u e g no f y ih = rw (e, f, lexed) (omega (arith, only_bad))
        on b u e g (piece t r) f (yields S) ih =
            rw (e, f, lexed) (omega (arith, more t (bare (lexed fuel r)), ih r, each t (b ∷ u) r S, gap_shorter g))

        go : (o : Skipped) → gap s ≡ o → Gives (Gap s) o → ((r : List ℕ) → sum (bare (lexed fuel r)) ≤ 2 * length r)
            → sum (bare (lexed (suc fuel) s)) ≤ 2 * length s
        go (unclosed c) e g ih = rw (e, lexed) (omega (arith, only_bad))
        go (past []) e (gives g) ih = rw (e, lexed) (omega (arith, none))
        go (past (b ∷ u)) e (gives g) ih = on b u e g (token b u) refl (token_sound b u) ih

pub weight_bound : (text : List ℕ) → weight_in (tokens text) ≤ 2 * length text
unfolding lexemes weight_in
weight_bound text = total weight_of weight_in refl (λ t ts. refl) refl (λ t s r S. (takes S).weight) (suc (length text)) text

pub names_bound :
    (f : Token → List Name) → ((t : Token) → length (f t) ≤ defines t) → (text : List ℕ) → 2 * length (per_token f (tokens text)) ≤ length text
unfolding lexemes per_token
names_bound f h text =
    let k = total (λ t. 4 * length (f t)) (λ ts. 4 * length (per_token f ts)) refl (λ t ts. omega (arith, length-append (f t) (per_token f ts)))
    (omega (arith, h bad)) (λ t s r S. omega (arith, (takes S).names, h t)) (suc (length text)) text
    in omega arith
