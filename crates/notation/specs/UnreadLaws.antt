-- `lexemes` and the lexical rules are one, for every text: its tokens go as far as the rules say, and at most one list of lexemes is theirs.
use Rattle.std.specs.Prelude.{ℕ, zero, suc, ◌<◌, ◌≡◌, refl, List, [], ◌∷◌, length}
use Rattle.std.proofs.Common.{ap, sym, ◌∙◌, arith}
use Rattle.notation.specs.Token.{Token, bad, Lexeme}
use Rattle.notation.specs.Lexical
use Rattle.notation.specs.Lexical.{Gap, Spelled, Lexes}
use Rattle.notation.specs.Unread.{LexesTo, stuck}
use Rattle.notation.specs.Unread as U
use Rattle.notation.specs.LexicalGap.{gap_skips, unclosed_skips, unclosed_sound, Gives, gives, gap_sound}
use Rattle.notation.specs.LexicalText.{Yields, yields, yields_none, no_way}
use Rattle.notation.specs.LexicalToken.{token_of, token_complete, token_sound}
use Rattle.notation.specs.ShorterLaws.{gap_shorter, token_shorter}
use Rattle.notation.specs.Lexer.{Piece, piece, no, Skipped, past, unclosed, gap, token, lexed, lexemes}

-- ## Complete

abbrev at : List ℕ → Token → Lexeme
at s t = record { here = s; token = t }

lexed_end : (fuel : ℕ) (s : List ℕ) → gap s ≡ past [] → lexed (suc fuel) s ≡ []
unfolding lexed
lexed_end fuel s e = rw (e, lexed)

lexed_token :
    (fuel : ℕ) (s u : List ℕ) (t : Token) (r : List ℕ) → gap s ≡ past u → token_of u ≡ piece t r → lexed (suc fuel) s ≡ at u t ∷ lexed fuel r
unfolding lexed token_of
lexed_token fuel s [] t r e f = no_way (cc)
lexed_token fuel s (b ∷ u) t r e f = rw (e, f, lexed)

lexed_none : (fuel : ℕ) (s c : List ℕ) → gap s ≡ unclosed c → lexed (suc fuel) s ≡ at c bad ∷ []
unfolding lexed
lexed_none fuel s c e = rw (e, lexed)

lexed_no : (fuel : ℕ) (s : List ℕ) (b : ℕ) (u : List ℕ) → gap s ≡ past (b ∷ u) → token b u ≡ no → lexed (suc fuel) s ≡ at (b ∷ u) bad ∷ []
unfolding lexed
lexed_no fuel s b u e f = rw (e, f, lexed)

-- Where no token is spelled, none is found.
none_found : (b : ℕ) (u : List ℕ) → ((t : Token) (r : List ℕ) → Spelled t (b ∷ u) r → ⊥) → token b u ≡ no
none_found b u f = go (token_sound b u)
  where
    go : {p : Piece Token} → Yields (λ t r. Spelled t (b ∷ u) r) p → p ≡ no
    go (yields {x = t} {r = r} S) = absurd (f t r S)
    go yields_none = refl

lexed_complete : {s : List ℕ} {ls : List Lexeme} → LexesTo s ls → (fuel : ℕ) → length s < fuel → lexed fuel s ≡ ls
lexed_complete L zero h = absurd (omega arith)
lexed_complete (U.finish {s = s} g) (suc fuel) h = lexed_end fuel s (gap_skips g)
lexed_complete (U.token {t = t} {s = s} {u = u} {r = r} g S L) (suc fuel) h =
    lexed_token fuel s u t r (gap_skips g) (token_complete S)
    ∙ ap (λ ls. at u t ∷ ls) (lexed_complete L fuel (omega (arith, gap_shorter g, token_shorter S)))
lexed_complete (stuck {b = b} {s = s} {u = u} g f) (suc fuel) h = lexed_no fuel s b u (gap_skips g) (none_found b u f)
lexed_complete (U.unclosed {s = s} {c = c} k) (suc fuel) h = lexed_none fuel s c (unclosed_skips k)

-- ## Sound

-- Where none is found, no token is spelled.
none_spelled : (b : ℕ) (u : List ℕ) → token b u ≡ no → (t : Token) (r : List ℕ) → Spelled t (b ∷ u) r → ⊥
unfolding token_of
none_spelled b u e t r S = let z = token_complete S in no_way (cc)

lexed_sound : (fuel : ℕ) (s : List ℕ) → length s < fuel → LexesTo s (lexed fuel s)
lexed_sound zero s h = absurd (omega arith)
lexed_sound (suc fuel) s h = go (gap s) refl (gap_sound s) (lexed_sound fuel)
  where
    on : (b : ℕ) (u : List ℕ) → gap s ≡ past (b ∷ u) → Gap s (b ∷ u) → (p : Piece Token) → token b u ≡ p → Yields (λ t r. Spelled t (b ∷ u) r) p
        → ((r : List ℕ) → length r < fuel → LexesTo r (lexed fuel r)) → LexesTo s (lexed (suc fuel) s)
    on b u e g no f y more = rw (lexed_no fuel s b u e f) (stuck g (none_spelled b u f))
    on b u e g (piece t r) f (yields S) more =
        rw (lexed_token fuel s (b ∷ u) t r e (unfold token_of in f)) (U.token g S (more r (omega (arith, gap_shorter g, token_shorter S))))

    go : (o : Skipped) → gap s ≡ o → Gives (Gap s) o → ((r : List ℕ) → length r < fuel → LexesTo r (lexed fuel r)) → LexesTo s (lexed (suc fuel) s)
    go (unclosed c) e g more = rw (lexed_none fuel s c e) (U.unclosed (unclosed_sound s c e))
    go (past []) e (gives g) more = rw (lexed_end fuel s e) (U.finish g)
    go (past (b ∷ u)) e (gives g) more = on b u e g (token b u) refl (token_sound b u) more

-- ## The theorems

-- EVERY TEXT'S TOKENS GO SOME WAY.
pub lexes_to : (s : List ℕ) → LexesTo s (lexemes s)
unfolding lexemes
lexes_to s = lexed_sound (suc (length s)) s (omega arith)

-- ONE WAY.
pub lexed_once : {s : List ℕ} {ls : List Lexeme} → LexesTo s ls → lexemes s ≡ ls
unfolding lexemes
lexed_once {s} L = lexed_complete L (suc (length s)) (omega arith)

pub one_way : {s : List ℕ} {ls ms : List Lexeme} → LexesTo s ls → LexesTo s ms → ls ≡ ms
one_way L M = sym (lexed_once L) ∙ lexed_once M

-- TO THE END, where the lexical rules derive the whole text.
pub lexes_whole : {s : List ℕ} {ls : List Lexeme} → Lexes s ls → LexesTo s ls
lexes_whole (Lexical.finish g) = U.finish g
lexes_whole (Lexical.token g S L) = U.token g S (lexes_whole L)
