-- What is used and not defined goes by the members of the two lists of names alone.
use Rattle.std.specs.Prelude.{ℕ, ◌≡◌, refl, Bool, true, false, List, [], ◌∷◌, map}
use Rattle.std.proofs.Common.{ap, ap₂, ◌∙◌}
use Rattle.std.proofs.Math.Option.{some}
use Rattle.format.specs.Reading.{pick}
use Rattle.notation.specs.Tree.{Name, Production}
use Rattle.notation.specs.Token.{Token, Lexeme}
use Rattle.notation.specs.Text.{ReadsAs}
use Rattle.notation.specs.Lexer.{lexemes}
use Rattle.notation.specs.Naming.{all, member, names, definitions}
use Rattle.notation.specs.MemberLaws.{SameMembers}
use Rattle.notation.specs.OrderLaws.{sorted_member}
use Rattle.notation.specs.Uses.{head_of, call_of, def_of, ask_of}
use Rattle.notation.specs.Places.{first_where, undefined}
use Rattle.naming.specs.Gathered.{gathered}
use Rattle.naming.specs.GatheredLaws.{heads_gathered, defs_gathered}

all_alike : (f g : Name → Bool) → ((n : Name) → f n ≡ g n) → (ns : List Name) → all f ns ≡ all g ns
unfolding all
all_alike f g h [] = refl
all_alike f g h (n ∷ ns) = ap₂ (λ a b. pick a b false) (h n) (all_alike f g h ns)

where_alike : (f g : Token → Bool) → ((t : Token) → f t ≡ g t) → (ls : List Lexeme) → first_where f ls ≡ first_where g ls
unfolding first_where
where_alike f g h [] = refl
where_alike f g h (l ∷ ls) = ap₂ (λ b o. pick b (some l) o) (h l.token) (where_alike f g h ls)

pub undefined_alike :
    (heads heads' defs defs' : List Name) → SameMembers heads heads' → SameMembers defs defs' → (ls : List Lexeme)
    → first_where (undefined heads defs) ls ≡ first_where (undefined heads' defs') ls
undefined_alike heads heads' defs defs' a b =
    where_alike (undefined heads defs) (undefined heads' defs')
    (λ t. ap₂ (λ x y. pick x (pick y false true) true) (all_alike (λ n. member n heads) (λ n. member n heads') a (call_of t))
    (all_alike (λ n. member n defs) (λ n. member n defs') b (ask_of t)))

-- WHAT IS GATHERED DECIDES IT, of a text that reads as productions.
pub undefined_gathered :
    {text : List ℕ} {ps : List Production} → ReadsAs text ps → (ls : List Lexeme)
    → first_where (undefined (gathered head_of [] (lexemes text)) (gathered def_of [] (lexemes text))) ls
    ≡ first_where (undefined (names ps) (map (λ d. d.table) (definitions ps))) ls
undefined_gathered {text} {ps} r =
    undefined_alike (gathered head_of [] (lexemes text)) (names ps) (gathered def_of [] (lexemes text)) (map (λ d. d.table) (definitions ps))
    (λ n. ap (member n) (heads_gathered r) ∙ sorted_member n (names ps))
    (λ n. ap (member n) (defs_gathered r) ∙ sorted_member n (map (λ d. d.table) (definitions ps)))
