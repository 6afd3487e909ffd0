-- `first_where` meets its promise. The loop's invariant: what is still to come has the first token of which the test holds. Assumes nothing.
use Rattle.std.proofs.Common.{◌≡◌, Bool, false}
use Rattle.notation.specs.Token.{bad}
use Rattle.notation.specs.Token as N
use Rattle.notation.specs.Places as Places
use Rattle.notation.specs.Lexer.{lexemes}
use Rattle.lexer.specs.Meant.{meant}
use Rattle.lexer.specs.Stream.{left}
use Rattle.lexer.specs.declared.token.Token.{Token}
use Rattle.naming.specs.Found.{Met}
use Rattle.naming.proofs.first.first_where.Given as goal

abbrev pub invariant-loop-t : goal.invariant-loop-t
invariant-loop-t g l =
    (goal.iterator-loop-t g).can_next l.t-iterator × (goal.iterator-loop-t g).is_finite l.t-iterator × (l.t-iterator.text.now ≡ l.text)
    × ((holds : N.Token → Bool) → holds bad ≡ false → ((t : Token) (b : Bool) → Met l.text t → goal.F-post g l.test t b → b ≡ holds (meant l.text t))
    → Places.first_where holds (left l.t-iterator) ≡ Places.first_where holds (lexemes l.text))
