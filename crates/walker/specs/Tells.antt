-- What the reading of a text tells: whether it is of the notation, and if not, where its reading stops. It tells one thing of a text.
use Rattle.std.specs.Prelude.{ℕ, ◌≡◌, refl, true, false, List, Result, Ok, Err}
use Rattle.std.proofs.Common.{ap}
use Rattle.notation.specs.LexicalText.{no_way}
use Rattle.notation.specs.Lexer.{tokens}
use Rattle.notation.specs.Stream.{streamed}
use Rattle.notation.specs.Reader.{came}
use Rattle.notation.specs.Stops.{StopsAt}
use Rattle.notation.specs.StopsLaws.{one_place}
use Rattle.walker.specs.declared.walk.Unread.{Unread}

abbrev pub Tells : List ℕ → Result Unit Unread → Type 0
Tells text (Ok u) = came (streamed (tokens text)) ≡ true
Tells text (Err u) = (came (streamed (tokens text)) ≡ false) × StopsAt text u.at

pub tells_one : (text : List ℕ) (r q : Result Unit Unread) → Tells text r → Tells text q → r ≡ q
tells_one text (Ok u) (Ok v) a b = refl
tells_one text (Ok u) (Err q) a b = let z = b.0 in no_way (cc)
tells_one text (Err p) (Ok u) a b = let z = a.0 in no_way (cc)
tells_one text (Err p) (Err q) a b = ap (λ n. Err (record { at = n })) (one_place p.at q.at a.1 b.1)
