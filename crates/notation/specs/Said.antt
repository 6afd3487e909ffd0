-- WHAT IS SAID OF A TEXT. 02, L2: taken exactly if it is short enough, the notation derives it, and its reading passes; 20 if it is over 65,535 bytes, or not of
-- the notation.
use Rattle.std.specs.Prelude.{ℕ, ◌≤◌, ◌<◌, List, length}
use Rattle.notation.specs.Tree.{Production}
use Rattle.notation.specs.Text.{ReadsAs}
use Rattle.notation.specs.Stops.{StopsAt}
use Rattle.notation.specs.Judged.{Answer, refused, judged}

-- `room` is the length of the buffer that is lent for the image.
pub data Says (text : List ℕ) (room : ℕ) : Answer → Type 0 where
  too_long : 65535 < length text → Says text room (refused 20 65535)
  unread : {p : ℕ} → length text ≤ 65535 → StopsAt text p → Says text room (refused 20 p)
  read : {ps : List Production} → length text ≤ 65535 → (r : ReadsAs text ps) → Says text room (judged text room ps r.lexemes)
