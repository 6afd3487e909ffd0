-- The operands of a node as a word, by their shape, and the numbers that an image begins with: what the functions that read them promise.
use Rattle.std.specs.Prelude.{ℕ, ◌+◌, List, leb, length, get_or}
use Rattle.format.specs.Reading.{Reading, got, fault, pick, ◌then◌}
use Rattle.format.specs.Image.{Head, within, below, bounded, kinds}
use Rattle.image.specs.Word.{packed, switch, keep}

-- A word with its last operand in it.
abbrev pub word1 : (tag a at : ℕ) → Reading ℕ
word1 tag a at = got (packed tag a 0) at

abbrev pub word2 : (tag a b at : ℕ) → Reading ℕ
word2 tag a b at = got (packed tag a b) at

abbrev pub switched : (c truth at : ℕ) → Reading ℕ
switched c truth at = got (switch c truth) at

module _ (image : List ℕ) where
  -- The last operand, below `stop`, after a first one.
  abbrev pub last_at : (tag stop a at : ℕ) → Reading ℕ
  last_at tag stop a at = bounded image 7 0 stop at then word2 tag a

  -- The higher end of a range, after its lower end.
  abbrev pub high_at : (lo at : ℕ) → Reading ℕ
  high_at lo at = bounded image 7 lo 256 at then word2 2 lo

  -- k raw bytes, which are passed over: their place and their count are kept.
  abbrev pub bytes_at : (k at : ℕ) → Reading ℕ
  bytes_at k at = pick (leb (at + k) (length image)) (got (packed 4 at k) (at + k)) (fault 2 (length image))

  -- The truth of a condition, after the condition.
  abbrev pub truth_of : (c at : ℕ) → Reading ℕ
  truth_of c at = bounded image 7 0 2 at then switched c

  abbrev pub one_at : (tag stop at : ℕ) → Reading ℕ
  one_at tag stop at = bounded image 7 0 stop at then word1 tag

  abbrev pub two_at : (tag first second at : ℕ) → Reading ℕ
  two_at tag first second at = bounded image 7 0 first at then last_at tag second

  abbrev pub range_at : ℕ → Reading ℕ
  range_at at = bounded image 7 0 256 at then high_at

  abbrev pub text_at : ℕ → Reading ℕ
  text_at at = bounded image 7 1 65 at then bytes_at

  abbrev pub switch_at : (conditions at : ℕ) → Reading ℕ
  switch_at conditions at = bounded image 7 0 conditions at then truth_of

  abbrev pub if_at : (conditions at : ℕ) → Reading ℕ
  if_at conditions at = switch_at conditions at then word1 17

  abbrev pub on_at : (conditions own at : ℕ) → Reading ℕ
  on_at conditions own at = switch_at conditions at then last_at 18 own

  -- The operands after a tag, as a word.
  abbrev pub operands_at : (T C N own tag at : ℕ) → Reading ℕ
  operands_at T C N own tag at = get_or (kinds image T C N own) tag (fault 6) at then keep

  -- The numbers that an image begins with, from a place on; those of the image itself are from 0 on.
  abbrev pub head_from : ℕ → Reading Head
  head_from at =
      within image 4 1 1 at then λ edition at.
      within image 5 0 8 at then λ tables at.
      within image 5 0 8 at then λ conditions at.
      within image 5 1 512 at then λ nodes at.
      below image nodes at then λ start at.
      got (record { tables = tables; conditions = conditions; nodes = nodes; start = start }) at
