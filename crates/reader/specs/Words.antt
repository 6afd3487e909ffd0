-- What is said of a fault.
use Rattle.std.specs.Prelude.{ℕ, List, codes}
use Rattle.reader.specs.declared.refusal.Fault.{Fault}
use Rattle.reader.specs.declared.refusal.Fault.TheVariants.{TooLong, Cut, BadNumber, Edition, Counts, Tag, Range, Trailing}

-- The words for each, in bytes.
abbrev pub words_of : Fault → List ℕ
words_of TooLong = codes "the image is over 16,384 bytes"
words_of Cut = codes "the image ends too early"
words_of BadNumber = codes "a number is badly written"
words_of Edition = codes "the edition is not 1"
words_of Counts = codes "too many tables, conditions or nodes, or no node"
words_of Tag = codes "no kind has this tag"
words_of Range = codes "a start, pattern or operand is outside its range"
words_of Trailing = codes "bytes after the last node"
