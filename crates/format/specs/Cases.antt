-- Cases of 01, computed over the definitions: the numbers of "Harbour cases", and image H.
use Rattle.std.specs.Prelude.{ℕ, ◌≡◌, refl, List, [], ◌∷◌, ◌++◌, map, replicate}
use Rattle.grammar.specs.Expr.{Empty, Byte, Range, Sequence, Star, Def, Is}
use Rattle.grammar.specs.Grammar.{Grammar}
use Rattle.format.specs.Reading.{got, fault}
use Rattle.format.specs.Number.{groups, number_at}
use Rattle.format.specs.Written.{encode}
use Rattle.format.specs.Image.{good, refused, read_image}

-- "127 is `7F`, 128 `80 01`, 16,383 `FF 7F`, 16,384 `80 80 01`."
numbers_written :
    map groups (127 ∷ 128 ∷ 16383 ∷ 16384 ∷ []) ≡ (0x7F ∷ []) ∷ (0x80 ∷ 0x01 ∷ []) ∷ (0xFF ∷ 0x7F ∷ []) ∷ (0x80 ∷ 0x80 ∷ 0x01 ∷ []) ∷ []
numbers_written = refl

numbers_read :
    map (λ b. number_at b 0) ((0x7F ∷ []) ∷ (0x80 ∷ 0x01 ∷ []) ∷ (0xFF ∷ 0x7F ∷ []) ∷ (0x80 ∷ 0x80 ∷ 0x01 ∷ []) ∷ [])
    ≡ got 127 1 ∷ got 128 2 ∷ got 16383 2 ∷ got 16384 3 ∷ []
numbers_read = refl

-- "`80 00` and `80 80 80` are 3; `80` at the end is 2." And 0 itself is the single byte 00; where a number is due and the
-- image ends, that is 2.
numbers_refused :
    map (λ b. number_at b 0) ((0x80 ∷ 0x00 ∷ []) ∷ (0x80 ∷ 0x80 ∷ 0x80 ∷ []) ∷ (0x80 ∷ []) ∷ (0x00 ∷ []) ∷ [] ∷ [])
    ≡ fault 3 0 ∷ fault 3 0 ∷ fault 2 1 ∷ got 0 1 ∷ fault 2 0 ∷ []
numbers_refused = refl

-- Image H: a name of letters A to Z is defined, then `=`, then the same name.
abbrev pub harbour : List ℕ
harbour =
    0x01 ∷ 0x01 ∷ 0x00 ∷ 0x08 ∷ 0x07 ∷ 0x02 ∷ 0x02 ∷ 0x41 ∷ 0x5A ∷ 0x07 ∷ 0x00 ∷ 0x05 ∷ 0x00 ∷ 0x01 ∷ 0x0A ∷ 0x00 ∷ 0x01 ∷ 0x3D ∷ 0x0C ∷ 0x00
    ∷ 0x05 ∷ 0x04 ∷ 0x05 ∷ 0x05 ∷ 0x03 ∷ 0x06 ∷ []

abbrev pub harbour_grammar : Grammar
harbour_grammar = record {
  conditions = 0;
  start = 7;
  patterns = 2 ∷ [];
  nodes = Range 0x41 0x5A ∷ Star 0 ∷ Sequence 0 1 ∷ Def 0 ∷ Byte 0x3D ∷ Is 0 ∷ Sequence 4 5 ∷ Sequence 3 6 ∷ [];
}

pub harbour_read : read_image harbour ≡ good harbour_grammar
harbour_read = refl

pub harbour_written : encode harbour_grammar ≡ harbour
harbour_written = refl

-- A byte after the last node, and 512 nodes.
after_last : read_image (harbour ++ (0x00 ∷ [])) ≡ refused 8 26
after_last = refl

most_nodes :
    read_image ((0x01 ∷ 0x00 ∷ 0x00 ∷ 0x80 ∷ 0x04 ∷ 0x00 ∷ []) ++ replicate 512 0x00)
    ≡ good (record { conditions = 0; start = 0; patterns = []; nodes = replicate 512 Empty })
most_nodes = refl
