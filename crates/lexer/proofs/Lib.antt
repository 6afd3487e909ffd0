-- Places of a text.
pub mod PlaceLaws
-- Gaps, a byte at a time.
pub mod GapLaws
-- Names, a byte at a time.
pub mod NameLaws
-- The lexemes of a text, by its front.
pub mod LexemeLaws
-- A `!` and a `>` behind a gap.
pub mod SignLaws
-- A name against the words, one after the other.
pub mod WordLaws
-- Kinds of tokens.
pub mod KindLaws
-- The token that begins at a place, by its first byte.
pub mod TokenLaws
-- The lexemes from a place on, by the token that the code gives there.
pub mod LexedLaws
-- Quoted texts and classes, where their tokens begin.
pub mod LeafLaws
-- An operator in angle brackets, by its parts.
pub mod OperatorLaws
-- A text's tokens, one after the other.
pub mod StreamLaws
