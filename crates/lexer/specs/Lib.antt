-- What the tokens of the code stand for.
pub mod Meant
-- What the numbers of a gap stand for.
pub mod Gaps
-- What is promised of names.
pub mod Names
-- What is promised of the words that name operators.
pub mod Words
-- What is promised of the token that begins at a place.
pub mod Tokens
-- What is promised of the parts of an operator in angle brackets.
pub mod Operators
-- What is promised of a text's tokens, one after the other.
pub mod Stream
