-- What the reader gives, in terms of the format, and the words for each fault.
pub mod Meant
pub mod MeantLaws
pub mod Unique
pub mod Words
