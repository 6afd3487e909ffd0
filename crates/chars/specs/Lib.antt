-- Bytes and parts as they are written, and what the code's values say of them.
pub mod Char
pub mod CharLaws
pub mod Meant
