-- What a grammar is. Every other crate speaks of these definitions.
pub mod Expr
pub mod Grammar
pub mod Sound
