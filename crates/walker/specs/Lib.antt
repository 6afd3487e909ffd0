-- What the walk's numbers stand for, and what its functions promise.
pub mod Acts
pub mod Walks
pub mod SymbolLaws
pub mod Steps
pub mod Tells
