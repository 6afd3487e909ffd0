-- What is said of a text, and its image, as the code gives it.
pub mod Refusals
pub mod Compiles
pub mod CompilesLaws
pub mod Judges
pub mod Images
