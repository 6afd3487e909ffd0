-- What the kinds make of an outcome, and the laws of it.
pub mod Held
pub mod Turned
pub mod TurnedLaws
