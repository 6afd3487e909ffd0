-- What charging does to the tally.
pub mod Charged
pub mod Unique
