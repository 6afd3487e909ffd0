-- Laws that the proofs of several functions cite.
pub mod ActLaws
pub mod WalkLaws
pub mod NextLaws
pub mod ReadLaws
