-- Laws that the proofs of several functions cite.
pub mod ReadLaws
pub mod VerdictLaws
pub mod ShapeLaws
pub mod FillLaws
pub mod WalkLaws
