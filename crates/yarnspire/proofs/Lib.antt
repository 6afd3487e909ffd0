-- Laws that proofs cite by their functions' attributes.
pub mod CheckLaws
