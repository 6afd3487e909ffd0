-- Laws that several proofs cite.
pub mod ChoiceLaws
pub mod LeafLaws
