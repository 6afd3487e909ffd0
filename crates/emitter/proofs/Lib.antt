-- Laws that several proofs cite.
pub mod MarkLaws
pub mod AptLaws
pub mod EmitLaws
