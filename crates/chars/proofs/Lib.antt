-- Laws that several proofs cite.
pub mod WrittenLaws
pub mod ClassLaws
pub mod RowLaws
pub mod CompareLaws
