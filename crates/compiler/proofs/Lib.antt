-- Laws that several proofs cite.
pub mod ListedLaws
pub mod RuledLaws
pub mod AnswerLaws
pub mod FewLaws
pub mod NumberLaws
pub mod PartLaws
pub mod EmitLaws
pub mod MadeLaws
