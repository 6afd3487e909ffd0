-- What the evaluator promises, and the laws of it.
pub mod Told
pub mod ToldLaws
pub mod Ready
pub mod ReadyLaws
pub mod StartLaws
pub mod DoneLaws
pub mod EntryLaws
pub mod StarLaws
pub mod EntryNeeds
pub mod Unique
