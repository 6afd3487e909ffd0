-- The nodes of a text, written by one walk over its symbols: what is known on the way, and what the code's arrays show of it.
pub mod Stage
pub mod Known
pub mod KnownLaws
pub mod Shown
pub mod ShownLaws
pub mod StepLaws
pub mod StageLaws
pub mod Emitted
pub mod EmittedLaws
