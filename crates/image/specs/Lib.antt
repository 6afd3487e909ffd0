-- What the code of this crate gives, in terms of the format: a node as it is kept, the array that a walk fills, and the laws between them.
pub mod Word
pub mod Shapes
pub mod Node
pub mod NodeLaws
pub mod Meant
pub mod Filled
pub mod FilledLaws
pub mod LoadLaws
pub mod Unique
