-- What the public face promises, and the theorems about the promises.
pub mod Answer
pub mod RefusalLaws
pub mod Ended
pub mod Promise
pub mod EndLaws
pub mod PromiseLaws
pub mod Unique
pub mod Raised
pub mod Compile
pub mod CompileLaws
