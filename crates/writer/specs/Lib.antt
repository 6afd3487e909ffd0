-- What a text is made of, as bytes in a lent buffer: what the code's values stand for, and what its functions promise.
pub mod Put
pub mod PutLaws
pub mod Named
pub mod NamedLaws
pub mod Leaf
pub mod Operator
