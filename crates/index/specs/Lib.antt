-- Names of a text in byte order, each once, as the code keeps them.
pub mod Listed
pub mod OrderLaws
pub mod ListedLaws
pub mod PlaceLaws
