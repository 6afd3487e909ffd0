-- What the passes over a text's tokens promise.
pub mod Told
pub mod Found
pub mod Gathered
pub mod BoundLaws
pub mod GatheredLaws
pub mod UndefinedLaws
pub mod Sized
pub mod SizedLaws
pub mod Rooted
