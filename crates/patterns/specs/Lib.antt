-- The patterns of a text's defs.
pub mod Bodies
-- Two walks, side by side.
pub mod Compared
-- The pass over definitions.
pub mod Pass
-- The pass over a text's defs.
pub mod Passed
