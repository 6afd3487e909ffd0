-- What the parts promise, and the laws of it.
pub mod Made
pub mod Packed
pub mod PackedLaws
pub mod Slots
pub mod SlotsLaws
pub mod Seen
