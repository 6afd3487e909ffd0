-- Theorems that rest on one which an edit of must-fail/ makes false, and the lemmas that only they need. The definitions are in specs/.
pub mod Complete
pub mod Sound
pub mod Exact
pub mod Counted
pub mod Remain
pub mod Scopes
pub mod Pilot
pub mod Room
pub mod Demands
pub mod Shams
