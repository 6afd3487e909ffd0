-- Theorems that rest on one which an edit of must-fail/ makes false, and the lemmas that only they need. The definitions are in specs/.
pub mod OnlyWritten
pub mod ReadBack
pub mod RoundTrip
