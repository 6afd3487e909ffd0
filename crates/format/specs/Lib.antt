-- How a grammar is written as an image and how an image is read: what one must believe, and beside it the laws that show that the two fit together.
-- Theorems that rest on one which an edit of must-fail/ makes false are in proofs/.
pub mod Reading
pub mod ReadingLaws
pub mod Number
pub mod NumberLaws
pub mod Written
pub mod Image
pub mod ImageLaws
pub mod OnlyWritten
pub mod ReadBack
pub mod RoundTrip
pub mod Cases
