-- Laws that the proofs of the functions cite.
pub mod StepLaws
pub mod GatherLaws
pub mod WhereLaws
pub mod SeekLaws
pub mod LongLaws
pub mod UndefinedLaws
pub mod WeightLaws
pub mod HeadLaws
pub mod EndLaws
pub mod OverLaws
pub mod ImageLaws
pub mod PlaceLaws
pub mod FillLaws
pub mod FirstLaws
pub mod RootLaws
