-- Laws that the proofs of the functions cite.
pub mod NameLaws
pub mod SeekLaws
pub mod PutLaws
pub mod KeepLaws
