pub mod ListLemmas
pub mod ReadingLemmas
pub mod SizeLemmas
pub mod StandardLemmas
