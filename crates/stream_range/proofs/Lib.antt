pub mod PieceLemmas
pub mod TryLemmas
pub mod RunLemmas
pub mod RangeLemmas
