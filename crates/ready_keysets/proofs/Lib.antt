pub mod DrawnLemmas
pub mod ReadyLemmas
pub mod StreamLemmas
pub mod UnwrapLemmas
