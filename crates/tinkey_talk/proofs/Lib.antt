pub mod EndLemmas
pub mod FeedLemmas
pub mod SaveLemmas
