pub mod DataKeyLemmas
pub mod EnvelopeBackLemmas
pub mod EnvelopeLemmas
pub mod OpenedInPlace
