pub mod CmacLemmas
pub mod HkdfLemmas
pub mod HmacLemmas
pub mod ByteLemmas
