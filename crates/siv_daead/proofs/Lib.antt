pub mod SivLemmas
pub mod BlockLemmas
pub mod XorEndLemmas
