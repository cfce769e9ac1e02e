pub mod CounterLemmas
pub mod ProductLemmas
