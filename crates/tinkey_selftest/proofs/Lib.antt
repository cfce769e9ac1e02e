pub mod CountLemmas
pub mod EntropyLemmas
pub mod KeyLemmas
pub mod LostLemmas
pub mod ShortLemmas
pub mod DrawnLemmas
pub mod LoopLemmas
