pub mod Contents
pub mod KeyTypes
pub mod Keys
pub mod Reading
pub mod Rules
pub mod Templates
pub mod Writing
