pub mod Device
pub mod Memory
pub mod Stored
pub mod Skipped
pub mod Reading
pub mod Answers
