pub mod Shared
pub mod Streams
