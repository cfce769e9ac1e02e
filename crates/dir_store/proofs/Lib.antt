pub mod Copies
pub mod LoadedBytes
