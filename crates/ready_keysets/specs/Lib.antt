pub mod Keeping
pub mod Objects
pub mod Streaming
pub mod Texts
pub mod Unwrapping
pub mod Working
