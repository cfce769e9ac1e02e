pub mod Info
pub mod Laws
pub mod Sealings
pub mod Steps
pub mod Unwrapped
pub mod Wrapped
pub mod Wrapping
