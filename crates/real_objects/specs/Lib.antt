pub mod Cause
pub mod Device
pub mod Naming
pub mod Placed
pub mod Streams
pub mod Words
