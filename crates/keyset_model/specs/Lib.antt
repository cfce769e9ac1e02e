pub mod Changes
pub mod Keyset
pub mod Listing
pub mod Reading
pub mod Steps
pub mod WellFormed
pub mod Writing
