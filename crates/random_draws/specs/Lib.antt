pub mod Runs
pub mod Sessions
pub mod Slices
pub mod Steps
