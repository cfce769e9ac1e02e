pub mod Cause
pub mod Left
pub mod NotText
pub mod Program
pub mod Progress
pub mod Terminals
