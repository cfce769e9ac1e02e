pub mod Applying
pub mod Draws
pub mod Edits
pub mod Laws
