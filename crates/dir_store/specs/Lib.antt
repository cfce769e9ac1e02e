pub mod Folder
pub mod Named
