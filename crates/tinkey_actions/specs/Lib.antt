pub mod Lines
pub mod Rooms
pub mod StreamFile
pub mod Written
