pub mod Siv
pub mod Laws
