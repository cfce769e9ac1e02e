pub mod Grammar
pub mod Names
pub mod Rows
pub mod Words
