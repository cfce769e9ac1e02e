pub mod PartValues
