pub mod KeyValues
pub mod StreamValues
