pub mod Found
pub mod Laws
pub mod Made
pub mod Schemes
pub mod Standard
pub mod Table
pub mod Uses
