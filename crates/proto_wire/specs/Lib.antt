pub mod Fields
pub mod Laws
pub mod Written
pub use Rattle.tink_spec.specs.Messages
pub use Rattle.tink_spec.specs.Varint
pub use Rattle.tink_spec.specs.Wire
