pub mod Hmac
pub mod Hkdf
pub mod Cmac
pub mod HasherState
pub mod HmacState
pub mod CmacState
pub mod Laws
