pub mod Laws
pub mod Numbers
pub mod Ready
pub mod Telling
pub mod Trial
