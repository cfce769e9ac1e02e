pub mod EnvelopeLaws
pub mod EnvelopeSteps
pub mod Enveloped
pub mod Enveloping
