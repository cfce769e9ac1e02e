mod DigitLemmas
mod LaneLemmas
