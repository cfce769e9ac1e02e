pub mod KnownBytes
pub mod ListedWords
pub mod FillingSlices
pub mod DrawnAhead
pub mod KeptNames
pub mod DeviceLemmas
