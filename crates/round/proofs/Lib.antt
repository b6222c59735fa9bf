pub mod Tallies
pub mod Finishing
pub mod Phrases
pub mod Booleans
pub mod Nested
pub mod Cycling
