-- The laws of rewriting: a round, all rounds, and what they come to.
pub mod Boosts
pub mod Kinds
pub mod Walk
pub mod Rounds
pub mod Measures
pub mod Bounds
pub mod Weights
pub mod Merging
pub mod Tidiness
pub mod Truth
pub mod Ways
pub mod Eating
pub mod Worked
pub mod Spans
