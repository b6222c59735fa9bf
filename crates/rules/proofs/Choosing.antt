-- The laws of matching and selection, and the third demand.
pub mod Entries
pub mod Phrases
pub mod Choices
pub mod Demands
