-- The laws of bytes and of the stored form: numbers, parts, what is written and what is read.
pub mod Bigs
pub mod Widths
pub mod Parts
pub mod Rows
pub mod Tags
pub mod Leaves
pub mod Refusals
pub mod Steps
pub mod Cutting
pub mod Inverse
pub mod Sound
pub mod Accepted
pub mod Equal
pub mod Faults
pub mod Sizes
pub mod Weights
pub mod Views
