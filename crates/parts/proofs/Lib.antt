pub mod Plainly
pub mod Fronts
