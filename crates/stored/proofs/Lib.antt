pub mod Opening
pub mod Plainly
pub mod Reader
pub mod Rowing
pub mod Stepping
