pub mod Measured
pub mod Leaves
pub mod Starting
pub mod Written
pub mod Joining
