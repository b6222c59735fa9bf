pub mod Law
pub mod Marking
pub mod Occurring
