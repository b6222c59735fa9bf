pub mod Answer
pub mod Lays
pub mod Lines
pub mod Node
