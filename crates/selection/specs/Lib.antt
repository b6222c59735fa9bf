pub mod Ask
pub mod Select
