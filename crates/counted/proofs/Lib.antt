pub mod Deciding
pub mod Keeping
