pub mod Noted
pub mod Parsed
