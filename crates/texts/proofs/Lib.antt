pub mod Flags
pub mod Unescaped
