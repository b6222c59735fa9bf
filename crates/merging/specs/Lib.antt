pub mod Merge
pub mod Signatures
