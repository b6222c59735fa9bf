pub mod Bits
pub mod Cut
pub mod Plan
pub mod Ask
pub mod Turn
pub mod All
