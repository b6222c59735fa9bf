pub mod Entry
pub mod Search
pub mod Slots
