pub mod Searches
pub mod Entries
pub mod Noting
