pub mod Wanted
pub mod Marks
