pub mod Selections
pub mod Exactness
pub mod Records
