-- The laws of numerals: the nearest float over whole numbers.
pub mod Order
pub mod Pattern
pub mod Middle
pub mod Rounding
pub mod Nearest
