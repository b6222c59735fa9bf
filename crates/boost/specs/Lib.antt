pub mod Row
pub mod Top
pub mod Digits
pub mod Decimal
pub mod Numeral
