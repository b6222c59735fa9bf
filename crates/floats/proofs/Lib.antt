pub mod Model
pub mod Widen
pub mod Shift
pub mod Narrow
pub mod Nans
