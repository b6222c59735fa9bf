pub mod Placed
pub mod Forms
pub mod Laid
pub mod Rows
pub mod Eating
pub mod Alike
pub mod Cells
pub mod Merging
