pub mod Cells
pub mod Putting
