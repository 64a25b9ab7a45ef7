pub mod Points
pub mod Marks
