pub mod Whole
pub mod TwoLine
pub mod Points
pub mod Firsts
pub mod Walk
pub mod Interpolation
