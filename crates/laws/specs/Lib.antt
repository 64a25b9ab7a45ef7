pub mod Meaning
pub mod TwoLine
pub mod Points
pub mod PointsLawful
pub mod Worked
pub mod Written
pub mod Range
