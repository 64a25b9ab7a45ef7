pub mod Bisection
pub mod Midpoint
pub mod Points
