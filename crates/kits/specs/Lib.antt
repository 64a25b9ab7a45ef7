pub mod Kits
pub mod KitsLawful
pub mod Joined
pub mod Reach
pub mod Step
