pub mod Figures
pub mod Kinds
pub mod Lines
pub mod Cards
pub mod Written
