pub mod First
pub mod Says
