pub mod Numbers
pub mod Forms
pub mod Commands
pub mod Faults
pub mod Printed
pub mod Materials
pub mod Jobs
