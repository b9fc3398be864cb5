pub mod Errors
pub mod Grown
pub mod Lines
