pub mod Levels
pub mod Lines
pub mod Matrices
pub mod Vectors
pub mod laws
