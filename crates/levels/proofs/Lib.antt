pub mod Alike
pub mod Euclid
pub mod LineMembers
pub mod MatrixMembers
pub mod Members
pub mod Primitives
pub mod VectorMembers
