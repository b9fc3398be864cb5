-- That the three actions keep the laws. These proofs stand here, and not in proofs/, since the actions' ghost members cite them.
pub mod Least
pub mod Lines
pub mod Matrices
pub mod Models
pub mod Residues
pub mod Spans
pub mod Vectors
