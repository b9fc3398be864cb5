pub mod Division
pub mod Gcd
pub mod Residues
