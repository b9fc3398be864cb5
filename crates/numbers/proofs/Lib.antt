pub mod Congruence
pub mod Divided
pub mod Gcd
pub mod Integers
pub mod Ring
