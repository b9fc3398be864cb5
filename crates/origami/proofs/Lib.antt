pub mod Filled
pub mod Insides
pub mod Lexical
pub mod Listings
pub mod Marks
pub mod Smallest
pub mod Veech
pub mod Visits
