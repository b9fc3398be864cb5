pub mod Forms
pub mod Gluings
pub mod Listings
pub mod Numberings
pub mod Origamis
pub mod Refusals
pub mod Squares
pub mod laws
