-- That the action on origamis keeps the laws. These proofs stand here, and not in proofs/, since the action's ghost members cite them.
pub mod Injections
pub mod Leasts
pub mod Numberings
pub mod Orders
pub mod Origamis
pub mod Padded
pub mod Places
pub mod Renumberings
pub mod Steps
pub mod Wholes
