-- What the values of this crate mean in the rules
pub mod Entries
pub mod Rounds
pub mod Releases
pub mod Faults
pub mod Stores
