-- What the values of this crate mean in the rules
pub mod FaultsOf
pub mod StatesOf
pub mod Tares
pub mod Meaning
pub mod Bounds
pub mod Entries
pub mod Answers
