-- What the types of the reader mean in the rules
pub mod Places
pub mod Meaning
