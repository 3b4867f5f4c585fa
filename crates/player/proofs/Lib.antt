-- Lemmas of the player
pub mod Digits
pub mod Walks
pub mod Blanks
