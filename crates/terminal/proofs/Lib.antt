-- Lemmas of the terminal
pub mod Differences
pub mod LookUps
