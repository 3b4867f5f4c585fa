pub mod TheExample
pub mod Filling
