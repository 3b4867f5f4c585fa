-- How large a rounded load may be, a sample that joins a window, and what a full window says
pub mod Roundings
pub mod Joins
pub mod Extents
pub mod GoodSettings
