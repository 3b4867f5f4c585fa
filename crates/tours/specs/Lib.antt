-- The example that a tour stores, and what its own store does to a memory day by day
pub mod Examples
pub mod Fills
