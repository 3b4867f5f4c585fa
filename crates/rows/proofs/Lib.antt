-- Lines and the rows that they write
pub mod Pairs
pub mod Decoded
