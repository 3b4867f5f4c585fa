-- Bits in words
pub mod PackedBits
pub mod DigitsOut
pub mod Bases
pub mod Marking
pub mod Lawful
pub mod RowsRead
pub mod Looks
pub mod Writing
