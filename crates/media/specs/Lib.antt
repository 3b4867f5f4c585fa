-- What the answers of a medium mean in the rules, and the bytes that it is over
pub mod Outcomes
pub mod Cells
