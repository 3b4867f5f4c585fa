-- What the program writes for a line of its input
pub mod Hex
pub mod Replies
pub mod Lines
