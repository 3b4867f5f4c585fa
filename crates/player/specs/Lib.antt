-- What a player and its replies mean in the rules
pub mod Faults
pub mod Replies
pub mod Players
pub mod Runs
