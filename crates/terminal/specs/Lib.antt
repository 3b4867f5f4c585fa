-- What a terminal and its answers mean in the rules
pub mod Worlds
pub mod FaultsOf
pub mod Answers
