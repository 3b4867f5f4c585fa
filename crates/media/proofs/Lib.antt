-- What the media's functions cite
pub mod Ends
pub mod Chunks
