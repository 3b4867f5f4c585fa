-- The records of a memory, one by one
pub mod Judged
pub mod Scans
pub mod PageScans
pub mod NextRows
pub mod Storings
pub mod Turns
pub mod Firsts
pub mod Releases
