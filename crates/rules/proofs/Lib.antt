-- The proofs, from the lowest up

-- numbers, fields and rows
pub mod Digits
pub mod Decimals
pub mod Fields
pub mod Fits
pub mod BlankRows
pub mod Reading
pub mod Wear
pub mod RowLaws
pub mod Judging
-- loads, settings and ticket lines
pub mod LoadLaws
pub mod SettingLaws
pub mod TicketLaws
-- the memory: the round and its order, the next row, what changes it
pub mod Options
pub mod Counting
pub mod Rounds
pub mod Orders
pub mod Seen
pub mod Memories
pub mod Places
pub mod Changes
pub mod Erasing
pub mod MemoryLaws
pub mod MediaLaws
-- lists of calls and cuts: what the indicator shows, and what the memory holds
pub mod Histories
pub mod Windows
pub mod Weighings
pub mod Indicators
pub mod Holdings
pub mod NextRowLaws
pub mod Erasures
pub mod Storings
pub mod Refusals
pub mod Runs
-- single calls, and worked cases
pub mod OrderLaws
pub mod VerifyLaws
pub mod FirstStore
pub mod WorkedCases
-- traces
pub mod TraceLaws
pub mod ReplayLaws
