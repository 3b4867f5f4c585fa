-- The rules of a weighbridge terminal over an alibi memory, in the order in which they are best read.
-- Definitions first: loads, records, rows, ticket lines, the memory, the terminal and its calls, and what a power cut leaves.
-- Then what is promised over lists of calls and cuts (History, Promise), how calls are written down (Trace), and what a replay of them writes (Replay).
-- Last what is promised of each definition by itself (Laws), and worked cases (Cases).
pub mod Lists
pub mod Loads
pub mod Settings
pub mod Records
pub mod Rows
pub mod Tickets
pub mod Memory
pub mod Media
pub mod Faults
pub mod Terminal
pub mod Cuts
pub mod History
pub mod Promise
pub mod Trace
pub mod Replay
pub mod Laws
pub mod Cases
