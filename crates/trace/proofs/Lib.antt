-- Bytes that are looked for, and what ends at them
pub mod Finding
-- words: numbers, and one after another
pub mod WordsRead
pub mod WordsTaken
-- lines
pub mod LinesRead
