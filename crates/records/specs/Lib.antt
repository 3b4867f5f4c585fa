-- What the values of this crate mean in the rules
pub mod Widths
pub mod Streams
pub mod Meaning
pub mod RecordsOf
pub mod WeighingsOf
pub mod FieldsOf
pub mod Verdicts
