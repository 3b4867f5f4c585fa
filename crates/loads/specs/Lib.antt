-- What the values of this crate mean in the rules
pub mod IntervalsOf
pub mod WindowsOf
pub mod ClassesOf
pub mod SettingsOf
pub mod RoundedLoads
pub mod GoodSettings
