-- Lemmas of the indicator
pub mod Tables
pub mod Weighed
