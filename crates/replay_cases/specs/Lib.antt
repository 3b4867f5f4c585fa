-- What the contracts of the program say with
pub mod Bundles
