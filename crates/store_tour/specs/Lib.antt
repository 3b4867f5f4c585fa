-- What the tour's own store does
pub mod Examples
