pub mod Values
pub mod Elements
