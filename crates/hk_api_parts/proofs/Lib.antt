pub mod Amounts
pub mod Values
