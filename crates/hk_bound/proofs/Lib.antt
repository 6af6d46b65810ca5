pub mod Acceptance
pub mod Guarding
pub mod Keeping
pub mod Refusing
pub mod Ruled
pub mod Savings
pub mod Summing
pub mod Verdicts
