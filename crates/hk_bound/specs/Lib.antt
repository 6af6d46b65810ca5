pub mod Acceptance
pub mod Bounds
pub mod Checks
pub mod Entries
pub mod Laws
pub mod Weights
