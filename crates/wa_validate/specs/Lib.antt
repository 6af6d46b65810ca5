pub mod Slots
pub mod Depths
pub mod Labels
pub mod Needs
pub mod Steps
pub mod Untyped
pub mod AreTyped
pub mod Verdicts
