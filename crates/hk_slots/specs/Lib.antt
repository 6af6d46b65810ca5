pub mod Slots
pub mod Part
