pub mod Settings
pub mod Places
pub mod Overrides
pub mod Skips
pub mod SlotRows
pub mod Emitting
pub mod Codes
