pub mod Shown
pub mod Keeping
pub mod Finding
