pub mod Meets
pub mod Needs
pub mod Acts
