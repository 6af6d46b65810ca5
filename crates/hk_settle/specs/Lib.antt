pub mod Due
pub mod Waits
pub mod Needs
pub mod Meets
