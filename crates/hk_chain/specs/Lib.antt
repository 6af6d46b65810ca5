pub mod Calls
pub mod Plays
pub mod Chain
pub mod Callback
pub mod Programs
pub mod Meets
pub mod Laws
