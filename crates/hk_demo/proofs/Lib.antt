pub mod Playing
pub mod Spelled
