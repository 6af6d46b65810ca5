pub mod Stored
pub mod Read
pub mod Written
pub mod Called
pub mod Ran
pub mod Engines
