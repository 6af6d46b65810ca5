pub mod Answers
pub mod Guards
pub mod Imports
pub mod Loops
pub mod Passing
pub mod Ruling
pub mod Sparing
