pub mod Extended
pub mod Granted
pub mod Drafting
pub mod Waiting
pub mod Somewhere
