pub mod Machine
pub mod Law
pub mod Starts
pub mod Runs
