pub mod Integers
pub mod Memory
pub mod Operators
